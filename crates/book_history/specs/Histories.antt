-- "After any sequence of calls the book answers as a plain list of entries would" (request 6, reading 56): as two plain lists, one for each owner, and what is
-- free for both (request 8, reading 57), with withdrawals and tidy-ups (request 10, reading 59).
use Rattle.std.specs.Prelude.{ℕ, ◌+◌, ◌-◌, ◌/◌, ◌≤◌, Bool, true, false, ◌&&◌, not, cond, List, [], ◌∷◌, ◌≡◌, eqb, length, Ok, Err}
use Rattle.copying.specs.Times.{times}
use Rattle.passes.specs.declared.Fault.TheVariants.{NoEntry}
use Rattle.passes.specs.Reading.{answer_of}
use Rattle.letters.specs.Letters.{letters_of}
use Rattle.book_model.specs.declared.Entry.{Entry}
use Rattle.book_model.specs.Entering.{Entering}
use Rattle.book_model.specs.Entering.{Refused}
use Rattle.book_model.specs.PlainList.{Finding, Tallying, Change, Own, Free, is_taken, entering, after_entering, finding, withdrawing, after_withdrawing, tally}
use Rattle.book_model.specs.Table.{is_owner}
use Rattle.book_model.specs.Calls.{enter_answer, rows_after, book_after, list_after, find_answer, totals_answer, withdraw_answer, book_withdrawn, tidy_answer, book_tidied}

-- what an owner asks: a file with the owner's number for it and the row table that is lent; an entry number; the totals; that an entry be withdrawn
pub data Call : Type 0 where
  enter : List ℕ → ℕ → List ℕ → Call
  find : ℕ → Call
  totals : Call
  withdraw : ℕ → Call

-- what it gets: entering gives its answer and the row table afterwards
pub data Reply : Type 0 where
  entered : Entering → List ℕ → Reply
  found : Finding → Reply
  told : Tallying → Reply
  changed : Change → Reply

-- a history: calls one after the other, each with the number of its owner, and tidy-ups, which are nobody's
pub data Act : Type 0 where
  by : ℕ → Call → Act
  tidy : Act

abbrev pub History : Type 0
History = List Act

-- on lent tables: the book, and the list of file numbers taken
pub record Lent : Type 0 where
  pub book : List ℕ
  pub list : List ℕ

abbrev pub entering_in : Lent → ℕ → List ℕ → ℕ → List ℕ → Entering
entering_in l o file m table = enter_answer file m o (length table) l.book l.list

unfoldable pub reply : Lent → ℕ → Call → Reply
reply l o (enter file m table) = entered (entering_in l o file m table) (rows_after file table (entering_in l o file m table))
reply l o (find n) = found (find_answer l.book o n)
reply l o totals = told (totals_answer l.book o)
reply l o (withdraw n) = changed (withdraw_answer l.book l.list o n)

unfoldable pub call_then : Lent → ℕ → Call → Lent
call_then l o (enter file m table) =
    record { book = book_after file m o l.book (entering_in l o file m table); list = list_after m o l.list (entering_in l o file m table) }
call_then l o (find n) = l
call_then l o totals = l
call_then l o (withdraw n) = record { book = book_withdrawn o n l.book (withdraw_answer l.book l.list o n); list = l.list }

abbrev pub act_reply : Lent → Act → Reply
act_reply l (by o c) = reply l o c
act_reply l tidy = changed (tidy_answer l.book l.list)

abbrev pub lent_then : Lent → Act → Lent
lent_then l (by o c) = call_then l o c
lent_then l tidy = record { book = book_tidied l.book (tidy_answer l.book l.list); list = l.list }

abbrev pub replies : Lent → History → List Reply
replies l [] = []
replies l (a ∷ more) = act_reply l a ∷ replies (lent_then l a) more

abbrev pub lent_after : Lent → History → Lent
lent_after l [] = l
lent_after l (a ∷ more) = lent_after (lent_then l a) more

-- on what is the owner's own, where so much is free
abbrev pub entering_on : Own → Free → List ℕ → ℕ → List ℕ → Entering
entering_on own free file m table = entering own free m (letters_of file) (answer_of file (length table))

unfoldable pub own_reply : Own → Free → Call → Reply
own_reply own free (enter file m table) =
    entered (entering_on own free file m table) (rows_after file table (entering_on own free file m table))
own_reply own free (find n) = found (finding own.entries n)
own_reply own free totals = told (tally own.entries)
own_reply own free (withdraw n) = changed (withdrawing own.entries n)

unfoldable pub own_then : Own → Free → Call → Own
own_then own free (enter file m table) = after_entering own m (letters_of file) (entering_on own free file m table)
own_then own free (find n) = own
own_then own free totals = own
own_then own free (withdraw n) = after_withdrawing own n (withdrawing own.entries n)

-- nothing yet
abbrev pub nothing : Own
nothing = record { entries = []; last = 0; taken = [] }

-- The plain book: each owner's list, and what is free, of which every entry takes a row and every file number a place.
pub record PlainBook : Type 0 where
  pub first : Own
  pub second : Own
  pub free : Free

abbrev pub list_of : ℕ → PlainBook → Own
list_of o b = cond (eqb o 2) b.second b.first

abbrev pub free_then : Free → Own → Own → Free
free_then free before after =
    record {
      rows = free.rows + length before.entries - length after.entries;
      places = free.places + length before.taken - length after.taken;
    }

-- "any call with an owner other than 1 or 2" is NOENTRY
unfoldable pub no_owner : Call → Reply
no_owner (enter file m table) = entered (Refused NoEntry 0 0) table
no_owner (find n) = found (Err NoEntry)
no_owner totals = told (Err NoEntry)
no_owner (withdraw n) = changed (Err NoEntry)

unfoldable pub plain_reply : PlainBook → Act → Reply
plain_reply b (by o c) = cond (is_owner o) (own_reply (list_of o b) b.free c) (no_owner c)
plain_reply b tidy = changed (Ok tt)

unfoldable pub plain_then : PlainBook → Act → PlainBook
plain_then b (by o c) =
    cond (eqb o 1)
    (record {
      first = own_then b.first b.free c;
      second = b.second;
      free = free_then b.free b.first (own_then b.first b.free c);
    })
    (cond (eqb o 2)
    (record {
      first = b.first;
      second = own_then b.second b.free c;
      free = free_then b.free b.second (own_then b.second b.free c);
    }) b)
plain_then b tidy = b

abbrev pub plain_replies : PlainBook → History → List Reply
plain_replies b [] = []
plain_replies b (a ∷ more) = plain_reply b a ∷ plain_replies (plain_then b a) more

abbrev pub plain_after : PlainBook → History → PlainBook
plain_after b [] = b
plain_after b (a ∷ more) = plain_after (plain_then b a) more

-- tables of so many zeros, an empty book
abbrev pub zeros : ℕ → ℕ → Lent
zeros n k = record { book = times n 0; list = times k 0 }

abbrev pub empty_book : ℕ → ℕ → PlainBook
empty_book n k = record { first = nothing; second = nothing; free = record { rows = (n - 17) / 9; places = (k - 1) / 2 } }

-- whether an owner withdraws an entry in none of the acts to come
abbrev pub is_withdrawal : ℕ → ℕ → Act → Bool
is_withdrawal o m (by p (withdraw n)) = eqb p o && eqb n m
is_withdrawal o m (by p (enter file n table)) = false
is_withdrawal o m (by p (find n)) = false
is_withdrawal o m (by p totals) = false
is_withdrawal o m tidy = false

abbrev pub never_withdrawn : ℕ → ℕ → History → Bool
never_withdrawn o m [] = true
never_withdrawn o m (a ∷ more) = not (is_withdrawal o m a) && never_withdrawn o m more

-- on a table of n zeros and a list of k zeros, an empty book
pub record AsAPlainList (n k : ℕ) (history : History) : Type 0 where
  -- "every answer and everything found is what the list gives"
  pub replies-alike : replies (zeros n k) history ≡ plain_replies (empty_book n k) history
  -- "later files never alter them": what an owner finds once it finds for ever, unless it withdraws it itself
  pub lasting : (more : History) (o m : ℕ) (e : Entry) → is_owner o ≡ true → finding (list_of o (plain_after (empty_book n k) history)).entries m ≡ Ok e
      → never_withdrawn o m more ≡ true → finding (list_of o (plain_after (plain_after (empty_book n k) history) more)).entries m ≡ Ok e
  -- "Entry numbers are not given out a second time": a number that was given and is not found now is never found again
  pub gone : (more : History) (o m : ℕ) → m ≤ (list_of o (plain_after (empty_book n k) history)).last
      → finding (list_of o (plain_after (empty_book n k) history)).entries m ≡ Err NoEntry
      → finding (list_of o (plain_after (plain_after (empty_book n k) history) more)).entries m ≡ Err NoEntry
  -- "A withdrawn entry reads NOENTRY", straight behind its withdrawal and after whatever comes then
  pub withdrawn : (more : History) (o m : ℕ) → is_owner o ≡ true → withdrawing (list_of o (plain_after (empty_book n k) history)).entries m ≡ Ok tt
      → finding (list_of o (plain_after (plain_then (plain_after (empty_book n k) history) (by o (withdraw m))) more)).entries m ≡ Err NoEntry
  -- "its file number stays taken"
  pub stays-taken : (more : History) (o m : ℕ) → is_taken m (list_of o (plain_after (empty_book n k) history)).taken ≡ true
      → is_taken m (list_of o (plain_after (plain_after (empty_book n k) history) more)).taken ≡ true
