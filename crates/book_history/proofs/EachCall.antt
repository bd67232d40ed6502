-- What one act does on a book: an owner's call is answered on what is its own and what is free; a call of no owner is refused and leaves all as it is; a
-- tidy-up leaves each owner's as it is. Assumes nothing.
use Rattle.std.specs.Prelude.{Ok}
use Prim.Native.Nat.{ℕ}
use native.Mathlib.Omega.{arith}
use mathlib.Core.Bool.{true, false}
use mathlib.Core.Path.{◌≡◌, refl, sym, ap, subst}
use mathlib.Core.List.{List}
use lib.ListN.{length}
use Rattle.passes.specs.Reading.{answer_of}
use Rattle.letters.specs.Letters.{letters_of}
use Rattle.book_model.specs.Entering.{Entering}
use Rattle.book_model.specs.PlainList.{Change, Own, position_of, withdrawing, after_entering, after_withdrawing}
use Rattle.book_model.specs.Table.{is_owner, entries_of, own_of, free_rows, free_in, tidied}
use Rattle.book_model.specs.Calls.{enter_answer, rows_after, book_after, list_after, find_answer, totals_answer, withdraw_answer, book_withdrawn, tidy_answer}
use Rattle.book_model.proofs.Head.{as-there, still-book}
use Rattle.book_model.proofs.NoGaps.{ClosedUp, closed-up}
use Rattle.book_history.specs.Histories.{Call, enter, find, totals, withdraw, entered, found, told, changed, tidy, Lent, entering_in, reply, call_then, lent_then, entering_on, own_reply, own_then, no_owner}
use Rattle.book_history.proofs.Held.{Good, Holds, Called, TidiedUp, unchanged}
use Rattle.book_history.proofs.Entered.{entering-alike, after-answer}
use Rattle.book_history.proofs.Withdrawn.{withdrawing-alike, after-change}

module _ (l : Lent) (good : Good l) where
  -- a call of no owner
  module _ (o : ℕ) (nobody : is_owner o ≡ false) where
    pub refused : (c : Call) → reply l o c ≡ no_owner c
    unfolding reply no_owner enter_answer find_answer totals_answer withdraw_answer
    refused (enter file m table) = rw (good.book, good.list, nobody)
    refused (find n) = rw (good.book, nobody)
    refused totals = rw (good.book, nobody)
    refused (withdraw n) = rw (good.book, good.list, nobody)

    pub left : (c : Call) → call_then l o c ≡ l
    unfolding call_then enter_answer withdraw_answer
    left (enter file m table) = rw (good.book, good.list, nobody)
    left (find n) = refl
    left totals = refl
    left (withdraw n) = rw (good.book, good.list, nobody)

  -- an owner's call
  module _ (o : ℕ) (who : is_owner o ≡ true) (own : Own) (h : Holds o l own) where
    entering-is : (file : List ℕ) (m : ℕ) (table : List ℕ) → entering_in l o file m table ≡ entering_on own (free_in l.book l.list) file m table
    unfolding enter_answer
    entering-is file m table =
        rw (good.book, good.list, who)
        (entering-alike (own_of o l.book l.list) own (free_in l.book l.list) m (letters_of file) (answer_of file (length table)) h.entries.totals h.last h.taken)

    withdrawing-is : (n : ℕ) → withdraw_answer l.book l.list o n ≡ withdrawing own.entries n
    unfolding withdraw_answer
    withdrawing-is n = rw (good.book, good.list, who) (withdrawing-alike own.last (entries_of o l.book) own.entries n h.entries)

    pub answered : (c : Call) → reply l o c ≡ own_reply own (free_in l.book l.list) c
    unfolding reply own_reply find_answer totals_answer
    answered (enter file m table) = ap (λ (a : Entering). entered a (rows_after file table a)) (entering-is file m table)
    answered (find n) = rw (good.book, who) (ap found (h.entries.found n))
    answered totals = rw (good.book, who) (λ i. told (Ok (record { entries = h.entries.many i; figures = h.entries.totals i; net = position_of (h.entries.totals i) })))
    answered (withdraw n) = ap changed (withdrawing-is n)

    pub called : (c : Call) → Called o l (call_then l o c) own (own_then own (free_in l.book l.list) c)
    unfolding call_then own_then
    called (enter file m table) =
        subst
        (λ (a : Entering). Called o l (record { book = book_after file m o l.book a; list = list_after m o l.list a }) own (after_entering own m (letters_of file) (entering_on own (free_in l.book l.list) file m table)))
        (sym (entering-is file m table))
        (after-answer o who l good own h file m (answer_of file (length table)) (entering_on own (free_in l.book l.list) file m table) refl)
    called (find n) = unchanged o l own good h
    called totals = unchanged o l own good h
    called (withdraw n) =
        subst
        (λ (a : Change). Called o l (record { book = book_withdrawn o n l.book a; list = l.list }) own (after_withdrawing own n (withdrawing own.entries n)))
        (sym (withdrawing-is n))
        (after-change o who l good own h n (withdrawing own.entries n) (withdrawing-alike own.last (entries_of o l.book) own.entries n h.entries))

  -- a tidy-up
  pub tidy-done : tidy_answer l.book l.list ≡ Ok tt
  unfolding tidy_answer
  tidy-done = rw (good.book, good.list)

  pub tidied-up : TidiedUp l (lent_then l tidy)
  unfolding is_owner
  tidied-up = rw tidy-done (record { good = record { book = still-book l.book (tidied l.book) closed.still; list = good.list }; same = λ p who. record { entries = closed.entries p who; last = closed.lasts p who; taken = refl }; free = λ i. record { rows = rows i; places = (free_in l.book l.list).places } })
    where
      closed : ClosedUp l.book (tidied l.book)
      closed = closed-up l.book good.book

      rows : free_rows (tidied l.book) ≡ free_rows l.book
      rows =
          omega (arith, as-there l.book (tidied l.book) closed.still, ap length (closed.entries 1 refl), ap length (closed.entries 2 refl))
