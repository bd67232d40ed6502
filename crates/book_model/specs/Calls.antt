-- What each call on a lent table answers, and what it leaves: on any table, grown from an empty one or not.
use Rattle.std.specs.Prelude.{ℕ, ◌&&◌, List, Ok, Err}
use Rattle.frame.specs.Unless.{unless}
use Rattle.passes.specs.declared.Fault.TheVariants.{Book, NoEntry}
use Rattle.passes.specs.Reading.{answer_of, table_of}
use Rattle.letters.specs.Letters.{letters_of}
use Rattle.book_model.specs.Entering.{Entering}
use Rattle.book_model.specs.Entering.{Entered, Refused}
use Rattle.book_model.specs.PlainList.{Finding, Tallying, Change, entering, entries_on, finding, tally, withdrawing}
use Rattle.book_model.specs.Table.{is_owner, last_number, entries_of, own_of, free_in, is_book, is_list, with_entries, with_taken, without_entry, tidied}

-- "BOOK (20) first", of both tables; "straight after BOOK" NOENTRY for "any call with an owner other than 1 or 2"; "then the reader's own; DUPLICATE ..; FULL":
-- the file with its row table of so many numbers, the caller's file number, and the owner
unfoldable pub enter_answer : List ℕ → ℕ → ℕ → ℕ → List ℕ → List ℕ → Entering
enter_answer file m o table_length book list =
    unless (is_book book && is_list list) (Refused Book 0 0)
    (unless (is_owner o) (Refused NoEntry 0 0) (entering (own_of o book list) (free_in book list) m (letters_of file) (answer_of file table_length)))

-- "Refusals, all leaving book and row table unchanged"; else the rows of the file, the book with its letters, and the list with its number
abbrev pub rows_after : List ℕ → List ℕ → Entering → List ℕ
rows_after file table (Entered first t) = table_of file table
rows_after file table (Err r) = table

abbrev pub book_after : List ℕ → ℕ → ℕ → List ℕ → Entering → List ℕ
book_after file m o book (Entered first t) = with_entries o book (entries_on (last_number o book) m (letters_of file))
book_after file m o book (Err r) = book

abbrev pub list_after : ℕ → ℕ → List ℕ → Entering → List ℕ
list_after m o list (Entered first t) = with_taken o list m
list_after m o list (Err r) = list

-- the entry numbers and the running totals of the owner alone: "an entry number of the other owner is NOENTRY"
unfoldable pub find_answer : List ℕ → ℕ → ℕ → Finding
find_answer book o n =
    unless (is_book book) (Err Book) (unless (is_owner o) (Err NoEntry) (finding (entries_of o book) n))

unfoldable pub totals_answer : List ℕ → ℕ → Tallying
totals_answer book o =
    unless (is_book book) (Err Book) (unless (is_owner o) (Err NoEntry) (tally (entries_of o book)))

-- withdrawing: BOOK, NOENTRY, RANGE
unfoldable pub withdraw_answer : List ℕ → List ℕ → ℕ → ℕ → Change
withdraw_answer book list o n =
    unless (is_book book && is_list list) (Err Book)
    (unless (is_owner o) (Err NoEntry) (withdrawing (entries_of o book) n))

abbrev pub book_withdrawn : ℕ → ℕ → List ℕ → Change → List ℕ
book_withdrawn o n book (Ok done) = without_entry o book n
book_withdrawn o n book (Err fault) = book

-- a tidy-up: BOOK
unfoldable pub tidy_answer : List ℕ → List ℕ → Change
tidy_answer book list = unless (is_book book && is_list list) (Err Book) (Ok tt)

abbrev pub book_tidied : List ℕ → Change → List ℕ
book_tidied book (Ok done) = tidied book
book_tidied book (Err fault) = book
