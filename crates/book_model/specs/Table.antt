-- A book in two lent tables (readings 52, 53, 57, 58 and 59). The book itself: a head of 17 numbers and then rows of 9. "A table of zeros is an empty book.
-- Numbers of the head that a short table lacks count as 0, and such a table has no rows." The list of file numbers taken: one number and then places of 2.
use Rattle.std.specs.Prelude.{ℕ, zero, suc, ◌+◌, ◌-◌, ◌*◌, ◌/◌, Bool, ◌&&◌, ◌||◌, cond, List, [], ◌∷◌, ◌++◌, leb, eqb, length, get_or, set}
use Rattle.std.proofs.lemmas.List.Edits.{sets}
use Rattle.figures.specs.declared.Figures.{Figures}
use Rattle.figures.specs.Figures.{no_figures, plus, same, numbers_of, figures_at}
use Rattle.net.specs.Net.{bits_of, is_net}
use Rattle.book_model.specs.declared.Entry.{Entry}
use Rattle.frame.specs.Frames.{part}
use Rattle.copying.specs.Times.{times}
use Rattle.book_model.specs.PlainList.{Own, Free, entry, totals_of, position_of, without}

-- "Each entry has an owner, 1 or 2" (request 8)
unfoldable pub is_owner : ℕ → Bool
is_owner o = eqb o 1 || eqb o 2

-- the head: [0] the rows claimed; then eight numbers for each owner, from [1] and from [9] on: the last entry number given, the six running totals, and
-- the net position in two's complement
abbrev pub rows_claimed : List ℕ → ℕ
rows_claimed book = get_or book 0 0

unfoldable pub block_of : ℕ → ℕ
block_of o = cond (eqb o 2) 9 1

abbrev pub last_number : ℕ → List ℕ → ℕ
last_number o book = get_or book (block_of o) 0

abbrev pub running_totals : ℕ → List ℕ → Figures
running_totals o book = figures_at book (block_of o + 1)

abbrev pub net_number : ℕ → List ℕ → ℕ
net_number o book = get_or book (block_of o + 7) 0

-- how many whole rows stand behind the head
abbrev pub rows_there : List ℕ → ℕ
rows_there book = (length book - 17) / 9

-- a row: [0] the owner, [1] the entry number, [2] the file number, [3] to [8] the letter's figures
unfoldable pub entry_at : List ℕ → ℕ → Entry
entry_at book at = entry (get_or book (at + 1) 0) (get_or book (at + 2) 0) (figures_at book (at + 3))

-- what it adds to an owner's running totals: a row of neither owner counts for none (reading 57)
abbrev pub own_figures_at : ℕ → List ℕ → ℕ → Figures
own_figures_at o book at = cond (eqb (get_or book at 0) o) (figures_at book (at + 3)) no_figures

abbrev pub row_of : ℕ → Entry → List ℕ
row_of o e = o ∷ e.number ∷ e.file ∷ numbers_of e.figures

-- one owner's entries in rows one behind the other, so many from a place on
unfoldable pub entries_from : ℕ → List ℕ → ℕ → ℕ → List Entry
entries_from o book zero at = []
entries_from o book (suc n) at =
    cond (eqb (get_or book at 0) o) (entry_at book at ∷ entries_from o book n (at + 9)) (entries_from o book n (at + 9))

unfoldable pub rows_of : ℕ → List Entry → List ℕ
rows_of o [] = []
rows_of o (e ∷ es) = row_of o e ++ rows_of o es

-- an owner's entries
unfoldable pub entries_of : ℕ → List ℕ → List Entry
entries_of o book = entries_from o book (rows_claimed book) 17

-- how many rows are either owner's, and how many are free: a claimed row of neither owner is a gap (reading 59), free as those behind the claimed ones are
abbrev pub rows_used : List ℕ → ℕ
rows_used book = length (entries_of 1 book) + length (entries_of 2 book)

abbrev pub free_rows : List ℕ → ℕ
free_rows book = rows_there book - rows_used book

abbrev pub gaps : List ℕ → ℕ
gaps book = rows_claimed book - rows_used book

-- the list: [0] the places claimed; a place: [0] the owner, [1] the file number. It holds every file number ever entered (reading 59)
abbrev pub places_claimed : List ℕ → ℕ
places_claimed list = get_or list 0 0

abbrev pub places_there : List ℕ → ℕ
places_there list = (length list - 1) / 2

abbrev pub free_places : List ℕ → ℕ
free_places list = places_there list - places_claimed list

unfoldable pub taken_from : ℕ → List ℕ → ℕ → ℕ → List ℕ
taken_from o list zero at = []
taken_from o list (suc n) at =
    cond (eqb (get_or list at 0) o) (get_or list (at + 1) 0 ∷ taken_from o list n (at + 2)) (taken_from o list n (at + 2))

unfoldable pub taken_by : ℕ → List ℕ → List ℕ
taken_by o list = taken_from o list (places_claimed list) 1

-- all that is an owner's own, and what is free for both
abbrev pub own_of : ℕ → List ℕ → List ℕ → Own
own_of o book list = record { entries = entries_of o book; last = last_number o book; taken = taken_by o list }

abbrev pub free_in : List ℕ → List ℕ → Free
free_in book list = record { rows = free_rows book; places = free_places list }

-- "BOOK (20) .. exactly when the lent table claims more rows than it has or its running totals are not the sums of its rows": each owner's totals are the
-- sums of its own rows (reading 57); "BOOK judges" the net position "as a running total"
unfoldable pub adds_up : ℕ → List ℕ → Bool
adds_up o book =
    same (running_totals o book) (totals_of (entries_of o book)) && is_net (net_number o book) (position_of (totals_of (entries_of o book)))

unfoldable pub is_book : List ℕ → Bool
is_book book = leb (rows_claimed book) (rows_there book) && adds_up 1 book && adds_up 2 book

-- "BOOK also when that list claims more places than it has", in the calls that are lent it (reading 59)
unfoldable pub is_list : List ℕ → Bool
is_list list = leb (places_claimed list) (places_there list)

-- an owner's block of the head
abbrev pub block_with : ℕ → Figures → List ℕ
block_with last totals = last ∷ numbers_of totals ++ (bits_of (position_of totals) ∷ [])

-- Entries set down from a place on where so many of the rows claimed are still to come: entering uses the lowest gaps first, before rows behind those
-- claimed (reading 59).
unfoldable pub placed : ℕ → List ℕ → ℕ → ℕ → List Entry → List ℕ
placed o book zero at es = sets book at (rows_of o es)
placed o book (suc n) at [] = book
placed o book (suc n) at (e ∷ es) =
    cond (is_owner (get_or book at 0)) (placed o book n (at + 9) (e ∷ es)) (placed o (sets book at (row_of o e)) n (at + 9) es)

-- The table with more entries of an owner: their rows, and in the head the rows claimed, which are more only where the gaps did not do, and the owner's
-- block; all else as it was.
unfoldable pub with_entries : ℕ → List ℕ → List Entry → List ℕ
with_entries o book es =
    sets (set (placed o book (rows_claimed book) 17 es) 0 (rows_claimed book + (length es - gaps book))) (block_of o)
    (block_with (last_number o book + length es) (plus (running_totals o book) (totals_of es)))

-- the list with a file number more
unfoldable pub with_taken : ℕ → List ℕ → ℕ → List ℕ
with_taken o list m = sets (set list 0 (places_claimed list + 1)) (1 + 2 * places_claimed list) (o ∷ m ∷ [])

-- The table without an entry of an owner: its row is zeros, and the owner's running totals and net position are those of the entries that are left.
-- Withdrawing does not lower the rows claimed (reading 59).
unfoldable pub cleared : ℕ → ℕ → List ℕ → ℕ → ℕ → List ℕ
cleared o m book zero at = book
cleared o m book (suc n) at =
    cond (eqb (get_or book at 0) o && eqb (get_or book (at + 1) 0) m) (sets book at (times 9 0)) (cleared o m book n (at + 9))

unfoldable pub without_entry : ℕ → List ℕ → ℕ → List ℕ
without_entry o book m =
    sets (cleared o m book (rows_claimed book) 17) (block_of o) (block_with (last_number o book) (totals_of (without m (entries_of o book))))

-- The table without gaps: order, numbers and figures stay, and rows that a tidy-up frees are zeros (reading 59)
unfoldable pub used_from : List ℕ → ℕ → ℕ → List ℕ
used_from book zero at = []
used_from book (suc n) at = cond (is_owner (get_or book at 0)) (part at 9 book ++ used_from book n (at + 9)) (used_from book n (at + 9))

unfoldable pub tidied : List ℕ → List ℕ
tidied book =
    set (sets (sets book 17 (times (9 * rows_claimed book) 0)) 17 (used_from book (rows_claimed book) 17)) 0 (rows_used book)
