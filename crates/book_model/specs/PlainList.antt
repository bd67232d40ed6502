-- The day book as a plain list of entries for each owner (requests 6, 8, 9 and 10), and what each call answers on the owner's own list.
use Rattle.std.specs.Prelude.{ℕ, ◌+◌, Bool, false, ◌&&◌, ◌||◌, not, cond, List, [], ◌∷◌, ◌++◌, leb, eqb, ℤ, length, Result, Ok, Err}
use Rattle.frame.specs.Unless.{unless}
use Rattle.figures.specs.declared.Figures.{Figures}
use Rattle.figures.specs.Figures.{no_figures, plus, all_of, fits}
use Rattle.net.specs.Net.{net_of, within}
use Rattle.passes.specs.declared.Fault.{Fault}
use Rattle.passes.specs.declared.Fault.TheVariants.{Duplicate, Full, NoEntry, Range}
use Rattle.passes.specs.Answers.{Answer}
use Rattle.book_model.specs.declared.Entry.{Entry}
use Rattle.book_model.specs.Entering.{Entering}
use Rattle.book_model.specs.Entering.{Entered, Refused}
use Rattle.book_model.specs.declared.Tally.{Tally}
use Rattle.passes.specs.Answers as answers

-- what looking up an entry, asking for an owner's tally, and withdrawing an entry or tidying up give: each of them, or the fault
abbrev pub Finding : Type 0
Finding = Result Entry Fault

abbrev pub Tallying : Type 0
Tallying = Result Tally Fault

abbrev pub Change : Type 0
Change = Result (Unit {0}) Fault

-- what is one owner's own: its present entries, the last entry number it was given, and the file numbers it has ever entered
pub record Own : Type 0 where
  pub entries : List Entry
  pub last : ℕ
  pub taken : List ℕ

-- how many rows are free for entries, and how many places for file numbers: told beside it, since these alone are the other owner's doing too (request 8;
-- "whose free places join the free rows in request 8's rule", request 10)
pub record Free : Type 0 where
  pub rows : ℕ
  pub places : ℕ

abbrev pub entry : ℕ → ℕ → Figures → Entry
entry n m f = record { number = n; file = m; figures = f }

-- the running totals: the sums over the entries
unfoldable pub totals_of : List Entry → Figures
totals_of [] = no_figures
totals_of (e ∷ es) = plus e.figures (totals_of es)

-- the net position: "the credit cents minus debit cents, below zero when debits exceed" (request 9)
abbrev pub position_of : Figures → ℤ
position_of f = net_of f.sums.credit.0 f.sums.debit.0

-- "DUPLICATE (12) for a file number already entered"; "its file number stays taken" (request 10)
unfoldable pub is_taken : ℕ → List ℕ → Bool
is_taken m [] = false
is_taken m (n ∷ ns) = eqb n m || is_taken m ns

-- "A file enters its letters in their order, numbered on from the last number given" (reading 54)
unfoldable pub entries_on : ℕ → ℕ → List Figures → List Entry
entries_on last m [] = []
entries_on last m (f ∷ fs) = entry (last + 1) m f ∷ entries_on (last + 1) m fs

-- "A file whose letters together would carry it beyond 10^18 cents either side is refused": RANGE (16)
unfoldable pub keeps_range : Own → List Figures → Bool
keeps_range own letters = within (position_of (plus (totals_of own.entries) (all_of letters)))

-- "FULL (13) for more letters than free rows, or a running total or entry number beyond 64 bits"; "FULL when it has none for a new file number"
unfoldable pub has_room : Own → Free → List Figures → Bool
has_room own free letters =
    leb (length letters) free.rows && leb 1 free.places && fits (plus (totals_of own.entries) (all_of letters))
    && leb (own.last + length letters) 0xFFFF_FFFF_FFFF_FFFF

-- Entering a file where so much is free, by the reader's answer to it and its letters' figures: the reader's own refusals, DUPLICATE, RANGE, FULL; else the
-- first number given and the totals of the file.
unfoldable pub entering : Own → Free → ℕ → List Figures → Answer → Entering
entering own free m letters (Err r) = Refused r.fault r.place r.offset
entering own free m letters (answers.Accepted t) =
    unless (not (is_taken m own.taken)) (Refused Duplicate 0 0)
    (unless (keeps_range own letters) (Refused Range 0 0) (unless (has_room own free letters) (Refused Full 0 0) (Entered (own.last + 1) t)))

-- what it leaves: entries once made stand as they were
abbrev pub after_entering : Own → ℕ → List Figures → Entering → Own
after_entering own m letters (Err r) = own
after_entering own m letters (Entered first t) =
    record { entries = own.entries ++ entries_on own.last m letters; last = own.last + length letters; taken = own.taken ++ (m ∷ []) }

-- "looking up an entry number gives the first row with it, as entered"; "NOENTRY (15) for a number not found"
unfoldable pub finding : List Entry → ℕ → Finding
finding [] n = Err NoEntry
finding (e ∷ es) n = cond (eqb e.number n) (Ok e) (finding es n)

-- "withdrawal by owner and entry number": the list without the entry that a look-up gives; the others "keep number and figures"
unfoldable pub without : ℕ → List Entry → List Entry
without n [] = []
without n (e ∷ es) = cond (eqb e.number n) es (e ∷ without n es)

-- NOENTRY; then "RANGE for a withdrawal that would carry the net position beyond its bound"
abbrev pub of_finding : Finding → Change → Change
of_finding (Ok e) next = next
of_finding (Err fault) next = Err fault

unfoldable pub withdrawing : List Entry → ℕ → Change
withdrawing es n =
    of_finding (finding es n) (unless (within (position_of (totals_of (without n es)))) (Err Range) (Ok tt))

-- what it leaves: the last number and the file numbers taken stay, so that neither is given out or taken a second time
abbrev pub after_withdrawing : Own → ℕ → Change → Own
after_withdrawing own n (Err fault) = own
after_withdrawing own n (Ok done) = record { entries = without n own.entries; last = own.last; taken = own.taken }

-- how many entries there are, the running totals and the net position
abbrev pub tally : List Entry → Tallying
tally es = Ok (record { entries = length es; figures = totals_of es; net = position_of (totals_of es) })
