-- What is promised of a draft that is made out (request 4, readings 43 and 44).
use Rattle.std.specs.Prelude.{ℕ, ◌*◌, ◌≤◌, ◌<◌, Bool, true, ◌&&◌, List, [], ◌∷◌, ◌≡◌, eqb, length, take, Err}
use Rattle.text.specs.CharacterSet.{set_of}
use Rattle.text.specs.declared.character_set.CharacterSet.TheVariants.{Ascii}
use Rattle.passes.specs.declared.Fault.{Fault}
use Rattle.passes.specs.declared.Fault.TheVariants.{Size, Room, Cut, Length, UnknownType, Place, Field, Link, Total, Open, After, Duplicate, Full, NoEntry, Range, Nothing, Book}
use Rattle.passes.specs.declared.Totals.{Totals}
use Rattle.passes.specs.Answers.{Answer}
use Rattle.passes.specs.Reading.{surveyed, answer_of}
use Rattle.ascii_copy.specs.AsciiCopy.{ascii_copy}
use Rattle.arrangement.specs.Tree.{File}
use Rattle.arrangement.specs.Arranged.{Arranges}
use Rattle.arrangement.specs.RowsAndTotals.{totals}
use Rattle.draft.specs.Outcomes.{Outcome}
use Rattle.draft.specs.Outcomes.{Written, Refused}
use Rattle.draft.specs.Values.{Piece, Values, layout_of, values_of_draft, values_of}
use Rattle.draft.specs.Completed.{addenda_behind, is_here, first_unfit}
use Rattle.draft.specs.Drafted.{made, answer_from, in_room, outcome_of, buffer_of}
use Rattle.passes.specs.Answers as answers

-- a file that is read, with rows enough, as what its maker was told it adds up to, and whose one arrangement (`Arranged`) has the given values
pub record ReadBack (vs : List Values) (t : Totals) (file : List ℕ) : Type 0 where
  pub in-ascii : set_of file ≡ Ascii
  pub read : (table : List ℕ) → 7 * t.records.0 ≤ length table → answer_of file (length table) ≡ answers.Accepted t
  pub its-values : (x : File) → Arranges file x → values_of Ascii x ≡ vs

-- a file made out again from its own values, into a buffer of so many bytes
pub record MadeAgain (file : List ℕ) (x : File) (room : ℕ) (outcome : Outcome) (after : List ℕ) : Type 0 where
  pub written : length file ≤ room → (outcome ≡ Written (length file) (totals (set_of file) x)) × (take (length file) after ≡ ascii_copy file)
  pub short : room < length file → outcome ≡ Refused Room (length file) 0

-- where nothing is outgrown and all lies in the text (reading 43)
abbrev pub every_here : List Piece → Bool
every_here [] = true
every_here (p ∷ ps) = is_here p && every_here ps

unfoldable pub all_fit : List Values → Bool
all_fit [] = true
all_fit (v ∷ vs) = eqb (first_unfit v (addenda_behind v.type vs) (layout_of v.type).lines v.fields) 0 && (every_here v.parts && all_fit vs)

-- the reader's TYPE, AFTER and OPEN read as PLACE (reading 43)
abbrev pub as_place : Fault → Fault
as_place Size = Size
as_place Room = Room
as_place Cut = Cut
as_place Length = Length
as_place UnknownType = Place
as_place Place = Place
as_place (Field n) = Field n
as_place (Link n) = Link n
as_place (Total n) = Total n
as_place Open = Place
as_place After = Place
as_place Duplicate = Duplicate
as_place Full = Full
as_place NoEntry = NoEntry
as_place Range = Range
as_place Nothing = Nothing
as_place Book = Book

abbrev pub as_drafted : ℕ → Answer → Outcome
as_drafted n (answers.Accepted t) = Written n t
as_drafted n (Err r) = Refused (as_place r.fault) r.place r.offset

pub record Promised (text draft out : List ℕ) (outcome : Outcome) (after : List ℕ) : Type 0 where
  -- "What it writes is accepted, and reading it gives back exactly the values it was given."
  pub accepted : (n : ℕ) (t : Totals) → outcome ≡ Written n t → ReadBack (values_of_draft text draft) t (take n after)
  -- "Every accepted file without blank optional totals, given as its values, is written as the same bytes; a flag asks for a blank MICR total": a blank
  -- MICR total is among the values. From an EBCDIC file, "that copy" (request 5).
  pub same_bytes : (file : List ℕ) (x : File) → Arranges file x → values_of_draft text draft ≡ values_of (set_of file) x
      → MadeAgain file x (length out) outcome after
  -- "drafts with equal values have equal outcomes"
  pub values-alone : (text' draft' : List ℕ) → values_of_draft text' draft' ≡ values_of_draft text draft
      → (outcome_of (values_of_draft text' draft') (length out) ≡ outcome) × (buffer_of (values_of_draft text' draft') out ≡ after)
  -- where nothing is outgrown and all lies in the text, and the completed records make a file of 1 to 268,435,456 bytes, the writer's PLACE, FIELD, LINK
  -- and TOTAL are the reader's own answer to that file (reading 43)
  pub as-the-reader : all_fit (values_of_draft text draft) ≡ true → 1 ≤ length (made (values_of_draft text draft))
      → length (made (values_of_draft text draft)) ≤ 268_435_456
      → outcome ≡ in_room (length out) (as_drafted (length (made (values_of_draft text draft))) (surveyed (made (values_of_draft text draft))))
