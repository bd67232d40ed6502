-- What is promised of a salvage (request 11, readings 66 and 67).
use Rattle.std.specs.Prelude.{ℕ, ◌*◌, ◌≤◌, Bool, true, false, ◌&&◌, cond, ◌↔◌, List, [], ◌∷◌, map, ◌≡◌, eqb, length, take}
use Rattle.std.proofs.Math.Option.{none}
use Rattle.text.specs.CharacterSet.{set_of}
use Rattle.text.specs.declared.character_set.CharacterSet.{CharacterSet}
use Rattle.text.specs.declared.character_set.CharacterSet.TheVariants.{Ascii, Ebcdic}
use Rattle.text.specs.DataTypes.{every}
use Rattle.judge.specs.Alone.{type_of}
use Rattle.passes.specs.declared.Fault.{Fault}
use Rattle.passes.specs.declared.Fault.TheVariants.{Size, Room, Cut, Length, UnknownType, Place, Field, Link, Total, Open, After, Duplicate, Full, NoEntry, Range, Nothing, Book}
use Rattle.passes.specs.declared.Totals.{Totals}
use Rattle.ascii_copy.specs.AsciiCopy.{copied_body, ascii_copy}
use Rattle.file_as_records.specs.Framed.{Body, framed}
use Rattle.arrangement.specs.Tree.{Content, File}
use Rattle.arrangement.specs.Written.{content_then, records}
use Rattle.arrangement.specs.Sound.{SoundContent}
use Rattle.arrangement.specs.Arranged.{Arranges}
use Rattle.arrangement.specs.RowsAndTotals.{totals}
use Rattle.draft.specs.Outcomes.{Outcome}
use Rattle.draft.specs.Outcomes.{Written, Refused}
use Rattle.draft.specs.Promises.{ReadBack}
use Rattle.salvage_model.specs.Walked.{walked}
use Rattle.salvage_model.specs.Runs.{of, not_of, sound_alone, run_fault}
use Rattle.salvage_model.specs.Kept.{Fate, kept, renewed, dropped, Marked, marks_of, kept_bodies}
use Rattle.salvage_model.specs.Salvaged.{values_left, salvage_outcome, salvage_buffer, salvage_list}

-- TOTAL and SIZE can come; PLACE, FIELD and LINK never (reading 66)
abbrev pub can_come : Fault → Bool
can_come Size = true
can_come Room = true
can_come Cut = false
can_come Length = false
can_come UnknownType = false
can_come Place = false
can_come (Field n) = false
can_come (Link n) = false
can_come (Total n) = true
can_come Open = false
can_come After = false
can_come Duplicate = false
can_come Full = false
can_come NoEntry = false
can_come Range = false
can_come Nothing = true
can_come Book = false

abbrev pub is_dropped : Fate → Bool
is_dropped kept = false
is_dropped renewed = false
is_dropped (dropped n) = true

abbrev pub NoneDropped : List Marked → Type 0
NoneDropped [] = Unit {0}
NoneDropped (m ∷ ms) = (is_dropped m.fate ≡ false) × NoneDropped ms

-- a record as its ASCII copy has it
abbrev pub copied : CharacterSet → Body → Body
copied Ascii b = b
copied Ebcdic b = copied_body b

-- the records of a file but for its 90s and its 99
abbrev pub without_controls : List Body → List Body
without_controls [] = []
without_controls (b ∷ bs) = cond (of Ascii (90 ∷ 99 ∷ []) b) (without_controls bs) (b ∷ without_controls bs)

-- what a run is: from a 20 to its 70, with neither between; or a 61 and views
abbrev pub ends_at70 : CharacterSet → List Body → Bool
ends_at70 set [] = false
ends_at70 set (b ∷ []) = eqb (type_of set b) 70
ends_at70 set (b ∷ c ∷ bs) = not_of set (20 ∷ 70 ∷ []) b && ends_at70 set (c ∷ bs)

abbrev pub every_of : CharacterSet → List ℕ → List Body → Bool
every_of set types [] = true
every_of set types (b ∷ bs) = of set types b && every_of set types bs

abbrev pub is_run : CharacterSet → List Body → Bool
is_run set [] = false
is_run set (b ∷ bs) = cond (eqb (type_of set b) 20) (ends_at70 set bs) (eqb (type_of set b) 61 && every_of set (50 ∷ 52 ∷ 54 ∷ []) bs)

-- an accepted file, salvaged with room
pub record NothingLost (file : List ℕ) (x : File) (outcome : Outcome) (after : List ℕ) : Type 0 where
  pub answer : outcome ≡ Written (length file) (totals (set_of file) x)
  pub bytes : take (length file) after ≡ ascii_copy file
  pub walk : walked file ≡ records x
  pub marks : NoneDropped (marks_of (set_of file) (walked file))

-- the same outcome of two files
pub record SameSalvage (file other out list : List ℕ) : Type 0 where
  pub answer : salvage_outcome file (length out) (length list) ≡ salvage_outcome other (length out) (length list)
  pub buffer : salvage_buffer file out (length list) ≡ salvage_buffer other out (length list)
  pub rows : salvage_list file (length out) list ≡ salvage_list other (length out) list

pub record Promised (file out list : List ℕ) (outcome : Outcome) (after : List ℕ) : Type 0 where
  -- "what is written is accepted"
  pub accepted : (n : ℕ) (t : Totals) → outcome ≡ Written n t → ReadBack (values_left file) t (take n after)
  -- "PLACE, FIELD and LINK never come" (reading 66)
  pub refusals : (fault : Fault) (place offset : ℕ) → outcome ≡ Refused fault place offset → can_come fault ≡ true
  -- "with room, an accepted file is written as the same bytes (its copy), every record kept or made new, and the answer is x9_read's own"
  pub nothing-lost : (x : File) → Arranges file x → length file ≤ length out → 4 * length (records x) ≤ length list → NothingLost file x outcome after
  -- "each record walked is listed once, in order"
  pub each-once : map (λ (m : Marked). m.body) (marks_of (set_of file) (walked file)) ≡ walked file
  -- "each kept record is written as its own bytes (of the ASCII copy)"
  pub as-they-stand : (n : ℕ) (t : Totals) (bs : List Body) → outcome ≡ Written n t → framed bs ≡ take n after
      → without_controls bs ≡ map (copied (set_of file)) (kept_bodies (marks_of (set_of file) (walked file)))
  -- "an EBCDIC file gets the answer, list and bytes of its copy"
  pub copy : SameSalvage file (ascii_copy file) out list
  -- "what is written, salvaged again, is the same"
  pub again : (n : ℕ) (t : Totals) → outcome ≡ Written n t → (room : List ℕ) (rows : ℕ) → n ≤ length room → 4 * t.records.0 ≤ rows
      → (salvage_outcome (take n after) (length room) rows ≡ Written n t) × (take n (salvage_buffer (take n after) room rows) ≡ take n after)
  -- sound is the arrangement's own `Sound` for a bundle and for a credit; whether a run is sound is told by the set, its header and its own records alone
  pub sound-runs : (set : CharacterSet) (header : Body) (bs : List Body) → sound_alone set 10 header ≡ true → is_run set bs ≡ true
      → (run_fault set header bs ≡ none) ↔ ((c : Content) × (content_then c [] ≡ bs) × SoundContent set header c)
