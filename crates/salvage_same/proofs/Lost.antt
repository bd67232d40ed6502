-- An accepted file, salvaged with room, loses nothing: every record is kept or made new, and the bytes are its own, or those of its copy. Assumes nothing.
use Prim.Native.Nat.{ℕ, ◌*◌, ◌/◌, ◌≤◌}
use native.Mathlib.Omega.{arith}
use mathlib.Core.Bool.{true}
use mathlib.Core.Path.{◌≡◌, refl, sym, ap, ◌∙◌}
use mathlib.Core.List.{List, [], ◌∷◌, ◌++◌, map}
use lib.Dec.{leb}
use lib.ListN.{length, take}
use borrow.Author.Tests.{le-leb}
use Rattle.text.specs.CharacterSet.{set_of}
use Rattle.text.specs.declared.character_set.CharacterSet.{CharacterSet}
use Rattle.layout.specs.Layouts.{cash_letter_control}
use Rattle.ascii_copy.specs.AsciiCopy.{ascii_copy}
use Rattle.file_as_records.specs.Framed.{Body}
use Rattle.file_as_records.proofs.Good.{GoodAll}
use Rattle.arrangement.specs.Tree.{CashLetter, File}
use Rattle.arrangement.specs.Written.{letters_then, records}
use Rattle.arrangement.specs.Sound.{All, Right, SoundLetter, Sound}
use Rattle.arrangement.specs.Arranged.{Arranges}
use Rattle.arrangement.specs.RowsAndTotals.{totals}
use Rattle.arrangement.proofs.SoundTyped.{sound-typed}
use Rattle.arrangement.proofs.Goodness.{sound-good}
use Rattle.draft.specs.Outcomes.{Outcome}
use Rattle.draft.specs.Outcomes.{Written}
use Rattle.draft.specs.Values.{Values, values_of_body, values_of}
use Rattle.draft.specs.Drafted.{made, buffer_after, buffer_of}
use Rattle.same_bytes.proofs.Either.{made_again}
use Rattle.salvage_model.specs.Walked.{walked}
use Rattle.salvage_model.specs.Kept.{Section, marks_of, sections_of, sections_values, ending_of, control_values, salvaged_values, is_anything}
use Rattle.salvage_model.specs.Salvaged.{values_left, salvage_outcome, salvage_buffer}
use Rattle.salvage_model.specs.Promises.{NoneDropped, NothingLost}
use Rattle.salvage_same.proofs.Walk.{walked-records}
use Rattle.salvage_same.proofs.Sections.{sections-of, sections_for}
use Rattle.salvage_same.proofs.Letters.{KeptLetter, letters-kept, good-sound-alone}
use Rattle.salvage_same.proofs.Values.{own-99, none_dropped_lem, ending_of_lem, any-kept, sections-values}
use Rattle.layout.specs.Layouts as layouts

all-controls : (set : CharacterSet) (ls : List CashLetter) → All (SoundLetter set) ls → All (λ (l : CashLetter). Right set cash_letter_control l.control) ls
all-controls set [] s = tt
all-controls set (l ∷ ls) s = (s.0.control, all-controls set ls s.1)

-- the records of a sound arrangement
module _ (set : CharacterSet) (x : File) (sound : Sound set x) where
  abbrev sections : List Section
  sections = sections_for set x.letters x.control

  good : GoodAll set [] (records x)
  good = sound-good set x sound

  sections-are : sections_of set (letters_then x.letters (x.control ∷ [])) ≡ sections
  sections-are = sections-of set x.letters (sound-typed set x sound).letters x.control sound.control.type

  kept-letters : All (KeptLetter set) x.letters
  kept-letters =
      let e = sound.header.type in
      letters-kept set x.letters sound.letters (sound-typed set x sound).letters (x.header ∷ []) (x.control ∷ []) (rw e) (rw e (omega arith))
      good.rest

  pub values-own : salvaged_values set (records x) ≡ map (values_of_body set) (records x)
  unfolding salvaged_values
  values-own =
      ap (λ (ss : List Section). values_of_body set x.header ∷ (sections_values set ss ++ (control_values set layouts.file_control (ending_of ss) ∷ [])))
      sections-are
      ∙ ap (λ (v : Values). values_of_body set x.header ∷ (sections_values set sections ++ (v ∷ [])))
      (ap (control_values set layouts.file_control) (ending_of_lem set x.letters x.control) ∙ own-99 set x.control sound.control)
      ∙ ap (λ (vs : List Values). values_of_body set x.header ∷ vs)
      (sections-values set x.letters x.control kept-letters (all-controls set x.letters sound.letters))

  pub anything : is_anything set (records x) ≡ true
  unfolding is_anything
  anything =
      rw (good-sound-alone set [] x.header 1 sound.header.type good.first, sections-are)
      (any-kept set x.letters x.control kept-letters sound.filled)

  pub none-lost : NoneDropped (marks_of set (records x))
  unfolding marks_of
  none-lost = (refl, rw sections-are (none_dropped_lem set x.letters kept-letters x.control))

module _ (file out : List ℕ) (rows : ℕ) (x : File) (a : Arranges file x) (room : length file ≤ length out) (long : 4 * length (records x) ≤ rows) where
  walks : walked file ≡ records x
  walks = walked-records file x a

  left : values_left file ≡ values_of (set_of file) x
  unfolding values_left values_of
  left = ap (salvaged_values (set_of file)) walks ∙ values-own (set_of file) x a.sound

  pub answer-own : salvage_outcome file (length out) rows ≡ Written (length file) (totals (set_of file) x)
  unfolding salvage_outcome
  answer-own =
      let again = (made_again file x a (values_left file) left out).written room in
      let some : leb 1 (length file) ≡ true = le-leb 1 (length file) (omega (arith, ap length a.bytes)) in
      let small = le-leb (length file) 268_435_456 a.size in
      let any : is_anything (set_of file) (walked file) ≡ true = ap (is_anything (set_of file)) walks ∙ anything (set_of file) x a.sound in
      let rows-enough : leb (length (walked file)) (rows / 4) ≡ true =
      ap (λ (bs : List Body). leb (length bs) (rows / 4)) walks ∙ le-leb (length (records x)) (rows / 4) (omega (arith, long)) in
      rw (some, small, any, again.0, rows-enough)

  pub bytes-own : take (length file) (salvage_buffer file out rows) ≡ ascii_copy file
  unfolding salvage_buffer buffer_of
  bytes-own =
      let again = (made_again file x a (values_left file) left out).written room in
      ap (λ (o : Outcome). take (length file) (buffer_after o (made (values_left file)) out)) (answer-own ∙ sym again.0) ∙ again.1

-- the promise
pub nothing-lost : (file out list : List ℕ) (x : File) → Arranges file x → length file ≤ length out → 4 * length (records x) ≤ length list
    → NothingLost file x (salvage_outcome file (length out) (length list)) (salvage_buffer file out (length list))
nothing-lost file out list x a room long =
    record {
      answer = answer-own file out (length list) x a room long;
      bytes = bytes-own file out (length list) x a room long;
      walk = walked-records file x a;
      marks = rw (walked-records file x a) (none-lost (set_of file) x a.sound);
    }
