-- One record more, refused or entered. Assumes nothing.
use Prim.Native.Nat.{ℕ, ◌+◌, min}
use native.Mathlib.Omega.{arith}
use mathlib.Core.Bool.{true}
use mathlib.Core.List.{List, ◌∷◌}
use mathlib.Core.Path.{◌≡◌, refl, sym, ap, ◌∙◌}
use lib.ListN.{length, get_or}
use Rattle.text.specs.declared.character_set.CharacterSet.{CharacterSet}
use Rattle.text.specs.declared.character_set.CharacterSet.TheVariants.{Ascii}
use Rattle.order.specs.MayFollow.{is_carried}
use Rattle.standing.specs.Standing.{standing, onward, capped_figures, Roomy}
use Rattle.standing.specs.declared.Standing.{Standing}
use Rattle.passes.specs.declared.Fault.{Fault}
use Rattle.passes.specs.Answers.{Turn}
use Rattle.passes.specs.Answers.{Faulty, Good}
use Rattle.draft.specs.Outcomes.{Refused}
use Rattle.draft.specs.Values.{Values, layout_of, values_at, values_of_row}
use Rattle.draft.specs.Completed.{addenda_behind, all_sizes}
use Rattle.draft.specs.Drafted.{body_of, offset_of, answer_from}
use Rattle.draft.proofs.Shapes.{shaped_row, completed-long}
use Rattle.sheet.specs.Sheet.{slot_of}
use Rattle.sheet.proofs.Parts.{record-long}
use Rattle.draft_survey.specs.JudgedRow.{JudgedRow}
use Rattle.draft_survey.proofs.Laws.{good_turn, sheet-roomy}
use Rattle.draft_survey.proofs.Row.{FoundWith}
use Rattle.salvage_entry.specs.declared.Pen.{Pen}
use Rattle.salvage_entry.specs.Entered.{Begun, Entering, OneMore}

pub begun-roomy : {sheet : List ℕ} {pen : Pen} → Begun sheet pen → Roomy pen.standing × (capped_figures pen.standing ≡ pen.standing)
begun-roomy b = sheet-roomy b.stands b.few

module _ (set : CharacterSet) (text row : List ℕ) {addenda : ℕ} {sheet : List ℕ} {pen : Pen} (e : Entering (values_of_row set text row) addenda sheet pen)
    (turn : Turn) (after : List ℕ) (found : FoundWith set text row addenda sheet pen.standing turn after) where
  abbrev v : Values
  v = values_of_row set text row

  abbrev vs : List Values
  vs = e.others

  abbrev b : Begun sheet pen
  b = e.begun

  judged : JudgedRow v vs b.file b.past pen.standing turn after
  unfolding values_of_row values_at
  judged = found b.file b.past vs e.behind b.stands

  records-are : pen.standing.records.0 ≡ length b.past
  unfolding standing
  records-are = ap (λ (u : Standing). u.records.0) b.stands.figures

  pub step-refused : (fault : Fault) → turn ≡ Faulty fault
      → answer_from (v ∷ vs) b.file b.past ≡ Refused fault (pen.standing.records.0 + 1) pen.bytes
  unfolding answer_from
  step-refused fault q =
      let here : answer_from (v ∷ vs) b.file b.past ≡ Refused fault (length b.past + 1) (offset_of (length b.file)) = rw (sym judged.found ∙ q) in
      here
      ∙ ap (λ (n : ℕ). Refused fault (n + 1) (offset_of (length b.file))) (sym records-are)
      ∙ ap (Refused fault (pen.standing.records.0 + 1)) (sym b.size)

  module _ (k : ℕ) (good : turn ≡ Good k) where
    pub step-carried : is_carried (get_or row 0 0) ≡ true
    unfolding values_of_row values_at
    step-carried =
        let g = good_turn v vs b.file b.past (standing Ascii b.file b.past) (sym judged.found ∙ good) in
        ap is_carried (sym g.0) ∙ g.1

    pub step-on : (slot : ℕ) (r : Standing) (more : ℕ) → slot ≡ slot_of k → r ≡ capped_figures (onward Ascii after pen.standing k slot)
        → more ≡ min ((layout_of (get_or row 0 0)).fixed_length + all_sizes v.parts) 0xFFFF_FFFF_FFFF_FFFF
        → (framed total : ℕ) → framed ≡ min (4 + more) 0xFFFF_FFFF_FFFF_FFFF → total ≡ min (pen.bytes + framed) 0xFFFF_FFFF_FFFF_FFFF
        → OneMore v vs b.file b.past (record { standing = r; bytes = total }) after
    unfolding values_of_row values_at answer_from
    step-on slot r more place m long framed total four whole = record {
      stands = rw (m, place) (judged.moves k good);
      size = omega (
        arith,
        b.size,
        record-long b.file (body_of v vs b.file b.past),
        completed-long v (addenda_behind v.type vs) (standing Ascii b.file b.past) (shaped_row set text row),
      );
      answer = rw (sym judged.found ∙ good) refl;
    }
