-- What is written of a torn file is read back. Assumes nothing.
use Prim.Native.Nat.{ℕ, ◌/◌, ◌≤◌}
use native.Mathlib.Omega.{arith}
use mathlib.Core.Bool.{Bool, true, false, ◌&&◌}
use mathlib.Core.List.{List, []}
use mathlib.Core.Path.{◌≡◌, refl, sym, ap, ◌∙◌, subst}
use lib.Dec.{leb}
use lib.ListN.{length, take, drop}
use lib.Seq.{take_at}
use borrow.Author.Tests.{leb-true}
use Rattle.std.specs.Prelude.{Err}
use Rattle.text.specs.CharacterSet.{set_of}
use Rattle.frame.specs.Unless.{unless}
use Rattle.passes.specs.declared.Fault.{Fault}
use Rattle.passes.specs.declared.Fault.TheVariants.{Size, Room, Nothing}
use Rattle.passes.specs.declared.Totals.{Totals}
use Rattle.draft.specs.Outcomes.{Outcome}
use Rattle.draft.specs.Outcomes.{Written, Refused}
use Rattle.draft.specs.Values.{Values}
use Rattle.draft.specs.Drafted.{made, answer_from, in_room, outcome_of, buffer_after}
use Rattle.draft.specs.Promises.{ReadBack}
use Rattle.made_is_read.proofs.Whole.{same_outcome, accepted, read_back}
use Rattle.values_back.proofs.Whole.{values-back}
use Rattle.salvage_model.specs.Walked.{walked}
use Rattle.salvage_model.specs.Kept.{is_anything}
use Rattle.salvage_model.specs.Salvaged.{values_left, in_list, salvage_outcome, salvage_buffer}
use Rattle.salvage_written.proofs.Values.{shaped-left, asked-left}

never : {fault : Fault} {place offset n : ℕ} {t : Totals} {A : Type 0} → Refused fault place offset ≡ Written n t → A
never e = let z : ◌≡◌ {A = ℕ} 0 1 = cc in absurd (omega arith)

-- what is written is what the writer answers, whatever the room
pub record WrittenOut (n : ℕ) (t : Totals) (vs : List Values) : Type 0 where
  pub is : answer_from vs [] [] ≡ Written n t
  pub small : n ≤ 268_435_456

in-room : (room n : ℕ) (t : Totals) (vs : List Values) (answer : Outcome) → answer_from vs [] [] ≡ answer → in_room room answer ≡ Written n t
    → WrittenOut n t vs
in-room room n t vs (Written m u) a e = by (leb m 268_435_456) refl (leb m room) e
  where
    by : (b : Bool) → leb m 268_435_456 ≡ b → (c : Bool) → unless b (Refused Size 0 0) (unless c (Refused Room m 0) (Written m u)) ≡ Written n t
        → WrittenOut n t vs
    by true p true q = record { is = a ∙ q; small = let z : m ≡ n = (same_outcome q).0 in omega (arith, leb-true m 268_435_456 p) }
    by true p false q = never q
    by false p c q = never q
in-room room n t vs (Err r) a e = never e

in_list_lem : (rows needed n : ℕ) (t : Totals) (answer : Outcome) → in_list rows needed answer ≡ Written n t → answer ≡ Written n t
in_list_lem rows needed n t (Written m u) e = by (leb needed rows) e
  where
    by : (c : Bool) → unless c (Refused Room needed 0) (Written m u) ≡ Written n t → Written m u ≡ Written n t
    by true q = q
    by false q = never q
in_list_lem rows needed n t (Err r) e = never e

through : (c : Bool) (fault : Fault) (next : Outcome) {n : ℕ} {t : Totals} → unless c (Refused fault 0 0) next ≡ Written n t
    → (c ≡ true) × (next ≡ Written n t)
through true fault next e = (refl, e)
through false fault next e = never e

module _ (file out : List ℕ) (list_length : ℕ) where
  -- an outcome that is written, and what it was asked on the way
  pub record Through (n : ℕ) (t : Totals) : Type 0 where
    pub any : is_anything (set_of file) (walked file) ≡ true
    pub written : WrittenOut n t (values_left file)

  pub written-through : (n : ℕ) (t : Totals) → salvage_outcome file (length out) list_length ≡ Written n t → Through n t
  unfolding salvage_outcome outcome_of
  written-through n t e =
      let size = through (leb 1 (length file) && leb (length file) 268_435_456) Size _ e in
      let any = through (is_anything (set_of file) (walked file)) Nothing _ size.1 in
      let answer = in_list_lem (list_length / 4) (length (walked file)) n t (outcome_of (values_left file) (length out)) any.1 in
      record { any = any.0; written = in-room (length out) n t (values_left file) (answer_from (values_left file) [] []) refl answer }

  -- the buffer begins with the file
  pub file-first : (n : ℕ) (t : Totals) → salvage_outcome file (length out) list_length ≡ Written n t
      → take n (salvage_buffer file out list_length) ≡ made (values_left file)
  unfolding salvage_buffer
  file-first n t e =
      let w = (written-through n t e).written in
      let vs = values_left file in
      ap (λ (o : Outcome). take n (buffer_after o (made vs) out)) e
      ∙ take_at (made vs) (drop n out) n (sym (accepted vs (shaped-left file) w.is w.small).0)

  pub salvage-accepted : (n : ℕ) (t : Totals) → salvage_outcome file (length out) list_length ≡ Written n t
      → ReadBack (values_left file) t (take n (salvage_buffer file out list_length))
  salvage-accepted n t e =
      let w = (written-through n t e).written in
      let vs = values_left file in
      let shapes = shaped-left file in
      subst (ReadBack vs t) (sym (file-first n t e))
      (record {
        in-ascii = (accepted vs shapes w.is w.small).1;
        read = read_back vs shapes w.is w.small;
        its-values = values-back vs n t shapes (asked-left file) w.is w.small;
      })
