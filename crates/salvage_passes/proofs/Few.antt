-- How many values are left at most: the figures of the new file never outgrow their numbers. Assumes nothing.
use Prim.Native.Nat.{ℕ, ◌+◌, ◌*◌, ◌≤◌}
use native.Mathlib.Omega.{arith}
use mathlib.Core.Bool.{Bool, true, false, cond}
use mathlib.Core.List.{List, [], ◌∷◌}
use mathlib.Core.Option.{none, some}
use mathlib.Core.Path.{◌≡◌, ap}
use lib.Dec.{eqb}
use lib.ListN.{length, length-map}
use Rattle.text.specs.declared.character_set.CharacterSet.{CharacterSet}
use Rattle.layout.specs.Layouts.{cash_letter_control, file_control}
use Rattle.judge.specs.Alone.{type_of}
use Rattle.file_as_records.specs.Framed.{Body}
use Rattle.draft.specs.Values.{Values, values_of_body}
use Rattle.salvage_model.specs.Kept.{Fate, kept, renewed, dropped, Marked, control_values}
use Rattle.salvage_walk.proofs.Sorts.{spans-within}
use Rattle.salvage_made.specs.ByMarks.{closing, by_fate, by_marks, bodies_in}
use Rattle.salvage_next.specs.declared.Cue.{Cue}
use Rattle.salvage_next.specs.Cued.{Cued, turns}

one_at_most : (b : Bool) → cond b 1 0 ≤ 1
one_at_most true = omega arith
one_at_most false = omega arith

closed-many : (set : CharacterSet) (is_open : Bool) (vs : List Values) → length (closing set is_open vs) ≤ length vs + cond is_open 1 0
closed-many set true vs = omega arith
closed-many set false vs = omega arith

-- two values for each record that was walked, and those that close the letter and the file
fate-many : (set : CharacterSet) (is_open : Bool) (f : Fate) (b : Body) (others : Bool → List Values) (n : ℕ)
    → ((o : Bool) → length (others o) ≤ n + cond o 1 0) → length (by_fate set is_open f b others) ≤ n + 2 + cond is_open 1 0
fate-many set is_open kept b others n many = by (eqb (type_of set b) 10)
  where
    by : (ten : Bool) → length (cond ten (closing set is_open (values_of_body set b ∷ others true)) (values_of_body set b ∷ others is_open)) ≤ n + 2 + cond is_open 1 0
    by true = omega (arith, closed-many set is_open (values_of_body set b ∷ others true), many true)
    by false = omega (arith, many is_open)
fate-many set is_open renewed b others n many = by (eqb (type_of set b) 99)
  where
    by : (last : Bool)
        → length (cond last (closing set is_open (control_values set file_control (some b) ∷ [])) (control_values set cash_letter_control (some b) ∷ others false)) ≤ n + 2 + cond is_open 1 0
    by true = omega (arith, closed-many set is_open (control_values set file_control (some b) ∷ []))
    by false = omega (arith, many false)
fate-many set is_open (dropped k) b others n many = omega (arith, many is_open)

marks-many : (set : CharacterSet) (is_open : Bool) (ms : List Marked) → length (by_marks set is_open ms) ≤ 2 * length ms + 1 + cond is_open 1 0
unfolding by_marks
marks-many set is_open [] = omega (arith, closed-many set is_open (control_values set file_control none ∷ []))
marks-many set is_open (m ∷ ms) =
    omega (arith, fate-many set is_open m.fate m.body (λ o. by_marks set o ms) (2 * length ms + 1) (λ o. marks-many set o ms))

module _ {set : CharacterSet} {file : List ℕ} {end : ℕ} {c : Cue} {vs : List Values} (q : Cued set file end c vs) where
  pub turns-few : turns end c ≤ 0x2000_0000_0000_0000
  turns-few = omega (arith, q.left.limit, one_at_most c.«open», last-at-most c.done)
    where
      last-at-most : (b : Bool) → cond b 0 1 ≤ 1
      last-at-most true = omega arith
      last-at-most false = omega arith

  pub values-few : length vs ≤ 0x2000_0000_0000_0000
  values-few = by c.done q.values
    where
      by : (done : Bool) → vs ≡ cond done [] (by_marks set c.«open» q.marks) → length vs ≤ 0x2000_0000_0000_0000
      by true e = omega (arith, ap length e)
      by false e = omega (
        arith,
        ap length e,
        marks-many set c.«open» q.marks,
        one_at_most c.«open»,
        length-map q.marks (λ (m : Marked). m.body),
        spans-within file (bodies_in q.marks) c.plan.at end q.spans,
        q.left.limit,
      )
