-- What the checks of a record come to where it was called for, and where it was not; and how the reading stops, ends and goes on. Assumes nothing.
use Prim.Native.Nat.{ℕ, ◌+◌, ◌≤◌, ◌<◌}
use native.Mathlib.Nat.{lt_of_not-le}
use native.Mathlib.Omega.{arith}
use mathlib.Core.Path.{◌≡◌, refl, sym, ap, ◌∙◌, subst}
use mathlib.Core.Bool.{Bool, true, false, ◌&&◌, cond, and-false}
use mathlib.Core.List.{List}
use Rattle.std.specs.Prelude.{Option}
use lib.Dec.{leb, eqb}
use lib.ListN.{length}
use borrow.Author.Tests.{eqb-true}
use Rattle.text.specs.declared.character_set.CharacterSet.{CharacterSet}
use Rattle.frame.specs.Unless.{unless}
use Rattle.frame.specs.Frames.{part, frame_at}
use Rattle.frame.specs.Frames.{Whole}
use Rattle.frame.proofs.Laws.{cut-length}
use Rattle.judge.specs.Alone.{type_of, judged_as}
use Rattle.order.specs.MayFollow.{is_carried, follows, one_item_type, may_follow}
use Rattle.standing.specs.Standing.{onward, capped_figures, Roomy}
use Rattle.standing.specs.declared.Standing.{Standing}
use Rattle.passes.specs.declared.Fault.{Fault}
use Rattle.passes.specs.declared.Fault.TheVariants.{Length, UnknownType, Place}
use Rattle.passes.specs.Answers.{Faulty}
use Rattle.passes.specs.Answers.{Stop, On}
use Rattle.passes.specs.Answers.{Answer}
use Rattle.passes.specs.Answers.{Refused}
use Rattle.passes.specs.CheckOrder.{unless_alone, agreement, turn_of}
use Rattle.passes.specs.Reading.{of_turn, step_of, ended_with, Counted}
use Rattle.passes.proofs.Laws.{framed}
use Rattle.passes.proofs.Passes.{Survey, Moves, place-moves, survey-stop, survey-end, counted-end, survey-on, on-within}
use Rattle.slow_record.specs.Types.{as_type}
use Rattle.slow_step.specs.Places.{type_at, IsAnswer, Reached, Called, GoesOn}

-- 0 is no type, and nothing follows a 99
no-type : (b : Bool) (last : ℕ) → follows b last 0 ≡ false
unfolding follows
no-type true last = simp and-false
no-type false last = simp and-false

nothing-after : (b : Bool) (k : ℕ) → follows b 99 k ≡ false
unfolding follows
nothing-after true k = refl
nothing-after false k = refl

apart : {A : Type 0} → true ≡ false → A
apart e = let z : ◌≡◌ {A = ℕ} 0 1 = cc in absurd (omega arith)

typed : (a b : Bool) (n k : ℕ) → cond (a && b) n 0 ≡ k → (k ≡ 0 → ⊥) → (a ≡ true) × (b ≡ true) × (n ≡ k)
typed true true n k e h = (refl, refl, e)
typed true false n k e h = absurd (h (sym e))
typed false b n k e h = absurd (h (sym e))

-- a record that nothing calls for
pub misfits : (set : CharacterSet) (file : List ℕ) (s : Standing) (at start size : ℕ) → eqb s.last 99 ≡ false → frame_at file at ≡ Whole start size → follows s.inside s.last (type_at set file at) ≡ false
    → step_of set file s at
    ≡ Stop (unless (leb 2 (length (part start size file))) Length (unless (is_carried (type_of set (part start size file))) UnknownType Place))
unfolding step_of turn_of may_follow type_at
misfits set file s at start size n w f = rw (n, w) (by (leb 2 (length body)) (is_carried (type_of set body)) (rw w at f))
  where
    body : List ℕ
    body = part start size file

    by : (a c : Bool) → follows s.inside s.last (cond (a && c) (type_of set body) 0) ≡ false
        → of_turn size
        (unless a (Faulty Length) (unless c (Faulty UnknownType) (unless (follows s.inside s.last (type_of set body) && one_item_type s.present (type_of set body)) (Faulty Place) (unless_alone (judged_as set (type_of set body) body) (agreement set file s at (type_of set body))))))
        ≡ Stop (unless a Length (unless c UnknownType Place))
    by true true g = rw g
    by true false g = refl
    by false c g = refl

module _ {set : CharacterSet} {file : List ℕ} {at : ℕ} {s : Standing} where
  module _ {b : Bool} {kind : ℕ} (p : Called set file s at b kind) where
    some-type : kind ≡ 0 → ⊥
    some-type e =
        let f : follows b s.last 0 ≡ true = rw e at p.place in
        let z : ◌≡◌ {A = ℕ} 0 1 = apart (sym f ∙ no-type b s.last) in
        omega arith

    pub not-ended : eqb s.last 99 ≡ false
    not-ended = by (eqb s.last 99) refl
      where
        by : (t : Bool) → eqb s.last 99 ≡ t → t ≡ false
        by true e =
            let f : follows b 99 kind ≡ true = rw (eqb-true s.last 99 e) at p.place in
            apart (sym f ∙ nothing-after b kind)
        by false e = refl

    pub in-file : at < length file
    unfolding type_at
    in-file = lt_of_not-le (λ h. some-type (sym p.type ∙ rw (cut-length file at (omega arith))))

    module _ {start size : ℕ} (w : frame_at file at ≡ Whole start size) where
      told : (leb 2 (length (part start size file)) ≡ true) × (is_carried (type_of set (part start size file)) ≡ true) × (type_of set (part start size file) ≡ kind)
      unfolding type_at
      told =
          typed (leb 2 (length (part start size file))) (is_carried (type_of set (part start size file))) (type_of set (part start size file)) kind
          (rw w at p.type) some-type

      -- PLACE hangs on the bundle's items alone
      pub step_is : s.inside ≡ b
          → step_of set file s at
          ≡ of_turn size
          (unless (one_item_type s.present kind) (Faulty Place) (unless_alone (judged_as set kind (part start size file)) (agreement set file s at kind)))
      unfolding step_of turn_of may_follow
      step_is e = rw (not-ended, w, told.0, told.1, told.2, e, p.place)

    pub its-type : {t size : ℕ} → step_of set file s at ≡ On t size → t ≡ kind
    its-type {t} {size} e = let f = framed set file s at t size e in sym f.type ∙ (told f.whole).2

  module _ (r : Reached set file at s) where
    survey : Survey set file at s
    survey =
        record {
          place =
              record {
                past = r.past;
                fuel = r.fuel;
                within = r.within;
                limit = omega (arith, r.limit);
                few = r.few;
                enough = r.enough;
                stands = r.stands;
              };
          same = r.same;
          count = r.count;
        }

    pub moves : Roomy s × (capped_figures s ≡ s)
    moves = place-moves set file at s survey.place

    pub refused : at < length file → {fault : Fault} → step_of set file s at ≡ Stop fault → IsAnswer set file (Refused fault (s.records.0 + 1) at)
    refused h {fault} e = record { answer = sym (survey-stop set file at s survey h fault e); rows = tt }

    pub finished : length file ≤ at → {answer : Answer} → answer ≡ ended_with s at → IsAnswer set file answer
    finished h e =
        record { answer = e ∙ sym (survey-end set file at s survey h); rows = subst (Counted file) (sym e) (counted-end set file at s survey h) }

    pub goes_on : at < length file → {t size : ℕ} {here : Standing} → step_of set file s at ≡ On t size → Moves set file s t at here
        → Reached set file (at + 4 + size) here
    goes_on h {t} {size} {here} e m =
        let v = survey-on set file at s survey h t size here e m in
        record {
          past = v.place.past;
          fuel = v.place.fuel;
          within = v.place.within;
          limit = r.limit;
          few = v.place.few;
          enough = v.place.enough;
          stands = v.place.stands;
          same = v.same;
          count = v.count;
        }

-- the record that was called for is good
pub entered : {set : CharacterSet} {file : List ℕ} {at : ℕ} {s : Standing} {b : Bool} {kind t size : ℕ} {here : Standing} {called : Option ℕ} → Called set file s at b kind
    → step_of set file s at ≡ On t size → Moves set file s kind at here → called ≡ as_type (type_at set file (at + 4 + size))
    → GoesOn set file s at kind here (at + 4 + size) called
unfolding onward
entered {set} {file} {at} {s} {b} {kind} {t} {size} {here} p e m q =
    record {
      reached = goes_on p.reached (in-file p) (rw (its-type p e) at e) m;
      level = ap (λ (u : Standing). u.inside) m;
      last = ap (λ (u : Standing). u.last) m;
      fewer = omega arith;
      type = q;
    }

pub fits : (set : CharacterSet) (file : List ℕ) (s : Standing) (at t size : ℕ) → step_of set file s at ≡ On t size → at + 4 + size ≤ length file
fits set file s at t size e = on-within set file s at t size e
