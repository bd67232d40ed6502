-- The writer goes on over a kept record as over itself, and over a new control unless a total is too long. Assumes nothing.
use Prim.Native.Nat.{ℕ, ◌+◌, ◌<◌}
use native.Mathlib.Omega.{arith}
use mathlib.Core.Bool.{Bool, true, false, cond}
use mathlib.Core.Path.{◌≡◌, refl, sym, ap, ap₂, ◌∙◌, subst}
use mathlib.Core.List.{List, [], ◌∷◌, ◌++◌}
use lib.Dec.{eqb}
use lib.ListN.{length}
use lib.Seq.{drop_at}
use borrow.Author.Tests.{eq-eqb}
use Rattle.std.specs.Prelude.{Err}
use Rattle.text.specs.declared.character_set.CharacterSet.TheVariants.{Ascii}
use Rattle.frame.specs.Unless.{unless}
use Rattle.judge.specs.Alone.{Sound}
use Rattle.judge.specs.Alone.{type_of, judged_as}
use Rattle.order.specs.MayFollow.{is_one_of, may_follow, is_carried}
use Rattle.standing.specs.History.{entry}
use Rattle.standing.specs.Standing.{standing}
use Rattle.agree.specs.Links.{link_fault}
use Rattle.agree.specs.Totals.{total_fault}
use Rattle.passes.specs.declared.Fault.{Fault}
use Rattle.passes.specs.declared.Fault.TheVariants.{Total}
use Rattle.passes.specs.declared.Totals.{Totals}
use Rattle.passes.specs.Answers.{Turn}
use Rattle.passes.specs.CheckOrder.{agreement, turn_of}
use Rattle.file_as_records.specs.Framed.{Body, framed}
use Rattle.file_as_records.proofs.Figures.{last_in}
use Rattle.file_as_records.proofs.Good.{Good}
use Rattle.file_as_records.proofs.Held.{Held, extent, entries, over, stands}
use Rattle.file_as_records.proofs.Opened.{AllOpened, none-opened, all-opened}
use Rattle.file_as_records.proofs.ReadThrough.{body_is}
use Rattle.draft.specs.Outcomes.{Outcome}
use Rattle.draft.specs.Outcomes.{Written, Refused}
use Rattle.draft.specs.Values.{Values, values_at, values_of_body}
use Rattle.draft.specs.Completed.{addenda_behind, completed}
use Rattle.draft.specs.Drafted.{body_of, file_with, past_with, turn_of_row, offset_of, after_turn, rows_ended, answer_from}
use Rattle.draft.proofs.Judged.{completed-type, completed-judged}
use Rattle.same_bytes.proofs.Again.{before, long-before, held_more, held-here, held-older, agrees}
use Rattle.same_bytes.proofs.Itself.{ItselfAs}
use Rattle.values_back.proofs.Whole.{bodies_from}
use Rattle.salvage_model.specs.Runs.{of}
use Rattle.salvage_model.specs.Promises.{can_come, without_controls}
use Rattle.salvage_written.proofs.ReadRun.{two-long}
use Rattle.salvage_written.proofs.Control.{NewControl}
use Rattle.file_as_records.proofs.Steps as steps
use Rattle.same_bytes.proofs.Again as again
use Rattle.passes.specs.Answers as turns

abbrev pub CanCome : Outcome → Type 0
CanCome (Written n t) = Unit {0}
CanCome (Err r) = can_come r.fault ≡ true

-- records that stand in the file that is being made
pub record State (past : List Body) : Type 0 where
  pub older : Held Ascii (before past) past
  pub opened : AllOpened Ascii past

pub state-on : (past : List Body) → State past → (b : Body) → Good Ascii past b → State (b ∷ past)
state-on past s b g =
    record { older = (held-here past s.older b g, held-older past s.older b g); opened = all-opened Ascii b past s.opened g.follows }

pub state-none : State []
state-none = record { older = tt; opened = none-opened Ascii }

-- what becomes of values behind those records: no refusal but some, and, where all is written, records that are kept as they stand
pub record Going (past : List Body) (vs : List Values) (kept : List Body) : Type 0 where
  pub can : CanCome (answer_from vs (before past) (entries Ascii past))
  pub bodies : (n : ℕ) (t : Totals) → answer_from vs (before past) (entries Ascii past) ≡ Written n t
      → without_controls (bodies_from vs (before past) (entries Ascii past)) ≡ kept

never : {fault : Fault} {place offset n : ℕ} {t : Totals} {A : Type 0} → Refused fault place offset ≡ Written n t → A
never e = let z : ◌≡◌ {A = ℕ} 0 1 = cc in absurd (omega arith)

pub end-going : (past : List Body) → State past → last_in Ascii past ≡ 99 → Going past [] []
unfolding answer_from rows_ended bodies_from
end-going past s e =
    let stood = stands Ascii (before past) past s.older in
    record { can = rw (stood, eq-eqb (last_in Ascii past) 99 e) tt; bodies = λ n t q. refl }

-- a row whose record is completed as c
module _ (v : Values) (vs : List Values) (past : List Body) (c : Body) (same : body_of v vs (before past) (entries Ascii past) ≡ c)
    (type : v.type ≡ type_of Ascii c) where
  file-is : file_with v vs (before past) (entries Ascii past) ≡ before (c ∷ past)
  file-is = ap (λ (x : Body). before past ++ framed (x ∷ [])) same

  past_is : past_with v vs (before past) (entries Ascii past) ≡ entries Ascii (c ∷ past)
  past_is =
      ap (λ (t : ℕ). entry t (length (before past)) (length (body_of v vs (before past) (entries Ascii past))) ∷ entries Ascii past) type
      ∙ ap₂ (λ (at : ℕ) (x : Body). entry (type_of Ascii c) at (length x) ∷ entries Ascii past) (long-before past) same

  module _ {u : ℕ} (turn : turn_of_row v vs (before past) (entries Ascii past) (standing Ascii (before past) (entries Ascii past)) ≡ turns.Good u) where
    answer-on : answer_from (v ∷ vs) (before past) (entries Ascii past) ≡ answer_from vs (before (c ∷ past)) (entries Ascii (c ∷ past))
    unfolding answer_from
    answer-on =
        ap
        (λ (t : Turn).
        after_turn (before past) (entries Ascii past) t
        (answer_from vs (file_with v vs (before past) (entries Ascii past)) (past_with v vs (before past) (entries Ascii past))))
        turn
        ∙ ap₂ (answer_from vs) file-is past_is

    bodies-on : bodies_from (v ∷ vs) (before past) (entries Ascii past) ≡ c ∷ bodies_from vs (before (c ∷ past)) (entries Ascii (c ∷ past))
    unfolding bodies_from
    bodies-on =
        ap₂ (λ (x : Body) (xs : List Body). x ∷ xs) same (ap₂ (bodies_from vs) file-is past_is)

    -- a record that is kept, and a control that is not
    on-going : (kept : List Body) → Going (c ∷ past) vs kept → Going past (v ∷ vs) (cond (of Ascii (90 ∷ 99 ∷ []) c) kept (c ∷ kept))
    on-going kept g =
        record {
          can = subst CanCome (sym answer-on) g.can;
          bodies = λ n t e.
              ap without_controls bodies-on
              ∙ ap (λ (bs : List Body). cond (of Ascii (90 ∷ 99 ∷ []) c) bs (c ∷ bs)) (g.bodies n t (sym answer-on ∙ e));
        }

-- a good record, given as its values
module _ (past : List Body) (s : State past) (b : Body) (g : Good Ascii past b) (vs : List Values)
    (own : ItselfAs (type_of Ascii b) past b (addenda_behind (type_of Ascii b) vs)) where
  stood : standing Ascii (before past) (entries Ascii past) ≡ over Ascii past
  stood = stands Ascii (before past) past s.older

  body-again : body_of (values_of_body Ascii b) vs (before past) (entries Ascii past) ≡ b
  unfolding values_of_body values_at
  body-again = rw stood own.same

  turn-again : turn_of_row (values_of_body Ascii b) vs (before past) (entries Ascii past) (standing Ascii (before past) (entries Ascii past)) ≡ turns.Good (type_of Ascii b)
  unfolding values_of_body values_at
  turn-again =
      again.turn-good (values_of_body Ascii b) vs (before past) (entries Ascii past) b body-again (over Ascii past) stood g.follows own.fit own.fields
      own.parts (rw (long-before past) (agrees past s.older b g s.opened))

  type-again : (values_of_body Ascii b).type ≡ type_of Ascii b
  unfolding values_of_body values_at
  type-again = refl

  pub body-going : (kept : List Body) → of Ascii (90 ∷ 99 ∷ []) b ≡ false → Going (b ∷ past) vs kept → Going past (values_of_body Ascii b ∷ vs) (b ∷ kept)
  body-going kept n later =
      let on = on-going (values_of_body Ascii b) vs past b body-again type-again turn-again kept later in
      rw n at on

-- a new control
module _ (past : List Body) (s : State past) (t : ℕ) (v : Values) (new : NewControl t v) (vs : List Values) (small : t < 100) (carries : is_carried t ≡ true)
    (control : is_one_of t (90 ∷ 99 ∷ []) ≡ true)
    (follows : may_follow (over Ascii past).inside (over Ascii past).last (over Ascii past).present t ≡ true)
    (linked : (file : List ℕ) (at : ℕ) → link_fault Ascii file (over Ascii past) t at ≡ 0) where
  abbrev made : Body
  made = completed v (addenda_behind v.type vs) (over Ascii past)

  type-made : type_of Ascii made ≡ t
  type-made = completed-type v (addenda_behind v.type vs) (over Ascii past) (omega (arith, new.type, small)) ∙ new.type

  is_made : body_of v vs (before past) (entries Ascii past) ≡ made
  is_made = ap (completed v (addenda_behind v.type vs)) (stands Ascii (before past) past s.older)

  turn_is : turn_of_row v vs (before past) (entries Ascii past) (standing Ascii (before past) (entries Ascii past))
      ≡ agreement Ascii (before (made ∷ past)) (over Ascii past) (extent past) t
  unfolding turn_of_row
  turn_is =
      rw (stands Ascii (before past) past s.older, new.parts, new.fields (addenda_behind v.type vs) (over Ascii past))
      (rw (new.type, follows, long-before past))

  sound-made : judged_as Ascii (type_of Ascii made) made ≡ Sound
  sound-made =
      ap (λ (n : ℕ). judged_as Ascii n made) (type-made ∙ sym new.type)
      ∙ completed-judged v (addenda_behind v.type vs) (over Ascii past) new.shaped (ap is_carried new.type ∙ carries)
      (new.fit (addenda_behind v.type vs)) new.lies
      ∙ rw (new.fields (addenda_behind v.type vs) (over Ascii past), new.parts)

  good-made : agreement Ascii (before (made ∷ past)) (over Ascii past) (extent past) t ≡ turns.Good t → Good Ascii past made
  unfolding turn_of
  good-made e =
      let file = before (made ∷ past) in
      let long = long-before past in
      let two = two-long Ascii made (ap is_carried type-made ∙ carries) in
      let turn : turn_of Ascii file (over Ascii past) (extent past) made ≡ turns.Good t = rw (two, sound-made) (rw (type-made, carries, follows) e) in
      steps.turn-good Ascii file past (held_more (before past) (framed (made ∷ [])) past (omega (arith, long)) s.older) s.opened (extent past) made []
      (body_is file (extent past) made [] (drop_at (before past) (framed (made ∷ [])) (extent past) long)) turn

  pub control-going : (kept : List Body) → ((c : Body) → type_of Ascii c ≡ t → Good Ascii past c → State (c ∷ past) → Going (c ∷ past) vs kept)
      → Going past (v ∷ vs) kept
  unfolding agreement answer_from
  control-going kept later = by (eqb (total_fault Ascii (before (made ∷ past)) (over Ascii past) t (extent past)) 0) refl
    where
      fault : ℕ
      fault = total_fault Ascii (before (made ∷ past)) (over Ascii past) t (extent past)

      told : agreement Ascii (before (made ∷ past)) (over Ascii past) (extent past) t ≡ unless (eqb fault 0) (turns.Faulty (Total fault)) (turns.Good t)
      told = rw (linked (before (made ∷ past)) (extent past))

      by : (c : Bool) → eqb fault 0 ≡ c → Going past (v ∷ vs) kept
      by true q =
          let passes : agreement Ascii (before (made ∷ past)) (over Ascii past) (extent past) t ≡ turns.Good t =
          told ∙ ap (λ (c : Bool). unless c (turns.Faulty (Total fault)) (turns.Good t)) q in
          let g = good-made passes in
          let is : of Ascii (90 ∷ 99 ∷ []) made ≡ true = ap (λ (n : ℕ). is_one_of n (90 ∷ 99 ∷ [])) type-made ∙ control in
          let on = on-going v vs past made is_made (new.type ∙ sym type-made) (turn_is ∙ passes) kept (later made type-made g (state-on past s made g)) in
          rw is at on
      by false q =
          let stops : turn_of_row v vs (before past) (entries Ascii past) (standing Ascii (before past) (entries Ascii past)) ≡ turns.Faulty (Total fault) =
          turn_is ∙ told ∙ ap (λ (c : Bool). unless c (turns.Faulty (Total fault)) (turns.Good t)) q in
          let answer : answer_from (v ∷ vs) (before past) (entries Ascii past)
          ≡ Refused (Total fault) (length (entries Ascii past) + 1) (offset_of (length (before past))) =
          ap
          (λ (turn : Turn).
          after_turn (before past) (entries Ascii past) turn
          (answer_from vs (file_with v vs (before past) (entries Ascii past)) (past_with v vs (before past) (entries Ascii past))))
          stops in
          record { can = subst CanCome (sym answer) refl; bodies = λ n t e. never (sym answer ∙ e) }
