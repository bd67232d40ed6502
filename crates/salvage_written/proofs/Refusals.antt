-- PLACE, FIELD and LINK never come; and what is kept is written as it stands. Assumes nothing.
use Prim.Native.Nat.{ℕ, ◌/◌}
use native.Mathlib.Omega.{arith}
use mathlib.Core.Bool.{Bool, true, false, ◌&&◌}
use mathlib.Core.List.{List, [], map}
use mathlib.Core.Path.{◌≡◌, refl, ap, ◌∙◌, subst}
use lib.Dec.{leb}
use lib.ListN.{length, take}
use Rattle.std.specs.Prelude.{Err}
use Rattle.text.specs.CharacterSet.{set_of}
use Rattle.frame.specs.Unless.{unless}
use Rattle.passes.specs.declared.Fault.{Fault}
use Rattle.passes.specs.declared.Fault.TheVariants.{Size, Room, Nothing}
use Rattle.passes.specs.declared.Totals.{Totals}
use Rattle.file_as_records.specs.Framed.{Body, framed}
use Rattle.file_as_records.proofs.LengthFields.{one-framing}
use Rattle.draft.specs.Outcomes.{Outcome}
use Rattle.draft.specs.Outcomes.{Written, Refused}
use Rattle.draft.specs.Drafted.{made, answer_from, in_room, outcome_of}
use Rattle.made_is_read.proofs.Whole.{accepted}
use Rattle.values_back.proofs.Whole.{bodies_from, framed-from}
use Rattle.salvage_model.specs.Walked.{walked}
use Rattle.salvage_model.specs.Kept.{marks_of, kept_bodies, is_anything}
use Rattle.salvage_model.specs.Salvaged.{values_left, in_list, salvage_outcome, salvage_buffer}
use Rattle.salvage_model.specs.Promises.{can_come, copied, without_controls}
use Rattle.salvage_written.proofs.Values.{shaped-left}
use Rattle.salvage_written.proofs.Accepted.{written-through, file-first}
use Rattle.salvage_written.proofs.Going.{CanCome, Going}
use Rattle.salvage_written.proofs.Left.{whole-goes}

-- what a short buffer and a short list make of an answer
can-room : (room : ℕ) (o : Outcome) → CanCome o → CanCome (in_room room o)
can-room room (Written n t) c = by (leb n 268_435_456) (leb n room)
  where
    by : (a b : Bool) → CanCome (unless a (Refused Size 0 0) (unless b (Refused Room n 0) (Written n t)))
    by true true = tt
    by true false = refl
    by false b = refl
can-room room (Err r) c = c

can-list : (rows needed : ℕ) (o : Outcome) → CanCome o → CanCome (in_list rows needed o)
can-list rows needed (Written n t) c = by (leb needed rows)
  where
    by : (a : Bool) → CanCome (unless a (Refused Room needed 0) (Written n t))
    by true = tt
    by false = refl
can-list rows needed (Err r) c = c

left-goes : (file : List ℕ) → is_anything (set_of file) (walked file) ≡ true
    → Going [] (values_left file) (map (copied (set_of file)) (kept_bodies (marks_of (set_of file) (walked file))))
unfolding values_left
left-goes file any = whole-goes (set_of file) (walked file) any

outcome-can : (file : List ℕ) (room list_length : ℕ) → CanCome (salvage_outcome file room list_length)
unfolding salvage_outcome outcome_of
outcome-can file room list_length =
    by (leb 1 (length file) && leb (length file) 268_435_456) (is_anything (set_of file) (walked file)) refl
  where
    by : (a b : Bool) → is_anything (set_of file) (walked file) ≡ b
        → CanCome
        (unless a (Refused Size 0 0)
        (unless b (Refused Nothing 0 0) (in_list (list_length / 4) (length (walked file)) (in_room room (answer_from (values_left file) [] [])))))
    by false b q = refl
    by true false q = refl
    by true true q =
        can-list (list_length / 4) (length (walked file)) (in_room room (answer_from (values_left file) [] []))
        (can-room room (answer_from (values_left file) [] []) (left-goes file q).can)

-- the promises
pub refusals : (file : List ℕ) (room list_length : ℕ) (fault : Fault) (place offset : ℕ) → salvage_outcome file room list_length ≡ Refused fault place offset
    → can_come fault ≡ true
refusals file room list_length fault place offset e = subst CanCome e (outcome-can file room list_length)

pub as-they-stand : (file out : List ℕ) (list_length n : ℕ) (t : Totals) (bs : List Body) → salvage_outcome file (length out) list_length ≡ Written n t
    → framed bs ≡ take n (salvage_buffer file out list_length)
    → without_controls bs ≡ map (copied (set_of file)) (kept_bodies (marks_of (set_of file) (walked file)))
unfolding made
as-they-stand file out list_length n t bs e f =
    let through = written-through file out list_length n t e in
    let w = through.written in
    let vs = values_left file in
    let long = (accepted vs (shaped-left file) w.is w.small).0 in
    let same : framed bs ≡ made vs = f ∙ file-first file out list_length n t e in
    let bodies : bs ≡ bodies_from vs [] [] =
    one-framing bs (bodies_from vs [] []) (same ∙ framed-from vs [] []) (omega (arith, ap length same, long, w.small)) in
    ap without_controls bodies ∙ (left-goes file through.any).bodies n t w.is
