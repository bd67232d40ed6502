-- How a reading comes out, by the good records that it goes by; and that a file with these records comes out behind them. Assumes nothing.
use Prim.Native.Nat.{ℕ, zero, suc, ◌+◌, ◌-◌, ◌≤◌, ◌<◌}
use native.Mathlib.Omega.{arith}
use mathlib.Core.Bool.{Bool, true, false, ◌&&◌, cond}
use mathlib.Core.List.{List, [], ◌∷◌, map}
use mathlib.Core.Path.{◌≡◌, refl, ◌∙◌}
use lib.Dec.{leb, eqb}
use lib.ListN.{length}
use borrow.Author.Tests.{le-leb, leb-true, leb-false}
use Rattle.std.specs.Prelude.{Some}
use Rattle.text.specs.declared.character_set.CharacterSet.{CharacterSet}
use Rattle.text.specs.CharacterSet.{set_of}
use Rattle.frame.specs.Frames.{Frame}
use Rattle.frame.specs.Frames.{Whole}
use Rattle.frame.specs.Frames.{part, frame_at}
use Rattle.frame.specs.Unless.{unless}
use Rattle.judge.specs.Alone.{Judged}
use Rattle.judge.specs.Alone.{Sound, WrongLength, WrongField}
use Rattle.judge.specs.Alone.{type_of, judged_as}
use Rattle.order.specs.MayFollow.{is_carried, may_follow, last_of}
use Rattle.standing.specs.History.{Entry, entry}
use Rattle.standing.specs.Standing.{standing}
use Rattle.standing.specs.declared.Standing.{Standing}
use Rattle.standing.proofs.Laws.{standing-records}
use Rattle.agree.specs.Links.{link_fault}
use Rattle.agree.specs.Totals.{total_fault}
use Rattle.passes.specs.declared.Fault.{Fault}
use Rattle.passes.specs.declared.Fault.TheVariants.{Size, Cut, Length, UnknownType, Place, Field, Link, Total, Open, After}
use Rattle.passes.specs.Answers.{Turn}
use Rattle.passes.specs.Answers.{Faulty, Good}
use Rattle.passes.specs.Answers.{Step}
use Rattle.passes.specs.Answers.{Stop, On}
use Rattle.passes.specs.Answers.{Answer}
use Rattle.passes.specs.Answers.{Accepted, Refused}
use Rattle.passes.specs.CheckOrder.{unless_alone, agreement, turn_of}
use Rattle.passes.specs.Reading.{totals_of, of_turn, of_frame, step_of, after_step, ended_with, ended, run, surveyed}
use Rattle.passes.proofs.Laws.{run-stop, run_on}
use Rattle.passes.proofs.Passes.{on-within}
use Rattle.own_fault.specs.OwnFault.{is_own, NotBefore}
use Rattle.own_fault.proofs.SameReading.{ReadTo, start, on}
use Rattle.frame.specs.Frames as frames
use Rattle.judge.specs.Alone as judgements

-- a turn's fault is the record's own
own-unless : (c : Bool) (f : Fault) (next : Turn) {fault : Fault} → is_own f ≡ true → (next ≡ Faulty fault → is_own fault ≡ true)
    → unless c (Faulty f) next ≡ Faulty fault → is_own fault ≡ true
own-unless true f next o others e = others e
own-unless false f next {fault} o others e = let same : f ≡ fault = cc in rw same at o

own_alone : (j : Judged) (next : Turn) {fault : Fault} → (next ≡ Faulty fault → is_own fault ≡ true) → unless_alone j next ≡ Faulty fault → is_own fault ≡ true
own_alone Sound next others e = others e
own_alone WrongLength next {fault} others e = let same : fault ≡ Length = cc in rw same
own_alone judgements.UnknownType next {fault} others e = let same : fault ≡ UnknownType = cc in rw same
own_alone (WrongField n) next {fault} others e = let same : fault ≡ Field n = cc in rw same

own-good : (t : ℕ) {fault : Fault} → Good t ≡ Faulty fault → is_own fault ≡ true
own-good t e = cc

turn-own : (set : CharacterSet) (file : List ℕ) (s : Standing) (at : ℕ) (body : List ℕ) {fault : Fault}
    → turn_of set file s at body ≡ Faulty fault → is_own fault ≡ true
unfolding turn_of agreement
turn-own set file s at body e =
    let t = type_of set body in
    let link = link_fault set file s t at in
    let total = total_fault set file s t at in
    own-unless (leb 2 (length body)) Length _ refl
    (own-unless (is_carried t) UnknownType _ refl
    (own-unless (may_follow s.inside s.last s.present t) Place _ refl
    (own_alone (judged_as set t body) _
    (own-unless (eqb link 0) (Link link) _ refl (own-unless (eqb total 0) (Total total) _ refl (own-good t))))))
    e

-- the newest record is a 99
abbrev pub is_closed : List Entry → Bool
is_closed past = eqb (last_of (map (λ (r : Entry). r.type) past)) 99

pub last-is : (set : CharacterSet) (file : List ℕ) (past : List Entry) → eqb (standing set file past).last 99 ≡ is_closed past
unfolding standing
last-is set file past = refl

-- SIZE; ACCEPTED or OPEN at the end of the bytes; AFTER, CUT or a fault of its own at a record
pub data Outcome (set : CharacterSet) (file : List ℕ) : Answer → Type 0 where
  no_size : Outcome set file (Refused Size 0 0)
  closed : {past : List Entry} {at : ℕ} → ReadTo set file past at → length file ≤ at → is_closed past ≡ true
      → Outcome set file (Accepted (totals_of (standing set file past)))
  left_open : {past : List Entry} {at : ℕ} → ReadTo set file past at → 1 ≤ length file → is_closed past ≡ false
      → Outcome set file (Refused Open (length past + 1) at)
  behind : {past : List Entry} {at : ℕ} → ReadTo set file past at → at < length file → is_closed past ≡ true
      → Outcome set file (Refused After (length past + 1) at)
  cut : {past : List Entry} {at : ℕ} → ReadTo set file past at → at < length file → Outcome set file (Refused Cut (length past + 1) at)
  faulty : {past : List Entry} {at : ℕ} {fault : Fault} → ReadTo set file past at → at < length file → is_closed past ≡ false
      → (from size : ℕ) → frame_at file at ≡ Whole from size → step_of set file (standing set file past) at ≡ Stop fault → is_own fault ≡ true
      → Outcome set file (Refused fault (length past + 1) at)

module _ (set : CharacterSet) (file : List ℕ) where
  end-outcome : {past : List Entry} {at : ℕ} → ReadTo set file past at → 1 ≤ length file → length file ≤ at → Outcome set file (ended set file past at)
  unfolding ended_with
  end-outcome {past} {at} r long h = rw (last-is set file past, standing-records set file past) (cases (is_closed past) refl)
    where
      cases : (b : Bool) → is_closed past ≡ b
          → Outcome set file (cond b (Accepted (totals_of (standing set file past))) (Refused Open (length past + 1) at))
      cases true l = closed r h l
      cases false l = left_open r long l

  stop-outcome : {past : List Entry} {at : ℕ} {fault : Fault} → ReadTo set file past at → at < length file
      → step_of set file (standing set file past) at ≡ Stop fault → Outcome set file (Refused fault (length past + 1) at)
  unfolding step_of
  stop-outcome {past} {at} {fault} r h step = cases (is_closed past) refl (frame_at file at) refl (rw (last-is set file past) at step)
    where
      s : Standing
      s = standing set file past

      of-turn : (turn : Turn) (size : ℕ) → of_turn size turn ≡ Stop fault → turn ≡ Faulty fault
      of-turn (Faulty f) size q = cc
      of-turn (Good t) size q = cc

      cases : (b : Bool) → is_closed past ≡ b → (f : Frame) → frame_at file at ≡ f → cond b (Stop After) (of_frame set file s at f) ≡ Stop fault
          → Outcome set file (Refused fault (length past + 1) at)
      cases true l f w q = let is : fault ≡ After = cc in rw is (behind r h l)
      cases false l frames.Cut w q = let is : fault ≡ Cut = cc in rw is (cut r h)
      cases false l (Some x) w q =
          faulty r h l x.start x.size w step (turn-own set file s at (part x.start x.size file) (of-turn (turn_of set file s at (part x.start x.size file)) x.size q))

  run-outcome : (n at : ℕ) (past : List Entry) → ReadTo set file past at → 1 ≤ length file → length file ≤ at + n → Outcome set file (run set n file at past)
  unfolding run
  run-outcome zero at past r long h = end-outcome r long (omega arith)
  run-outcome (suc n) at past r long h =
      cases (leb (length file) at) refl (step_of set file (standing set file past) at) refl (λ next newer o l. run-outcome n next newer o long l)
    where
      cases : (b : Bool) → leb (length file) at ≡ b → (step : Step) → step_of set file (standing set file past) at ≡ step
          → ((next : ℕ) (newer : List Entry) → ReadTo set file newer next → length file ≤ next + n → Outcome set file (run set n file next newer))
          → Outcome set file (cond b (ended set file past at) (after_step at past step (λ next newer. run set n file next newer)))
      cases true b step e others = end-outcome r long (leb-true _ _ b)
      cases false b (Stop fault) e others = stop-outcome r (leb-false _ _ b) e
      cases false b (On t size) e others = others (at + 4 + size) (entry t at size ∷ past) (on r e) (omega arith)

pub outcome : (file : List ℕ) → Outcome (set_of file) file (surveyed file)
unfolding surveyed
outcome file = cases (leb 1 (length file)) refl (leb (length file) 268_435_456)
  where
    cases : (b : Bool) → leb 1 (length file) ≡ b → (c : Bool)
        → Outcome (set_of file) file (cond (b && c) (run (set_of file) (length file) file 0 []) (Refused Size 0 0))
    cases true b true = run-outcome (set_of file) file (length file) 0 [] start (leb-true _ _ b) (omega arith)
    cases true b false = no_size
    cases false b c = no_size

-- the reading goes by the records that are good, and from there on
record Goes (set : CharacterSet) (file : List ℕ) (past : List Entry) (at : ℕ) : Type 0 where
  fuel : ℕ
  enough : length file ≤ at + fuel
  same : run set (length file) file 0 [] ≡ run set fuel file at past

goes : (set : CharacterSet) (file : List ℕ) {past : List Entry} {at : ℕ} → ReadTo set file past at → Goes set file past at
goes set file start = record { fuel = length file; enough = omega arith; same = refl }
goes set file (on {past} {at} {t} {size} r step) =
    let g = goes set file r in
    let within = on-within set file (standing set file past) at t size step in
    record {
      fuel = g.fuel - 1;
      enough = omega arith;
      same = g.same ∙ run_on set file at past g.fuel t size (omega arith) (omega arith) step;
    }

survey-run : (file : List ℕ) → 1 ≤ length file → length file ≤ 268_435_456 → surveyed file ≡ run (set_of file) (length file) file 0 []
unfolding surveyed
survey-run file h l = rw (le-leb 1 (length file) h, le-leb (length file) 268_435_456 l)

module _ (set : CharacterSet) (file : List ℕ) (place : ℕ) where
  ended_at : (at : ℕ) (past : List Entry) → place ≤ length past + 1 → (is_closed past ≡ true → place ≤ length past) → NotBefore place (ended set file past at)
  unfolding ended_with
  ended_at at past h l = rw (last-is set file past, standing-records set file past) (cases (is_closed past) refl)
    where
      cases : (b : Bool) → is_closed past ≡ b
          → NotBefore place (cond b (Accepted (totals_of (standing set file past))) (Refused Open (length past + 1) at))
      cases true c = omega (arith, l c, standing-records set file past)
      cases false c = h

  run_at : (n at : ℕ) (past : List Entry) → place ≤ length past + 1 → (length file ≤ at → is_closed past ≡ true → place ≤ length past)
      → length file ≤ at + n → NotBefore place (run set n file at past)
  unfolding run
  run_at zero at past h l k = ended_at at past h (l (omega arith))
  run_at (suc n) at past h l k =
      cases (leb (length file) at) refl (step_of set file (standing set file past) at) (λ next newer h l k. run_at n next newer h l k)
    where
      cases : (b : Bool) → leb (length file) at ≡ b → (step : Step)
          → ((next : ℕ) (newer : List Entry) → place ≤ length newer + 1 → (length file ≤ next → is_closed newer ≡ true → place ≤ length newer)
          → length file ≤ next + n → NotBefore place (run set n file next newer))
          → NotBefore place (cond b (ended set file past at) (after_step at past step (λ next newer. run set n file next newer)))
      cases true b step others = ended_at at past h (l (leb-true _ _ b))
      cases false b (Stop fault) others = h
      cases false b (On t size) others = others (at + 4 + size) (entry t at size ∷ past) (omega arith) (λ m c. omega arith) (omega arith)

-- a file within the limit with these records
module _ (file : List ℕ) (limit : length file ≤ 268_435_456) {past : List Entry} {at : ℕ} (r : ReadTo (set_of file) file past at) where
  -- and a fault behind them
  pub stops_at : {fault : Fault} → at < length file → step_of (set_of file) file (standing (set_of file) file past) at ≡ Stop fault
      → surveyed file ≡ Refused fault (length past + 1) at
  stops_at {fault} h step =
      let g = goes (set_of file) file r in
      survey-run file (omega arith) limit ∙ g.same ∙ run-stop (set_of file) file at past g.fuel fault h (omega arith) step

  -- gets no answer before the record that comes next, unless it is accepted with them
  pub comes-to : (1 ≤ length file) → (length file ≤ at → is_closed past ≡ false) → NotBefore (length past + 1) (surveyed file)
  comes-to long h =
      let g = goes (set_of file) file r in
      rw (survey-run file long limit, g.same)
      (run_at (set_of file) file (length past + 1) g.fuel at past (omega arith) (λ l c. let e = h l in let z : ◌≡◌ {A = ℕ} 0 1 = cc in absurd (omega arith)) g.enough)
