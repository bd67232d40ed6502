-- Two files with the same bytes up to a place are read alike up to there. Assumes nothing.
use Prim.Native.Nat.{ℕ, ◌+◌, ◌≤◌, ◌<◌}
use native.Mathlib.Omega.{arith}
use mathlib.Core.Bool.{true, cond}
use mathlib.Core.List.{List, [], ◌∷◌}
use mathlib.Core.Path.{◌≡◌, refl, sym, ap, ◌∙◌}
use lib.Dec.{eqb}
use lib.ListN.{length, take, drop, get_or, length-take}
use lib.Seq.{get_or-take, get_or-drop}
use Rattle.text.specs.declared.character_set.CharacterSet.{CharacterSet}
use Rattle.text.specs.CharacterSet.{set_of}
use Rattle.frame.specs.Frames.{Whole}
use Rattle.frame.specs.Frames.{part, length_at, frame_at}
use Rattle.frame.proofs.Laws.{whole, whole-start, whole-size}
use Rattle.judge.specs.Alone.{Sound}
use Rattle.judge.specs.Alone.{type_of, judged_as}
use Rattle.order.specs.MayFollow.{may_follow}
use Rattle.order.proofs.Laws.{first-type}
use Rattle.standing.specs.History.{Entry, entry}
use Rattle.standing.specs.Standing.{standing}
use Rattle.standing.specs.declared.Standing.{Standing}
use Rattle.passes.specs.declared.Fault.TheVariants.{After}
use Rattle.passes.specs.Answers.{Stop, On}
use Rattle.passes.specs.CheckOrder.{turn_of}
use Rattle.passes.specs.Reading.{of_turn, step_of}
use Rattle.passes.proofs.Passed.{passed, turns-alike}
use Rattle.passes.proofs.Laws.{framed}
use Rattle.passes.proofs.Passes.{on-within}
use Rattle.ascii_copy.proofs.SoundCharacters.{width_of, sound-long}
use Rattle.alike.proofs.Alike.{part-in-front}
use Rattle.own_fault.proofs.SameBefore.{SameAt, SamePast, standing-same, agreement-same}

-- the records of past are good, one behind the other from the start, and the newest ends at an offset
pub data ReadTo (set : CharacterSet) (file : List ℕ) : List Entry → ℕ → Type 0 where
  start : ReadTo set file [] 0
  on : {past : List Entry} {at t size : ℕ} → ReadTo set file past at → step_of set file (standing set file past) at ≡ On t size
      → ReadTo set file (entry t at size ∷ past) (at + 4 + size)

-- a good record is long enough for its type, and for its fixed part
module _ (set : CharacterSet) (file : List ℕ) (s : Standing) (at t size : ℕ) (step : step_of set file s at ≡ On t size) where
  two-long : 2 ≤ size
  two-long =
      let f = framed set file s at t size step in
      omega (arith, (passed set f.turn).long, length-take size (drop f.start file))

  fixed-long : width_of t ≤ size
  fixed-long =
      let f = framed set file s at t size step in
      let body = part f.start size file in
      let sound : judged_as set t body ≡ Sound = rw f.type at (passed set f.turn).alone in
      omega (arith, sound-long set t body sound, length-take size (drop f.start file))

  may-come : may_follow s.inside s.last s.present t ≡ true
  may-come = let f = framed set file s at t size step in rw f.type at (passed set f.turn).follows

module _ (set : CharacterSet) (file : List ℕ) where
  pub read-within : {past : List Entry} {at : ℕ} → ReadTo set file past at → at ≤ length file
  read-within start = omega arith
  read-within (on r step) = on-within set file _ _ _ _ step

  -- behind a good record the characters that tell the set are read
  pub data Opening (past : List Entry) (at : ℕ) : Type 0 where
    none : past ≡ [] → at ≡ 0 → Opening past at
    some : 6 ≤ at → Opening past at

  pub opening : {past : List Entry} {at : ℕ} → ReadTo set file past at → Opening past at
  opening start = none refl refl
  opening (on r step) = some (omega (arith, two-long set file _ _ _ _ step))

module _ (file other : List ℕ) (e : ℕ) (same : take e other ≡ take e file) (fits : e ≤ length file) where
  pub as_long : e ≤ length other
  as_long = omega (arith, ap length same, length-take e other, length-take e file)

  part_same : (from size : ℕ) → from + size ≤ e → part from size other ≡ part from size file
  part_same from size h = sym (part-in-front from size e other h) ∙ ap (part from size) same ∙ part-in-front from size e file h

  byte-same : (i : ℕ) → i < e → get_or other i 0 ≡ get_or file i 0
  byte-same i h = sym (get_or-take e other i 0 h) ∙ ap (λ (l : List ℕ). get_or l i 0) same ∙ get_or-take e file i 0 h

  length-same : (at : ℕ) → at + 4 ≤ e → length_at other at ≡ length_at file at
  length-same at h =
      let byte : (i : ℕ) → i < 4 → get_or (drop at other) i 0 ≡ get_or (drop at file) i 0 =
      λ i l. get_or-drop at other i 0 ∙ byte-same (at + i) (omega arith) ∙ sym (get_or-drop at file i 0) in
      rw (byte 0 (omega arith), byte 1 (omega arith), byte 2 (omega arith), byte 3 (omega arith))

  pub set_same : 6 ≤ e → set_of other ≡ set_of file
  unfolding set_of
  set_same h = rw (byte-same 4 (omega arith), byte-same 5 (omega arith))

  pub frame_same : (at from size : ℕ) → frame_at file at ≡ Whole from size → from + size ≤ e → frame_at other at ≡ Whole from size
  frame_same at from size w h =
      let begins = whole-start file at from size w in
      let long : length_at other at ≡ size = length-same at (omega arith) ∙ whole-size file at from size w in
      rw (begins, ← long) (whole other at (omega (arith, as_long)))

  module _ (set : CharacterSet) where
    same_here : (s : Standing) (at t size : ℕ) → step_of set file s at ≡ On t size → at + 4 + size ≤ e → SameAt file other at (width_of t)
    same_here s at t size step h = record { same = part_same (at + 4) (width_of t) (omega (arith, fixed-long set file s at t size step)) }

    pub past_same : {past : List Entry} {at : ℕ} → ReadTo set file past at → at ≤ e → SamePast file other past
    past_same start h = tt
    past_same (on r step) h = (same_here _ _ _ _ step h, past_same r (omega arith))

    -- where any record stands, the file header does
    header-same : {past : List Entry} {at : ℕ} → ReadTo set file past at → at ≤ e → (t : ℕ)
        → may_follow (standing set file past).inside (standing set file past).last (standing set file past).present t ≡ true
        → SameAt file other at (width_of t) → SameAt file other 0 80
    unfolding standing
    header-same start h t follows here = rw (first-type t follows) at here
    header-same (on r step) h t follows here =
        header-same r (omega arith) _ (may-come set file _ _ _ _ step) (same_here _ _ _ _ step h)

    module _ {past : List Entry} {at : ℕ} (r : ReadTo set file past at) (from size : ℕ) (w : frame_at file at ≡ Whole from size) (h : from + size ≤ e) where
      body : List ℕ
      body = part from size file

      turn-same : turn_of set other (standing set file past) at (part from size other) ≡ turn_of set file (standing set file past) at body
      unfolding body
      turn-same =
          let b = part_same from size h in
          let begins = whole-start file at from size w in
          turns-alike set set file other (standing set file past) at body (part from size other) (ap length b) (ap (type_of set) b)
          (ap (judged_as set (type_of set body)) b)
          (λ follows sound.
          let wide = sound-long set (type_of set body) body sound in
          let here : SameAt file other at (width_of (type_of set body)) =
          record { same = part_same (at + 4) (width_of (type_of set body)) (omega (arith, length-take size (drop from file))) } in
          agreement-same set file other past at (type_of set body) (past_same r (omega arith)) here
          (λ q. header-same r (omega arith) (type_of set body) follows here))

      pub step_same : step_of set other (standing set other past) at ≡ step_of set file (standing set file past) at
      unfolding step_of body
      step_same =
          let begins = whole-start file at from size w in
          rw (standing-same set file other past (past_same r (omega arith)), frame_same at from size w h, w)
          (ap (λ x. cond (eqb (standing set file past).last 99) (Stop After) (of_turn size x)) turn-same)

    read_same : {past : List Entry} {at : ℕ} → ReadTo set file past at → at ≤ e → ReadTo set other past at
    read_same start h = start
    read_same (on {past} {at} {t} {size} r step) h =
        let f = framed set file (standing set file past) at t size step in
        let begins = whole-start file at f.start size f.whole in
        on (read_same r (omega arith)) (step_same r f.start size f.whole (omega arith) ∙ step)

  -- each read in its own set
  pub read-other : {past : List Entry} {at : ℕ} → ReadTo (set_of file) file past at → at ≤ e → ReadTo (set_of other) other past at
  read-other {past} {at} r h = cases (opening (set_of file) file r)
    where
      cases : Opening (set_of file) file past at → ReadTo (set_of other) other past at
      cases (none p q) = rw (p, q) start
      cases (some l) = rw (set_same (omega arith)) (read_same (set_of file) r h)
