-- The reader goes by figures whose sums of cents stop at what no control field can state. Its steps, its end and its rows are those of the whole
-- sums. Assumes nothing.
use Prim.Native.Nat.{ℕ}
use mathlib.Core.List.{List}
use mathlib.Core.Path.{◌≡◌, refl, ap}
use Rattle.std.specs.Prelude.{Some}
use Rattle.text.specs.declared.character_set.CharacterSet.{CharacterSet}
use Rattle.frame.specs.Frames.{Frame}
use Rattle.frame.specs.Frames.{Cut}
use Rattle.frame.specs.Frames.{part, frame_at}
use Rattle.judge.specs.Alone.{type_of}
use Rattle.measure.proofs.Capped.{capped-twice}
use Rattle.standing.specs.Standing.{capped_figures}
use Rattle.standing.specs.declared.Standing.{Standing}
use Rattle.agree.proofs.Capped.{link-capped, total-capped}
use Rattle.passes.specs.CheckOrder.{agreement, turn_of}
use Rattle.passes.specs.Rows.{row_of}
use Rattle.passes.specs.Reading.{of_turn, of_frame, step_of, ended_with}

module _ (set : CharacterSet) (s : Standing) where
  pub ended-capped : (at : ℕ) → ended_with (capped_figures s) at ≡ ended_with s at
  unfolding ended_with
  ended-capped at = rw (capped-twice s.whole.debit.0, capped-twice s.whole.credit.0)

  module _ (file : List ℕ) where
    pub row-capped : (t offset size : ℕ) → row_of set file (capped_figures s) t offset size ≡ row_of set file s t offset size
    row-capped t offset size =
        rw (capped-twice s.bundle.debit.0, capped-twice s.letter.debit.0, capped-twice s.whole.debit.0)

    pub agreement-capped : (at t : ℕ) → agreement set file (capped_figures s) at t ≡ agreement set file s at t
    unfolding agreement
    agreement-capped at t = rw (link-capped set file s t at, total-capped set file s t at)

    turn-capped : (at : ℕ) (body : List ℕ) → turn_of set file (capped_figures s) at body ≡ turn_of set file s at body
    unfolding turn_of
    turn-capped at body = rw (agreement-capped at (type_of set body))

    frame-capped : (at : ℕ) (f : Frame) → of_frame set file (capped_figures s) at f ≡ of_frame set file s at f
    frame-capped at Cut = refl
    frame-capped at (Some x) = ap (of_turn x.size) (turn-capped at (part x.start x.size file))

    pub step-capped : (at : ℕ) → step_of set file (capped_figures s) at ≡ step_of set file s at
    unfolding step_of
    step-capped at = rw (frame-capped at (frame_at file at))
