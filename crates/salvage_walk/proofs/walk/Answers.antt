use Rattle.salvage_walk.proofs.Walking.{framed-onward}
use mathlib.Core.Path.{sym, ◌∙◌, ap}
use native.Mathlib.Omega.{arith}
use Rattle.judge.specs.Alone.{type_of}
use Rattle.frame.specs.Frames.{frame_at}
use Rattle.salvage_walk.proofs.Walking.{walking-first, walking-cut, walking-short, walking-end, walking-within, walking-99, walking_on}
use Rattle.salvage_walk.proofs.walk.Goals as goal

pub loop-at-init : goal.loop-at-init
loop-at-init c = walking-first c.args.set c.args.file.now

pub returns-in_default : goal.returns-in_default
returns-in_default c = walking-cut _ _ c.loop-at.invariant (ap (frame_at c.args.file.now) (sym c.at.ensures) ∙ sym c.frame.ensures ∙ c.in_default.is)

pub returns-then-size-lt2 : goal.returns-then-size-lt2
returns-then-size-lt2 c = walking-short _ _ c.loop-at.invariant _ _ (ap (frame_at c.args.file.now) (sym c.at.ensures) ∙ sym c.frame.ensures ∙ c.in-Some.is) c.if-size-lt2.true

pub returns-then-kind-eq99 : goal.returns-then-kind-eq99
returns-then-kind-eq99 c = walking-99 _ _ c.loop-at.invariant _ _ c.loop-at-test.true (ap (frame_at c.args.file.now) (sym c.at.ensures) ∙ sym c.frame.ensures ∙ c.in-Some.is) c.if-size-lt2.false (sym (c.type_of-kind.ensures ∙ ap (type_of c.args.set) c.part_of.ensures) ∙ c.if-kind-eq99.true)

pub loop-at-smaller : goal.loop-at-smaller
loop-at-smaller c = omega (arith, c.loop-at-test.true, framed-onward c.args.file.now c.loop-at.at _ _ (ap (frame_at c.args.file.now) (sym c.at.ensures) ∙ sym c.frame.ensures ∙ c.in-Some.is))

pub loop-at-preserved : goal.loop-at-preserved
loop-at-preserved c = walking_on _ _ c.loop-at.invariant _ _ c.loop-at-test.true (ap (frame_at c.args.file.now) (sym c.at.ensures) ∙ sym c.frame.ensures ∙ c.in-Some.is) c.if-size-lt2.false (λ q. c.if-kind-eq99.false ((c.type_of-kind.ensures ∙ ap (type_of c.args.set) c.part_of.ensures) ∙ q))

pub returns : goal.returns
returns c = walking-end _ _ c.loop-at.invariant c.loop-at-test.false

pub overflow_add-count : goal.overflow_add-count
overflow_add-count c = omega (arith, c.loop-at.invariant.few, c.loop-at.invariant.within)

pub overflow_add-at : goal.overflow_add-at
overflow_add-at c = omega (arith, walking-within _ _ c.loop-at.invariant _ _ c.loop-at-test.true (ap (frame_at c.args.file.now) (sym c.at.ensures) ∙ sym c.frame.ensures ∙ c.in-Some.is) c.if-size-lt2.false)
