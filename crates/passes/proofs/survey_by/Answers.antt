use mathlib.Core.Path.{sym, ◌∙◌}
use native.Mathlib.Omega.{arith}
use borrow.Author.Tests.{lt-leb, le-leb}
use Rattle.passes.specs.Reading.{surveyed}
use Rattle.passes.proofs.Passes.{survey-first, survey-on, survey-stop, survey-end, counted-end, place-roomy, place-moves, on-within}
use Rattle.passes.proofs.survey_by.Goals as goal

pub returns-then-file-lt1 : goal.returns-then-file-lt1
unfolding surveyed
returns-then-file-lt1 c = (simp (lt-leb _ _ c.if-file-lt1.true) c.of_file.ensures, tt)

pub returns-then-file-gt268435456 : goal.returns-then-file-gt268435456
unfolding surveyed
returns-then-file-gt268435456 c = (simp (le-leb _ _ c.if-file-lt1.false, lt-leb _ _ c.if-file-gt268435456.true) c.of_file-then-file-gt268435456.ensures, tt)

pub loop-at-init : goal.loop-at-init
loop-at-init c = survey-first c.set_of-set.result c.args.file.now c.start-s.result c.set_of-set.ensures c.if-file-gt268435456.false (c.start-s.ensures c.set_of-set.result c.args.file.now)

pub record_at-requires : goal.record_at-requires
record_at-requires c = place-roomy c.set_of-set.result c.args.file.now c.loop-at.at c.loop-at.s c.loop-at.invariant.place

pub overflow_add-result : goal.overflow_add-result
overflow_add-result c = let g = place-roomy c.set_of-set.result c.args.file.now c.loop-at.at c.loop-at.s c.loop-at.invariant.place in omega (arith, g.records)

pub returns-in-Err : goal.returns-in-Err
unfolding surveyed
returns-in-Err c = (sym (simp (le-leb _ _ c.if-file-lt1.false, le-leb _ _ c.if-file-gt268435456.false, sym c.set_of-set.ensures) (survey-stop c.set_of-set.result c.args.file.now c.loop-at.at c.loop-at.s c.loop-at.invariant c.loop-at-test.true _ (sym c.record_at.ensures ∙ c.in-Err.is))), tt)

pub moved-s-requires : goal.moved-s-requires
moved-s-requires c = place-moves c.set_of-set.result c.args.file.now c.loop-at.at c.loop-at.s c.loop-at.invariant.place

pub overflow_add-at : goal.overflow_add-at
overflow_add-at c = let w = on-within c.set_of-set.result c.args.file.now c.loop-at.s c.loop-at.at _ _ (sym c.record_at.ensures ∙ c.in-Ok.is) in omega (arith, w, c.loop-at.invariant.place.limit)

pub overflow_add-at-in-Ok : goal.overflow_add-at-in-Ok
overflow_add-at-in-Ok c = let w = on-within c.set_of-set.result c.args.file.now c.loop-at.s c.loop-at.at _ _ (sym c.record_at.ensures ∙ c.in-Ok.is) in omega (arith, w, c.loop-at.invariant.place.limit)

pub loop-at-smaller : goal.loop-at-smaller
loop-at-smaller c = let w = on-within c.set_of-set.result c.args.file.now c.loop-at.s c.loop-at.at _ _ (sym c.record_at.ensures ∙ c.in-Ok.is) in omega (arith, w)

pub loop-at-preserved : goal.loop-at-preserved
loop-at-preserved c = survey-on c.set_of-set.result c.args.file.now c.loop-at.at c.loop-at.s c.loop-at.invariant c.loop-at-test.true _ _ c.moved-s.result (sym c.record_at.ensures ∙ c.in-Ok.is) c.moved-s.ensures

pub ended_at-requires : goal.ended_at-requires
ended_at-requires c = place-moves c.set_of-set.result c.args.file.now c.loop-at.at c.loop-at.s c.loop-at.invariant.place

pub returns : goal.returns
unfolding surveyed
returns c = (c.ended_at.ensures ∙ sym (simp (le-leb _ _ c.if-file-lt1.false, le-leb _ _ c.if-file-gt268435456.false, sym c.set_of-set.ensures) (survey-end c.set_of-set.result c.args.file.now c.loop-at.at c.loop-at.s c.loop-at.invariant c.loop-at-test.false)), rw c.ended_at.ensures (counted-end c.set_of-set.result c.args.file.now c.loop-at.at c.loop-at.s c.loop-at.invariant c.loop-at-test.false))
