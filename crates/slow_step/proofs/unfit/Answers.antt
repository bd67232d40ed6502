use Rattle.slow_step.proofs.Laws.{misfits}
use Rattle.passes.specs.Reading.{step_of}
use Rattle.passes.specs.Answers.{Stop}
use borrow.Author.Tests.{eq-eqb, ne_eqb}
use mathlib.Core.Path.{sym, ap, ◌∙◌}
use Rattle.slow_step.proofs.unfit.Goals as goal

pub returns-then-s-eq99 : goal.returns-then-s-eq99
unfolding step_of
returns-then-s-eq99 c = rw (eq-eqb _ _ c.if-s-eq99.true)

pub returns-in-None : goal.returns-in-None
unfolding step_of
returns-in-None c = rw (ne_eqb _ _ c.if-s-eq99.false, sym c.frame_at.ensures ∙ c.in-None.is)

pub returns-in-Some : goal.returns-in-Some
returns-in-Some c = misfits c.args.set c.args.file.now c.args.s c.args.at _ _ (ne_eqb _ _ c.if-s-eq99.false) (sym c.frame_at.ensures ∙ c.in-Some.is) c.requires ∙ ap Stop (rw (sym c.part_of.ensures) (sym c.misfit.ensures))
