use mathlib.Core.Path.{sym, ◌∙◌, ap}
use borrow.Author.Tests.{eq-eqb, ne_eqb}
use Rattle.frame.specs.Frames.{frame_at}
use Rattle.std.proofs.result.Match.{err_is}
use Rattle.passes.specs.Reading.{step_of}
use Rattle.passes.proofs.record_at.Goals as goal

pub returns-then-s-eq99 : goal.returns-then-s-eq99
unfolding step_of
returns-then-s-eq99 c = rw (eq-eqb _ _ c.if-s-eq99.true)

pub returns-in_default : goal.returns-in_default
unfolding step_of
returns-in_default c = rw (ne_eqb _ _ c.if-s-eq99.false, ap (frame_at c.args.file.now) (sym c.at.ensures) ∙ sym c.frame.ensures ∙ c.in_default.is)

pub returns-in_err-kind : goal.returns-in_err-kind
unfolding step_of
returns-in_err-kind c = rw (ne_eqb _ _ c.if-s-eq99.false, ap (frame_at c.args.file.now) (sym c.at.ensures) ∙ sym c.frame.ensures ∙ c.in-Some.is, sym c.part_of-body.ensures, sym c.judge_next.ensures ∙ c.in_err-kind.was) (err_is _ _ c.from_residual.ensures.1)

pub returns : goal.returns
unfolding step_of
returns c = rw (ne_eqb _ _ c.if-s-eq99.false, ap (frame_at c.args.file.now) (sym c.at.ensures) ∙ sym c.frame.ensures ∙ c.in-Some.is, sym c.part_of-body.ensures, sym c.judge_next.ensures ∙ c.in_ok-kind.was)
