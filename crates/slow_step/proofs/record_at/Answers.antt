use Rattle.slow_step.proofs.Laws.{moves, not-ended, step_is}
use Rattle.std.proofs.result.Match.{err_is}
use Rattle.passes.specs.Reading.{step_of}
use mathlib.Core.Path.{refl, sym, ◌∙◌}
use Rattle.slow_step.proofs.record_at.Goals as goal

pub returns-in_default : goal.returns-in_default
unfolding step_of
returns-in_default c = rw (not-ended c.requires, sym c.frame_at.ensures ∙ c.in_default.is)

pub examined-requires : goal.examined-requires
examined-requires c = (moves c.requires.reached).0

pub returns-in_err-found : goal.returns-in_err-found
returns-in_err-found c = rw (step_is c.requires (sym c.frame_at.ensures ∙ c.in-Some.is) refl, sym c.part_of-body.ensures, sym c.examined.ensures ∙ c.in_err-found.was) (err_is _ _ c.from_residual.ensures.1)

pub returns : goal.returns
returns c = rw (step_is c.requires (sym c.frame_at.ensures ∙ c.in-Some.is) refl, sym c.part_of-body.ensures, sym c.examined.ensures ∙ c.in_ok-found.was)
