use Rattle.std.proofs.Common.{arith}
use Rattle.std.proofs.lemmas.Grind.{common_steps}
use Rattle.agree.specs.Links.{numbered_on}
use Rattle.agree.proofs.numbered_on.Goals as goal

pub returns-in-26 : goal.returns-in-26
unfolding numbered_on
returns-in-26 c = rw (c.in-26.is, c.number_at.ensures)

pub returns-in-32 : goal.returns-in-32
unfolding numbered_on
returns-in-32 c = rw (c.in-32.is, c.number_at-in-32.ensures)

pub returns-in-28 : goal.returns-in-28
unfolding numbered_on
returns-in-28 c = rw (c.in-28.is, c.number_at-in-28.ensures)

pub returns-in-35 : goal.returns-in-35
unfolding numbered_on
returns-in-35 c = rw (c.in-35.is, c.number_at-in-35.ensures)

pub returns-in_default : goal.returns-in_default
unfolding numbered_on
returns-in_default c = grind (arith, common_steps)
