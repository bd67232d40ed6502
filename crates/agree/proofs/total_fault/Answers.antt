use Rattle.std.proofs.Common.{arith}
use Rattle.std.proofs.lemmas.Grind.{common_steps}
use Rattle.agree.specs.Totals.{total_fault}
use Rattle.agree.proofs.total_fault.Goals as goal

pub returns-in-70 : goal.returns-in-70
unfolding total_fault
returns-in-70 c = rw (c.in-70.is, c.bundle_fault.ensures)

pub returns-in-90 : goal.returns-in-90
unfolding total_fault
returns-in-90 c = rw (c.in-90.is, c.letter_fault.ensures)

pub returns-in-99 : goal.returns-in-99
unfolding total_fault
returns-in-99 c = rw (c.in-99.is, c.file_fault.ensures)

pub returns-in_default : goal.returns-in_default
unfolding total_fault
returns-in_default c = grind (arith, common_steps)
