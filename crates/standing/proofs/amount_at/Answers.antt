use Rattle.std.proofs.Common.{arith}
use Rattle.standing.proofs.Laws.{few-digits}
use Rattle.standing.proofs.amount_at.Goals as goal

pub returns-in-25 : goal.returns-in-25
returns-in-25 c = (rw c.in-25.is c.number_at.ensures, rw c.number_at.ensures (few-digits c.args.set c.args.file.now c.args.offset 48 10 14 (omega arith)))

pub returns-in-31 : goal.returns-in-31
returns-in-31 c = (rw c.in-31.is c.number_at-in-31.ensures, rw c.number_at-in-31.ensures (few-digits c.args.set c.args.file.now c.args.offset 48 10 14 (omega arith)))

pub returns-in-61 : goal.returns-in-61
returns-in-61 c = (rw c.in-61.is c.number_at-in-61.ensures, rw c.number_at-in-61.ensures (few-digits c.args.set c.args.file.now c.args.offset 49 14 14 (omega arith)))
