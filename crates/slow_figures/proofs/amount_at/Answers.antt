use native.Mathlib.Omega.{arith}
use Rattle.standing.proofs.Laws.{few-digits}
use borrow.Author.Rules.{rules}
use Rattle.slow_figures.proofs.amount_at.Goals as goal

pub returns-in-25 : goal.returns-in-25
returns-in-25 c = (search rules, rw c.number_at.ensures (few-digits c.args.set c.args.file.now c.args.offset 48 10 14 (omega arith)))

pub returns-in-61 : goal.returns-in-61
returns-in-61 c = (search rules, rw c.number_at-in-61.ensures (few-digits c.args.set c.args.file.now c.args.offset 49 14 14 (omega arith)))
