use native.Mathlib.Omega.{arith}
use Rattle.figures.proofs.Laws.{covered}
use Rattle.figures.proofs.Figures.without.Goals as goal

pub overflow_sub-bundles : goal.overflow_sub-bundles
overflow_sub-bundles c = omega (arith, covered c.args.self c.args.less c.requires)

pub overflow_sub-debits : goal.overflow_sub-debits
overflow_sub-debits c = omega (arith, covered c.args.self c.args.less c.requires)

pub overflow_sub-debit : goal.overflow_sub-debit
overflow_sub-debit c = omega (arith, covered c.args.self c.args.less c.requires)

pub overflow_sub-credits : goal.overflow_sub-credits
overflow_sub-credits c = omega (arith, covered c.args.self c.args.less c.requires)

pub overflow_sub-credit : goal.overflow_sub-credit
overflow_sub-credit c = omega (arith, covered c.args.self c.args.less c.requires)

pub overflow_sub-views : goal.overflow_sub-views
overflow_sub-views c = omega (arith, covered c.args.self c.args.less c.requires)
