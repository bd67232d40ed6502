use native.Mathlib.Omega.{arith}
use Rattle.figures.specs.Figures.{plus}
use Rattle.figures.proofs.Laws.{fitting}
use Rattle.figures.proofs.Figures.with.Goals as goal

pub overflow_add-bundles : goal.overflow_add-bundles
overflow_add-bundles c = omega (arith, fitting (plus c.args.self c.args.more) c.requires)

pub overflow_add-debits : goal.overflow_add-debits
overflow_add-debits c = omega (arith, fitting (plus c.args.self c.args.more) c.requires)

pub overflow_add-debit : goal.overflow_add-debit
overflow_add-debit c = omega (arith, fitting (plus c.args.self c.args.more) c.requires)

pub overflow_add-credits : goal.overflow_add-credits
overflow_add-credits c = omega (arith, fitting (plus c.args.self c.args.more) c.requires)

pub overflow_add-credit : goal.overflow_add-credit
overflow_add-credit c = omega (arith, fitting (plus c.args.self c.args.more) c.requires)

pub overflow_add-views : goal.overflow_add-views
overflow_add-views c = omega (arith, fitting (plus c.args.self c.args.more) c.requires)
