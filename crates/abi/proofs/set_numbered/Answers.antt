use borrow.Author.Tests.{eq-eqb, ne_eqb}
use Rattle.abi.proofs.set_numbered.Goals as goal

pub returns-then-n-eq1 : goal.returns-then-n-eq1
returns-then-n-eq1 c = rw (eq-eqb c.args.n 1 c.if-n-eq1.true)

pub returns : goal.returns
returns c = rw (ne_eqb c.args.n 1 c.if-n-eq1.false)
