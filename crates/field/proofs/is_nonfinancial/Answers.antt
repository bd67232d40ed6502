use borrow.Author.Tests.{eq-eqb, ne_eqb}
use Rattle.field.specs.RoutingForms.{is_NNNNNNNNN}
use Rattle.field.proofs.is_nonfinancial.Goals as goal

pub returns-then-s-ne9 : goal.returns-then-s-ne9
unfolding is_NNNNNNNNN
returns-then-s-ne9 c = simp (ne_eqb _ _ c.if-s-ne9.true)

pub returns : goal.returns
unfolding is_NNNNNNNNN
returns c = simp (eq-eqb _ _ c.if-s-ne9.false, c.of_type.ensures, c.some_numeric.ensures)
