use borrow.Author.Tests.{eq-eqb, ne_eqb}
use Rattle.field.specs.RoutingForms.{is_TTTTAAAAC}
use Rattle.field.proofs.is_checked.Goals as goal

pub returns-then-s-ne9 : goal.returns-then-s-ne9
unfolding is_TTTTAAAAC
returns-then-s-ne9 c = simp (ne_eqb _ _ c.if-s-ne9.true)

pub returns : goal.returns
unfolding is_TTTTAAAAC
returns c = simp (eq-eqb _ _ c.if-s-ne9.false, c.all_numeric.ensures, c.weighted_sum.ensures)
