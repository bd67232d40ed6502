use borrow.Author.Tests.{eq-eqb, ne_eqb}
use Rattle.field.specs.RoutingForms.{parted_by}
use Rattle.field.proofs.Laws.{to_the_end}
use Rattle.field.proofs.is_blanked.Goals as goal

pub returns-then-s-ne9 : goal.returns-then-s-ne9
unfolding parted_by
returns-then-s-ne9 c = simp (ne_eqb _ _ c.if-s-ne9.true)

pub returns : goal.returns
unfolding parted_by
returns c = simp (eq-eqb _ _ c.if-s-ne9.false, to_the_end c.args.s.now 1 c.if-s-ne9.false, c.is_blank.ensures, c.all_numeric.ensures)
