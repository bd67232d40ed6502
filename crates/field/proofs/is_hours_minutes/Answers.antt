use borrow.Author.Tests.{eq-eqb, ne_eqb}
use Rattle.field.specs.Formats.{is_hours_minutes}
use Rattle.field.proofs.is_hours_minutes.Goals as goal

pub returns-then-s-ne4 : goal.returns-then-s-ne4
unfolding is_hours_minutes
returns-then-s-ne4 c = simp (ne_eqb _ _ c.if-s-ne4.true)

pub returns : goal.returns
unfolding is_hours_minutes
returns c = simp (eq-eqb _ _ c.if-s-ne4.false, c.all_numeric.ensures, c.number_in-hours.ensures, c.number_in-minutes.ensures)
