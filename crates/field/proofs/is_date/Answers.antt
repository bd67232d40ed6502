use borrow.Author.Tests.{eq-eqb, ne_eqb}
use Rattle.field.specs.Formats.{is_date}
use Rattle.field.proofs.is_date.Goals as goal

pub returns-then-s-ne8 : goal.returns-then-s-ne8
unfolding is_date
returns-then-s-ne8 c = simp (ne_eqb _ _ c.if-s-ne8.true)

pub returns : goal.returns
unfolding is_date
returns c = simp (eq-eqb _ _ c.if-s-ne8.false, c.all_numeric.ensures, c.number_in-year.ensures, c.number_in-month.ensures, c.number_in-day.ensures)
