use borrow.Author.Tests.{eq-eqb, ne_eqb}
use Rattle.field.specs.Formats.{is_hours_minutes_seconds}
use Rattle.field.proofs.is_hours_minutes_seconds.Goals as goal

pub returns-then-s-ne6 : goal.returns-then-s-ne6
unfolding is_hours_minutes_seconds
returns-then-s-ne6 c = simp (ne_eqb _ _ c.if-s-ne6.true)

pub returns : goal.returns
unfolding is_hours_minutes_seconds
returns c = simp (eq-eqb _ _ c.if-s-ne6.false, c.is_hours_minutes.ensures, c.all_numeric.ensures, c.number_in.ensures)
