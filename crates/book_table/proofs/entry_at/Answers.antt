use mathlib.Core.Path.{sym}
use Rattle.book_model.specs.Table.{entry_at}
use Rattle.book_table.proofs.entry_at.Goals as goal

pub returns : goal.returns
unfolding entry_at
returns c = rw (sym c.figures_at-figures.ensures)
