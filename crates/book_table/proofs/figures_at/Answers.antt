use mathlib.Core.Path.{sym}
use Rattle.figures.specs.Figures.{figures_at}
use Rattle.book_table.proofs.figures_at.Goals as goal

pub returns : goal.returns
unfolding figures_at
returns c = rw (sym c.number_at-bundles.ensures, sym c.number_at.ensures, sym c.number_at-2.ensures, sym c.number_at-3.ensures, sym c.number_at-4.ensures, sym c.number_at-5.ensures)
