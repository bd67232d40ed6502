use mathlib.Core.Path.{◌∙◌}
use native.Mathlib.Omega.{arith}
use native.Mathlib.Numerals.{add-one, add-two, add-three}
use lib.ListN.{length-set}
use Rattle.book_table.proofs.put_row.Goals as goal

pub bounds-book-at-2 : goal.bounds-book-at-2
bounds-book-at-2 c = simp length-set (omega arith)

pub bounds-book-at-3 : goal.bounds-book-at-3
bounds-book-at-3 c = simp length-set (omega arith)

pub put_figures-requires : goal.put_figures-requires
put_figures-requires c = simp length-set (omega arith)

pub returns : goal.returns
returns c = c.put_figures.ensures ∙ simp (add-one, add-two, add-three)
