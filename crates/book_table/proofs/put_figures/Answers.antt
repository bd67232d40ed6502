use native.Mathlib.Omega.{arith}
use native.Mathlib.Numerals.{add-one, add-two, add-three, add-four, add_five}
use lib.ListN.{length-set}
use Rattle.book_table.proofs.put_figures.Goals as goal

pub bounds-book-at-2 : goal.bounds-book-at-2
bounds-book-at-2 c = simp length-set (omega arith)

pub bounds-book-at-3 : goal.bounds-book-at-3
bounds-book-at-3 c = simp length-set (omega arith)

pub bounds-book-at-4 : goal.bounds-book-at-4
bounds-book-at-4 c = simp length-set (omega arith)

pub bounds-book-at-5 : goal.bounds-book-at-5
bounds-book-at-5 c = simp length-set (omega arith)

pub bounds-book-at-6 : goal.bounds-book-at-6
bounds-book-at-6 c = simp length-set (omega arith)

pub shape_of-book : goal.shape_of-book
shape_of-book c = simp length-set

pub returns : goal.returns
returns c = simp (add-one, add-two, add-three, add-four, add_five)
