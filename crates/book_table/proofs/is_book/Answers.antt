use mathlib.Core.Bool.{◌&&◌}
use native.Mathlib.Omega.{arith}
use borrow.Author.Tests.{lt-leb, le-leb}
use Rattle.book_model.specs.Table.{rows_claimed, rows_there, is_book}
use Rattle.book_table.proofs.is_book.Goals as goal

pub returns-then-rows_there-claimed : goal.returns-then-rows_there-claimed
unfolding is_book
returns-then-rows_there-claimed c = rw (lt-leb (rows_claimed c.args.book.now) (rows_there c.args.book.now) (omega (arith, c.rows_there.ensures, c.number_at-claimed.ensures)))

pub adds_up-requires : goal.adds_up-requires
adds_up-requires c = (c.number_at-claimed.ensures, omega (arith, c.if-rows_there-claimed.false, c.rows_there.ensures, c.number_at-claimed.ensures))

pub adds_up-requires-2 : goal.adds_up-requires-2
adds_up-requires-2 c = (c.number_at-claimed.ensures, omega (arith, c.if-rows_there-claimed.false, c.rows_there.ensures, c.number_at-claimed.ensures))

pub returns : goal.returns
unfolding is_book
returns c =
    rw (le-leb (rows_claimed c.args.book.now) (rows_there c.args.book.now) (omega (arith, c.rows_there.ensures, c.number_at-claimed.ensures)))
    (λ i. c.adds_up.ensures i && c.adds_up-2.ensures i)
