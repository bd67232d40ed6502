use lib.ListN.{get_or}
use borrow.Author.Tests.{eq-eqb, ne_eqb}
use Rattle.book_table.proofs.own_figures_at.Goals as goal

pub returns-then-whose-owner : goal.returns-then-whose-owner
returns-then-whose-owner c = rw (eq-eqb (get_or c.args.book.now c.args.at 0) c.args.owner c.if-whose-owner.true) c.figures_at.ensures

pub returns : goal.returns
returns c = rw (ne_eqb (get_or c.args.book.now c.args.at 0) c.args.owner c.if-whose-owner.false) c.none.ensures
