use native.Mathlib.Omega.{arith}
use borrow.Author.Tests.{eq-eqb, ne_eqb}
use Rattle.book_model.specs.Table.{block_of}
use Rattle.book_table.proofs.block_of.Goals as goal

pub returns-then-owner-eq2 : goal.returns-then-owner-eq2
unfolding block_of
returns-then-owner-eq2 c = record { place = rw (eq-eqb c.args.owner 2 c.if-owner-eq2.true); within = (omega arith, omega arith) }

pub returns : goal.returns
unfolding block_of
returns c = record { place = rw (ne_eqb c.args.owner 2 c.if-owner-eq2.false); within = (omega arith, omega arith) }
