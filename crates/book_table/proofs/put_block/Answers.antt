use native.Mathlib.Omega.{arith}
use lib.ListN.{length-set}
use Rattle.book_table.proofs.put_block.Goals as goal

pub net_of-position-requires : goal.net_of-position-requires
net_of-position-requires c = c.requires.1

pub put_figures-requires : goal.put_figures-requires
put_figures-requires c = simp length-set (omega (arith, c.requires.0))
