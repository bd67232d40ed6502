use native.Mathlib.Omega.{arith}
use native.Mathlib.Numerals.{add-one, add-two, add-three}
use lib.ListN.{length-set}
use Rattle.salvage_list.proofs.put_row.Goals as goal

pub bounds-list-row-2 : goal.bounds-list-row-2
bounds-list-row-2 c = simp length-set (omega arith)

pub bounds-list-row-3 : goal.bounds-list-row-3
bounds-list-row-3 c = simp length-set (omega arith)

pub bounds-list-row-4 : goal.bounds-list-row-4
bounds-list-row-4 c = simp length-set (omega arith)

pub returns : goal.returns
returns c = simp (add-one, add-two, add-three) (cc)
