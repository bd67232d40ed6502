use Prim.Native.Nat.{◌-◌}
use lib.ListN.{length}
use Rattle.passes.proofs.Passes.{Fill}
use Rattle.slow_reader.proofs.write_rows.Given as goal

abbrev pub invariant-loop-start : goal.invariant-loop-start
invariant-loop-start l = Fill l.set l.file l.initial.table l.at l.s l.base l.table

abbrev pub decreases-loop-start : goal.decreases-loop-start
decreases-loop-start l = length l.file - l.at
