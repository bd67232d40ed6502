use Prim.Native.Nat.{◌-◌}
use lib.ListN.{length}
use Rattle.salvage_walk.proofs.Walking.{Walking}
use Rattle.salvage_walk.proofs.walk.Given as goal

abbrev pub invariant-loop-at : goal.invariant-loop-at
invariant-loop-at l = Walking l.set l.file l.at l.count

abbrev pub decreases-loop-at : goal.decreases-loop-at
decreases-loop-at l = length l.file - l.at
