use Prim.Native.Nat.{◌-◌}
use Rattle.salvage_runs.proofs.Groups.{Seeks}
use Rattle.salvage_runs.proofs.any_bundle.Given as goal

abbrev pub invariant-loop-at : goal.invariant-loop-at
invariant-loop-at l = Seeks l.set l.file l.heading l.from l.end l.at

abbrev pub decreases-loop-at : goal.decreases-loop-at
decreases-loop-at l = l.end - l.at
