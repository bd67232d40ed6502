use Prim.Native.Nat.{◌-◌}
use Rattle.salvage_runs.proofs.Little.{Reads}
use Rattle.salvage_runs.proofs.run_fault.Given as goal

abbrev pub invariant-loop-at : goal.invariant-loop-at
invariant-loop-at l = Reads l.set l.file l.heading l.from l.end l.s l.at

abbrev pub decreases-loop-at : goal.decreases-loop-at
decreases-loop-at l = l.end - l.at
