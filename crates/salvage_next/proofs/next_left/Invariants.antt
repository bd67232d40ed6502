use Prim.Native.Nat.{◌-◌}
use Rattle.salvage_next.proofs.Skipping.{Skips}
use Rattle.salvage_next.proofs.next_left.Given as goal

abbrev pub invariant-loop-plan : goal.invariant-loop-plan
invariant-loop-plan l = Skips l.torn.set l.torn.file.now l.torn.end l.initial.plan l.plan

abbrev pub decreases-loop-plan : goal.decreases-loop-plan
decreases-loop-plan l = l.torn.end - l.plan.at
