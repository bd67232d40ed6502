use Prim.Native.Nat.{◌-◌}
use Rattle.salvage_list.proofs.Marking.{Lists}
use Rattle.salvage_list.proofs.put_list.Given as goal

abbrev pub invariant-loop-plan : goal.invariant-loop-plan
invariant-loop-plan l = Lists l.torn.set l.torn.file.now l.torn.end l.initial.plan l.initial.list l.plan l.row l.list

abbrev pub decreases-loop-plan : goal.decreases-loop-plan
decreases-loop-plan l = l.torn.end - l.plan.at
