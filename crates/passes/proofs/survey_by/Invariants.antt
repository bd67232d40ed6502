use Prim.Native.Nat.{◌-◌}
use lib.ListN.{length}
use Rattle.passes.proofs.Passes.{Survey}
use Rattle.passes.proofs.survey_by.Given as goal

abbrev pub invariant-loop-at : goal.invariant-loop-at
invariant-loop-at l = Survey l.set l.file l.at l.s

abbrev pub decreases-loop-at : goal.decreases-loop-at
decreases-loop-at l = length l.file - l.at
