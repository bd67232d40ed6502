use Prim.Native.Nat.{◌-◌}
use lib.ListN.{length}
use Rattle.drafting.proofs.Rows.{Fill}
use Rattle.drafting.proofs.fill.Given as goal

abbrev pub invariant-loop-at : goal.invariant-loop-at
invariant-loop-at l = Fill l.set l.file l.initial.draft l.at l.base l.draft

abbrev pub decreases-loop-at : goal.decreases-loop-at
decreases-loop-at l = length l.file - l.at
