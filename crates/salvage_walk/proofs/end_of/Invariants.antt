use Prim.Native.Nat.{◌-◌}
use Rattle.salvage_walk.specs.Spans.{of_sort}
use Rattle.salvage_walk.proofs.Sorts.{Passes}
use Rattle.salvage_walk.proofs.end_of.Given as goal

abbrev pub invariant-loop-at : goal.invariant-loop-at
invariant-loop-at l = Passes l.set l.file (of_sort l.sort) l.from l.end l.at

abbrev pub decreases-loop-at : goal.decreases-loop-at
decreases-loop-at l = l.end - l.at
