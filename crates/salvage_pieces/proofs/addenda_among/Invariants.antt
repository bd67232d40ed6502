use Prim.Native.Nat.{◌-◌}
use Rattle.salvage_pieces.proofs.Counting.{Counts}
use Rattle.salvage_pieces.proofs.addenda_among.Given as goal

abbrev pub invariant-loop-at : goal.invariant-loop-at
invariant-loop-at l = Counts l.set l.file l.from l.end l.item l.at l.count

abbrev pub decreases-loop-at : goal.decreases-loop-at
decreases-loop-at l = l.end - l.at
