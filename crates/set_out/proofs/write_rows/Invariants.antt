use Prim.Native.Nat.{◌-◌}
use lib.ListN.{length}
use Rattle.set_out.proofs.Rows.{Draft}
use Rattle.set_out.proofs.write_rows.Given as goal

abbrev pub invariant-loop-at : goal.invariant-loop-at
invariant-loop-at l = Draft l.set l.text l.draft l.initial.out l.out l.sheet l.s l.bytes l.at

abbrev pub decreases-loop-at : goal.decreases-loop-at
decreases-loop-at l = length l.draft - l.at
