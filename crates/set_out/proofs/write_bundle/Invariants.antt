use Prim.Native.Nat.{◌-◌}
use lib.ListN.{length}
use Rattle.set_out.proofs.Rows.{Bundle}
use Rattle.set_out.proofs.write_bundle.Given as goal

abbrev pub invariant-loop-open : goal.invariant-loop-open
invariant-loop-open l = Bundle l.set l.text l.rows l.initial.sheet l.initial.out l.initial.standing l.sheet l.out l.standing l.bytes l.at l.«open»

abbrev pub decreases-loop-open : goal.decreases-loop-open
decreases-loop-open l = length l.rows - l.at
