use Prim.Native.Nat.{◌+◌, ◌-◌, ◌*◌}
use Rattle.book_gaps.proofs.Closing.{Closing}
use Rattle.book_gaps.proofs.close_up.Given as goal

abbrev pub invariant-loop-k : goal.invariant-loop-k
invariant-loop-k l = Closing l.initial.book l.claimed l.book l.to (17 + 9 * l.k) (l.claimed - l.k)
