use mathlib.Core.Path.{◌≡◌}
use Prim.Native.Nat.{◌+◌, ◌-◌, ◌*◌}
use Rattle.book_gaps.specs.Spots.{spot_from}
use Rattle.book_gaps.proofs.free_row.Given as goal

abbrev pub invariant-loop-k : goal.invariant-loop-k
invariant-loop-k l = spot_from l.book (l.claimed - l.k) (l.place + 9 * l.k) ≡ spot_from l.book l.claimed l.place
