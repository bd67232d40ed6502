use mathlib.Core.Path.{◌≡◌}
use Prim.Native.Nat.{◌+◌, ◌-◌, ◌*◌, ◌≤◌}
use Rattle.book_gaps.proofs.Laws.{used_in}
use Rattle.book_gaps.proofs.rows_used.Given as goal

abbrev pub invariant-loop-k : goal.invariant-loop-k
invariant-loop-k l = (l.count + used_in l.book (l.claimed - l.k) (17 + 9 * l.k) ≡ used_in l.book l.claimed 17) × (l.count ≤ l.k)
