use mathlib.Core.Path.{◌≡◌}
use Prim.Native.Nat.{◌+◌, ◌-◌, ◌*◌}
use lib.ListN.{length}
use Rattle.book_model.specs.Table.{cleared}
use Rattle.book_gaps.proofs.clear_row.Given as goal

abbrev pub invariant-loop-k : goal.invariant-loop-k
invariant-loop-k l =
    (cleared l.owner l.number l.book (l.claimed - l.k) (17 + 9 * l.k) ≡ cleared l.owner l.number l.initial.book l.claimed 17) × (length l.book ≡ length l.initial.book)
