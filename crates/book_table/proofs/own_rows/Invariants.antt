use mathlib.Core.Path.{◌≡◌}
use Prim.Native.Nat.{◌+◌, ◌-◌, ◌*◌, ◌≤◌}
use lib.ListN.{length}
use Rattle.book_model.specs.Table.{entries_from}
use Rattle.book_table.proofs.own_rows.Given as goal

abbrev pub invariant-loop-k : goal.invariant-loop-k
invariant-loop-k l =
    (l.count + length (entries_from l.owner l.book (l.claimed - l.k) (17 + 9 * l.k)) ≡ length (entries_from l.owner l.book l.claimed 17)) × (l.count ≤ l.k)
