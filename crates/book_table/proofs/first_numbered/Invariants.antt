use mathlib.Core.Path.{◌≡◌}
use Prim.Native.Nat.{◌+◌, ◌-◌, ◌*◌}
use Rattle.book_model.specs.PlainList.{finding}
use Rattle.book_model.specs.Table.{entries_from}
use Rattle.book_table.proofs.first_numbered.Given as goal

abbrev pub invariant-loop-k : goal.invariant-loop-k
invariant-loop-k l =
    finding (entries_from l.owner l.book (l.claimed - l.k) (17 + 9 * l.k)) l.number ≡ finding (entries_from l.owner l.book l.claimed 17) l.number
