use mathlib.Core.Path.{◌≡◌}
use Prim.Native.Nat.{◌+◌, ◌-◌, ◌*◌}
use Rattle.figures.specs.Figures.{same}
use Rattle.book_model.specs.PlainList.{totals_of}
use Rattle.book_model.specs.Table.{running_totals, entries_from}
use Rattle.book_table.proofs.are_sums.Given as goal

abbrev pub invariant-loop-k : goal.invariant-loop-k
invariant-loop-k l =
    same l.left (totals_of (entries_from l.owner l.book (l.claimed - l.k) (17 + 9 * l.k)))
    ≡ same (running_totals l.owner l.book) (totals_of (entries_from l.owner l.book l.claimed 17))
