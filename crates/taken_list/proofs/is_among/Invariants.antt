use mathlib.Core.Path.{◌≡◌}
use Prim.Native.Nat.{◌+◌, ◌-◌, ◌*◌}
use Rattle.book_model.specs.PlainList.{is_taken}
use Rattle.book_model.specs.Table.{taken_from}
use Rattle.taken_list.proofs.is_among.Given as goal

abbrev pub invariant-loop-place : goal.invariant-loop-place
invariant-loop-place l =
    is_taken l.number (taken_from l.owner l.list (l.claimed - l.place) (1 + 2 * l.place)) ≡ is_taken l.number (taken_from l.owner l.list l.claimed 1)
