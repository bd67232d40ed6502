use mathlib.Core.Path.{◌≡◌}
use Prim.Native.Nat.{◌+◌}
use lib.ListN.{drop}
use Rattle.judge.specs.Alone.{first_wrong_part}
use Rattle.layout.specs.Packing.{sized_from}
use Rattle.judge.proofs.first_wrong_part.Given as goal

abbrev pub invariant-loop-i : goal.invariant-loop-i
invariant-loop-i l = first_wrong_part l.set (sized_from (l.before + 1 + l.i) (drop l.i l.parts)) l.body (drop l.at l.body) ≡ first_wrong_part l.set (sized_from (l.before + 1) l.parts) l.body (drop l.start l.body)
