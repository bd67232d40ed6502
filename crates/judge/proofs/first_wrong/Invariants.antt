use mathlib.Core.Path.{◌≡◌}
use Prim.Native.Nat.{◌+◌}
use lib.ListN.{drop}
use Rattle.judge.specs.Alone.{first_wrong}
use Rattle.layout.specs.Packing.{lines_from}
use Rattle.judge.proofs.first_wrong.Given as goal

abbrev pub invariant-loop-i : goal.invariant-loop-i
invariant-loop-i l = first_wrong l.set (lines_from (l.i + 1) (drop l.i l.lines)) l.body ≡ first_wrong l.set (lines_from 1 l.lines) l.body
