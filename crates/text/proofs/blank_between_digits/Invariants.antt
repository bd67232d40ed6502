use Prim.Native.Nat.{◌≤◌}
use mathlib.Core.Path.{◌≡◌}
use lib.ListN.{length, drop}
use Rattle.text.specs.DataTypes.{blank_embedded}
use Rattle.text.proofs.Laws.{embedded_from}
use Rattle.text.proofs.blank_between_digits.Given as goal

abbrev pub invariant-loop-x : goal.invariant-loop-x
invariant-loop-x l = (l.x-index ≤ length l.s) × (embedded_from l.set l.before l.gap (drop l.x-index l.s) ≡ blank_embedded l.set l.s)
