use Prim.Native.Nat.{◌≤◌, ◌^◌, ◌<◌}
use mathlib.Core.Path.{◌≡◌}
use lib.ListN.{length, drop}
use Rattle.text.specs.Number.{value_after}
use Rattle.text.proofs.value_of.Given as goal

abbrev pub invariant-loop-x : goal.invariant-loop-x
invariant-loop-x l = (l.x-index ≤ length l.s) × (value_after l.set l.value (drop l.x-index l.s) ≡ value_after l.set 0 l.s) × (l.value < 10 ^ l.x-index)
