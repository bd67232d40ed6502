use mathlib.Core.Path.{◌≡◌}
use Prim.Native.Nat.{ℕ}
use lib.ListN.{take}
use Rattle.judge.specs.Alone.{stated_sizes}
use Rattle.layout.specs.Packing.{sized_from}
use Rattle.judge.proofs.sizes_of.Given as goal

abbrev pub invariant-loop-packed : goal.invariant-loop-packed
invariant-loop-packed l = (n : ℕ) → l.sum ≡ stated_sizes l.set (sized_from n (take l.packed-index l.parts)) l.body
