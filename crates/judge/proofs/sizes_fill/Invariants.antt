use mathlib.Core.Path.{◌≡◌}
use Prim.Native.Nat.{ℕ}
use lib.Dec.{eqb}
use lib.ListN.{drop}
use Rattle.judge.specs.Alone.{stated_sizes}
use Rattle.layout.specs.Packing.{sized_from}
use Rattle.judge.proofs.sizes_fill.Given as goal

abbrev pub invariant-loop-packed : goal.invariant-loop-packed
invariant-loop-packed l = (n : ℕ) → eqb l.rest (stated_sizes l.set (sized_from n (drop l.packed-index l.parts)) l.body) ≡ eqb l.left (stated_sizes l.set (sized_from n l.parts) l.body)
