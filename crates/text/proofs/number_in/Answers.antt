use mathlib.Core.Path.{ap, ◌∙◌}
use mathlib.Core.List.{List}
use Prim.Native.Nat.{ℕ}
use native.Mathlib.Omega.{arith}
use lib.ListN.{length-take}
use Rattle.text.specs.Number.{number, value_after}
use Rattle.text.proofs.number_in.Goals as goal

pub value_of-requires : goal.value_of-requires
value_of-requires c = rw c.leading.ensures (omega (arith, length-take 19 c.args.s.now))

pub returns : goal.returns
unfolding number
returns c = c.value_of.ensures ∙ ap (λ (xs : List ℕ). value_after c.args.set 0 xs) c.leading.ensures
