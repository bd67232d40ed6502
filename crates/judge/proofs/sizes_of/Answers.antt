use mathlib.Core.Path.{refl}
use Prim.Native.Nat.{◌+◌}
use native.Mathlib.Omega.{arith}
use Rattle.judge.specs.Alone.{stated_sizes}
use Rattle.judge.proofs.Laws.{sizes-suc, sizes-within}
use borrow.Author.Rules.{rules}
use Rattle.judge.proofs.sizes_of.Goals as goal

pub loop-packed-init : goal.loop-packed-init
unfolding stated_sizes
loop-packed-init c = λ n. refl

pub overflow_add-sum : goal.overflow_add-sum
overflow_add-sum c = omega (arith, sizes-suc c.args.set c.args.parts.now c.args.body.now 1 c.loop-packed.packed-index (search rules), sizes-within c.args.set c.args.parts.now c.args.body.now 1 (c.loop-packed.packed-index + 1), c.loop-packed.invariant 1, c.stated_size-sum.ensures 1)

pub loop-packed-preserved : goal.loop-packed-preserved
loop-packed-preserved c = λ n. omega (arith, sizes-suc c.args.set c.args.parts.now c.args.body.now n c.loop-packed.packed-index (search rules), c.loop-packed.invariant n, c.stated_size-sum.ensures n)
