use mathlib.Core.Path.{sym, ◌∙◌, ap}
use Prim.Native.Nat.{◌+◌}
use native.Mathlib.Omega.{arith}
use lib.Dec.{eqb}
use lib.ListN.{get_or, drop}
use borrow.Author.Tests.{ne_eqb}
use Rattle.judge.specs.Alone.{stated_size, stated_sizes}
use Rattle.layout.specs.Packing.{sized_of, sized_from}
use Rattle.judge.proofs.Laws.{eqb-sub, sizes-more, sizes-none}
use borrow.Author.Rules.{rules}
use Rattle.judge.proofs.sizes_fill.Goals as goal

pub returns-then-rest-size : goal.returns-then-rest-size
returns-then-rest-size c = λ n. let e = (c.stated_size-size.ensures n) in sym (ne_eqb c.loop-packed.rest (stated_sizes c.args.set (sized_from n (drop c.loop-packed.packed-index c.args.parts.now)) c.args.body.now) (λ q. omega (arith, sizes-more c.args.set c.args.parts.now c.args.body.now n c.loop-packed.packed-index (search rules)))) ∙ c.loop-packed.invariant n

pub loop-packed-preserved : goal.loop-packed-preserved
loop-packed-preserved c = λ n. rw (c.stated_size-size.ensures n) (sym (eqb-sub c.loop-packed.rest (stated_size c.args.set (sized_of n (get_or c.args.parts.now c.loop-packed.packed-index 0)) c.args.body.now) (stated_sizes c.args.set (sized_from n (drop (c.loop-packed.packed-index + 1) c.args.parts.now)) c.args.body.now) (omega (arith, (c.stated_size-size.ensures n)))) ∙ ap (eqb c.loop-packed.rest) (sym (sizes-more c.args.set c.args.parts.now c.args.body.now n c.loop-packed.packed-index (search rules))) ∙ c.loop-packed.invariant n)

pub returns : goal.returns
returns c = λ n. sym (ap (eqb c.loop-packed.rest) (sizes-none c.args.set c.args.parts.now c.args.body.now n c.loop-packed.packed-index (search rules))) ∙ c.loop-packed.invariant n
