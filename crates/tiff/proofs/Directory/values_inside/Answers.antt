use mathlib.Core.Path.{◌≡◌, sym, ◌∙◌}
use Prim.Native.Nat.{◌+◌, ◌-◌}
use native.Mathlib.Omega.{arith}
use Rattle.tiff.proofs.Laws.{values-on}
use Rattle.tiff.proofs.Directory.values_inside.Goals as goal

pub loop-preserved : goal.loop-preserved
loop-preserved c =
    let d = c.args.self in
    let fewer : d.count - (c.loop.counter + 1) ≡ d.count - c.loop.counter - 1 = omega arith in
    (omega arith, rw fewer (values-on d.image.now c.loop.at (d.count - c.loop.counter) (omega arith) c.entry_here-e.result c.entry_here-e.ensures (sym c.value_inside.ensures ∙ c.if-not-value_inside.false) ∙ c.loop.invariant.1))
