use mathlib.Core.Path.{◌≡◌, ◌∙◌}
use Prim.Native.Nat.{◌+◌, ◌-◌}
use native.Mathlib.Omega.{arith}
use Rattle.tiff.proofs.Laws.{first_on}
use Rattle.tiff.proofs.Directory.first_with.Goals as goal

pub loop-preserved : goal.loop-preserved
loop-preserved c =
    let d = c.args.self in
    let fewer : d.count - (c.loop.counter + 1) ≡ d.count - c.loop.counter - 1 = omega arith in
    (omega arith, rw fewer (first_on d.image.now c.loop.at (d.count - c.loop.counter) (omega arith) c.entry_here-e.result c.entry_here-e.ensures c.args.tag c.if-e-tag.false ∙ c.loop.invariant.1))
