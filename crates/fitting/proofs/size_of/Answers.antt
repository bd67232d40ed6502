use mathlib.Core.Path.{◌≡◌, ap}
use native.Mathlib.Omega.{arith}
use lib.ListN.{length, take, drop}
use Prim.Native.Nat.{ℕ, ◌+◌, ◌-◌}
use Rattle.draft_rows.proofs.Parts.{few-own}
use Rattle.fitting.proofs.Laws.{sizes_first, sizes_on, sizes_none}
use Rattle.fitting.proofs.size_of.Goals as goal

pub slice_bounds-part-items-end : goal.slice_bounds-part-items-end
slice_bounds-part-items-end c = omega (arith, c.args.row.whole, few-own c.args.row.rows.now c.parts.result.now _ c.parts.ensures)

pub loop-part-init : goal.loop-part-init
loop-part-init c =
    let n : 3 + length c.parts.result.now - 3 ≡ length c.parts.result.now = omega arith in
    sizes_first c.args.row.rows.now c.parts.result.now _ c.parts.ensures c.fixed_length-size.ensures (omega arith) c.args.row.whole (ap (λ (k : ℕ). take k (drop 3 c.args.row.rows.now)) n)

pub loop-part-preserved : goal.loop-part-preserved
loop-part-preserved c = sizes_on c.loop-part.invariant c.loop-part-test.true c.saturating_add-size.ensures

pub returns : goal.returns
returns c = sizes_none c.loop-part.invariant c.loop-part-test.false
