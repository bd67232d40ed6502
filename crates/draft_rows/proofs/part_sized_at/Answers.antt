use native.Mathlib.Omega.{arith}
use Rattle.draft_rows.proofs.Parts.{left-first, left_here, left-on, left-none}
use Rattle.draft_rows.proofs.part_sized_at.Goals as goal

pub loop-i-init : goal.loop-i-init
loop-i-init c = left-first c.args.row.rows.now c.parts-part-items.result.now _ c.parts-part-items.ensures c.args.first

pub bounds-row-i : goal.bounds-row-i
bounds-row-i c = omega (arith, c.loop-i.invariant.few, c.args.row.whole)

pub returns-then-part-first : goal.returns-then-part-first
returns-then-part-first c = left_here c.loop-i.invariant c.loop-i-test.true c.if-part-first.true

pub loop-i-preserved : goal.loop-i-preserved
loop-i-preserved c = left-on c.loop-i.invariant c.loop-i-test.true c.if-part-first.false

pub returns : goal.returns
returns c = left-none c.loop-i.invariant c.loop-i-test.false
