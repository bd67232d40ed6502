use mathlib.Core.Path.{◌∙◌}
use Prim.Native.Nat.{◌+◌}
use native.Mathlib.Omega.{arith}
use Rattle.completing.proofs.Laws.{left-room}
use Rattle.completing.proofs.Over.{over-long, over_first, over_last, over-given, over-on}
use Rattle.completing.proofs.put_over.Goals as goal
use Rattle.completing.proofs.put_over.Goals.{then-packed-ne0, else-packed-ne0}

pub put_piece-requires : goal.put_piece-requires
put_piece-requires c = omega (arith, c.requires.1, c.fixed_length-fixed.ensures)

pub loop-packed-init : goal.loop-packed-init
loop-packed-init c = over_first c.args.set c.args.text.now c.args.row.rows.now c.args.addenda c.args.s c.lines-packed-items.result.now c.lines-packed-items.ensures.are _ c.fixed_length-fixed.ensures c.args.out.now c.args.at c.requires.1 _ c.put_piece.ensures c.requires.2

pub put_line-requires : goal.put_line-requires
put_line-requires c = (c.requires.0, left-room c.args.set c.args.text.now c.args.row.rows.now c.args.addenda c.args.s c.lines-packed-items.result.now c.loop-packed.invariant.lines c.loop-packed-test.true)

pub shape_of-out : goal.shape_of-out
shape_of-out c = c.loop-packed.invariant.lines.long ∙ over-long c.args.set c.args.text.now c.args.row.rows.now c.args.addenda c.args.s c.lines-packed-items.result.now c.lines-packed-items.ensures.are _ c.fixed_length-fixed.ensures c.args.out.now c.args.at c.requires.1 _ c.put_piece.ensures

pub returns : goal.returns
returns c = over_last c.args.set c.args.text.now c.args.row.rows.now c.args.addenda c.args.s c.lines-packed-items.result.now c.lines-packed-items.ensures.are _ c.fixed_length-fixed.ensures c.args.out.now c.args.at c.requires.1 _ c.put_piece.ensures c.loop-packed.invariant c.loop-packed-test.false

pub overflow_add-place : goal.overflow_add-place
overflow_add-place c = let h = left-room c.args.set c.args.text.now c.args.row.rows.now c.args.addenda c.args.s c.lines-packed-items.result.now c.loop-packed.invariant.lines c.loop-packed-test.true in omega (arith, h, c.loop-packed.invariant.lines.long, c.well_formed)

pub loop-packed-preserved : goal.loop-packed-preserved
loop-packed-preserved c = elim c.if-packed-ne0.branch [ then-packed-ne0 w ↦ over-on c.args.set c.args.text.now c.args.row.rows.now c.args.addenda c.args.s c.lines-packed-items.result.now c.loop-packed.invariant c.loop-packed-test.true _ (w.out-is ∙ w.put_line.ensures (c.loop-packed.packed-index + 1)) | else-packed-ne0 w ↦ over-on c.args.set c.args.text.now c.args.row.rows.now c.args.addenda c.args.s c.lines-packed-items.result.now c.loop-packed.invariant c.loop-packed-test.true _ (w.out-is ∙ over-given c.args.set c.args.text.now c.args.row.rows.now c.args.addenda c.args.s c.lines-packed-items.result.now c.loop-packed.invariant c.loop-packed-test.true w.if-packed-ne0.false) ]
