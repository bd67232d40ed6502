use native.Mathlib.Omega.{arith}
use borrow.Author.Rules.{rules}
use Rattle.set_out.proofs.Record.{down-first, down-room, down-on, down-all}
use Rattle.set_out.proofs.put_parts.Goals as goal

pub loop-i-init : goal.loop-i-init
loop-i-init c = down-first c.args.set c.args.text.now c.args.row.rows.now c.parts-part-items.result.now _ c.parts-part-items.ensures c.fixed_length-place.ensures (omega arith) c.args.out.now c.requires

pub bounds-row-i : goal.bounds-row-i
bounds-row-i c = omega (arith, c.loop-i.invariant.few, c.args.row.whole)

pub overflow_add-place : goal.overflow_add-place
overflow_add-place c = let r = down-room c.args.set c.args.text.now c.args.row.rows.now c.parts-part-items.result.now _ c.loop-i.invariant (search rules) c.loop-i-test.true in search rules

pub put_piece-requires : goal.put_piece-requires
put_piece-requires c = down-room c.args.set c.args.text.now c.args.row.rows.now c.parts-part-items.result.now _ c.loop-i.invariant (search rules) c.loop-i-test.true

pub overflow_add-place-in-loop-i : goal.overflow_add-place-in-loop-i
overflow_add-place-in-loop-i c = let r = down-room c.args.set c.args.text.now c.args.row.rows.now c.parts-part-items.result.now _ c.loop-i.invariant (search rules) c.loop-i-test.true in search rules

pub loop-i-preserved : goal.loop-i-preserved
loop-i-preserved c = down-on c.args.set c.args.text.now c.args.row.rows.now c.parts-part-items.result.now _ c.loop-i.invariant (search rules) c.loop-i-test.true c.data_type_of-data_type.ensures c.put_piece.ensures

pub shape_of-out : goal.shape_of-out
shape_of-out c = c.loop-i.invariant.tells.long

pub returns : goal.returns
returns c = down-all c.args.set c.args.text.now c.args.row.rows.now c.parts-part-items.result.now _ c.loop-i.invariant c.loop-i-test.false
