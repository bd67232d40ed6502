use Prim.Native.Nat.{◌+◌}
use Rattle.completing.proofs.Laws.{left-all, left-none, left-room, left-on}
use Rattle.completing.proofs.put_lines.Goals as goal

pub loop-packed-init : goal.loop-packed-init
loop-packed-init c = left-all c.args.set c.args.text.now c.args.row.rows.now c.args.addenda c.args.s c.lines-packed-items.result.now c.lines-packed-items.ensures.are c.args.out.now c.args.at c.requires.1

pub put_line-requires : goal.put_line-requires
put_line-requires c = (c.requires.0, left-room c.args.set c.args.text.now c.args.row.rows.now c.args.addenda c.args.s c.lines-packed-items.result.now c.loop-packed.invariant c.loop-packed-test.true)

pub loop-packed-preserved : goal.loop-packed-preserved
loop-packed-preserved c = left-on c.args.set c.args.text.now c.args.row.rows.now c.args.addenda c.args.s c.lines-packed-items.result.now c.loop-packed.invariant c.loop-packed-test.true _ (c.put_line.ensures (c.loop-packed.packed-index + 1))

pub shape_of-out : goal.shape_of-out
shape_of-out c = c.loop-packed.invariant.long

pub returns : goal.returns
returns c = left-none c.args.set c.args.text.now c.args.row.rows.now c.args.addenda c.args.s c.lines-packed-items.result.now c.loop-packed.invariant c.loop-packed-test.false
