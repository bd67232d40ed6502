use native.Mathlib.Omega.{arith}
use Rattle.salvage_rows.proofs.Control.{own-long, room-sixth, room-seventh, control-put}
use Rattle.salvage_rows.proofs.put_control.Goals as goal

pub bounds-own-6 : goal.bounds-own-6
bounds-own-6 c = omega (arith, own-long c.args.layouts.numbers.now c.args.kind c.args.layouts.packed c.requires c.own_numbers-own.ensures)

pub put_free-requires : goal.put_free-requires
put_free-requires c = room-sixth c.args.layouts.numbers.now c.args.kind c.args.layouts.packed c.requires c.own_numbers-own.ensures c.args.set c.args.body.now c.args.text.now c.told-text

pub bounds-own-7 : goal.bounds-own-7
bounds-own-7 c = omega (arith, own-long c.args.layouts.numbers.now c.args.kind c.args.layouts.packed c.requires c.own_numbers-own.ensures)

pub put_free-requires-2 : goal.put_free-requires-2
put_free-requires-2 c = room-seventh c.args.layouts.numbers.now c.args.kind c.args.layouts.packed c.requires c.own_numbers-own.ensures c.args.set c.args.body.now c.args.text.now c.told-text (c.put_free.ensures 6)

pub returns : goal.returns
returns c = control-put c.args.layouts.numbers.now c.args.kind c.args.layouts.packed c.requires c.own_numbers-own.ensures c.args.set c.args.body.now c.args.text.now c.told-text (c.put_free.ensures 6) (c.put_free-2.ensures 7) c.args.row.now c.told-row
