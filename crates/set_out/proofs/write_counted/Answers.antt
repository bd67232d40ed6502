use mathlib.Core.Path.{refl}
use native.Mathlib.Omega.{arith}
use Rattle.set_out.proofs.Rows.{row-owned, row-roomy, slot-room, row-end, stored-room, row-onward}
use borrow.Author.Rules.{rules}
use Rattle.set_out.proofs.write_counted.Goals as goal

pub invariant_of-row : goal.invariant_of-row
invariant_of-row c = record { owned = row-owned c.args.set c.args.text.now c.args.rows.now c.args.out.now c.requires.1 c.args.layouts.packed c.own_numbers-own.ensures; whole = c.requires.0 }

pub overflow_add-body : goal.overflow_add-body
overflow_add-body c = let r = slot-room c.args.set c.args.text.now c.args.rows.now c.args.out.now c.requires.1 in search rules

pub complete-fixed-requires : goal.complete-fixed-requires
complete-fixed-requires c = ((row-roomy c.args.set c.args.text.now c.args.rows.now c.args.out.now c.requires.1).0, omega (arith, c.slot_of-at.ensures, slot-room c.args.set c.args.text.now c.args.rows.now c.args.out.now c.requires.1))

pub overflow_add-end : goal.overflow_add-end
overflow_add-end c = let r = slot-room c.args.set c.args.text.now c.args.rows.now c.args.out.now c.requires.1 in omega (arith, c.slot_of-at.ensures, c.complete-fixed.ensures.1, r.0, r.1)

pub slice_bounds-write_record-end : goal.slice_bounds-write_record-end
slice_bounds-write_record-end c = row-end c.args.set c.args.text.now c.args.rows.now c.args.out.now c.requires.1 c.slot_of-at.ensures c.complete-fixed.ensures.1 c.complete-fixed.ensures.0

pub write_record-bytes-requires : goal.write_record-bytes-requires
write_record-bytes-requires c = let r = stored-room c.args.set c.args.text.now c.args.rows.now c.args.out.now c.requires.1 c.slot_of-at.ensures c.complete-fixed.ensures.1 c.complete-fixed.ensures.0 in (r.0, r.1)

pub moved-standing-requires : goal.moved-standing-requires
moved-standing-requires c = row-roomy c.args.set c.args.text.now c.args.rows.now c.args.out.now c.requires.1

pub returns : goal.returns
returns c = (refl, λ b. row-onward c.args.set c.args.text.now c.args.rows.now c.args.out.now b c.slot_of-at.ensures c.complete-fixed.ensures.1 c.complete-fixed.ensures.0 c.write_record-bytes.ensures.0 c.write_record-bytes.ensures.1 c.moved-standing.ensures)
