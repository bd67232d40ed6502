use mathlib.Core.Path.{sym, ◌∙◌}
use mathlib.Core.Bool.{true}
use Prim.Native.Nat.{◌-◌}
use native.Mathlib.Omega.{arith}
use lib.ListN.{length, drop, length-take, length-drop}
use Rattle.set_out.proofs.Rows.{bundle-first, bundle-turn, bundle-on, bundle-some, rows-ready, same-long, bytes-within}
use borrow.Author.Rules.{rules}
use Rattle.set_out.proofs.write_bundle.Goals as goal

pub loop-open-init : goal.loop-open-init
loop-open-init c = bundle-first

pub overflow_sub-rows : goal.overflow_sub-rows
overflow_sub-rows c = c.loop-open.invariant.within

pub slice_bounds-write_row-count : goal.slice_bounds-write_row-count
slice_bounds-write_row-count c = c.loop-open.invariant.within

pub slice_bounds-write_row-count-in-loop-open : goal.slice_bounds-write_row-count-in-loop-open
slice_bounds-write_row-count-in-loop-open c = bytes-within (c.loop-open.invariant.onward c.requires.1)

pub slice_bounds-write_row-start-in-loop-open : goal.slice_bounds-write_row-start-in-loop-open
slice_bounds-write_row-start-in-loop-open c = bytes-within (c.loop-open.invariant.onward c.requires.1)

pub write_row-one-requires : goal.write_row-one-requires
write_row-one-requires c = (omega (arith, bundle-turn c.loop-open.invariant c.loop-open-test.true, length-take (length c.args.rows.now - c.loop-open.at) (drop c.loop-open.at c.args.rows.now), length-drop c.loop-open.at c.args.rows.now), rows-ready c.args.set c.args.text.now c.args.rows.now c.loop-open.out c.loop-open.at (c.loop-open.invariant.onward c.requires.1) c.requires.1.few c.requires.1.fits)

pub offset_bounds-rows-at-in-loop-open : goal.offset_bounds-rows-at-in-loop-open
offset_bounds-rows-at-in-loop-open c = omega (arith, c.loop-open.invariant.within, bundle-turn c.loop-open.invariant c.loop-open-test.true, c.well_formed)

pub bounds-rows-at : goal.bounds-rows-at
bounds-rows-at c = let h = bundle-turn c.loop-open.invariant c.loop-open-test.true in search rules

pub overflow_add-bytes : goal.overflow_add-bytes
overflow_add-bytes c = omega (arith, ((bundle-on c.loop-open.invariant true c.write_row-one.ensures).onward c.requires.1).within, c.well_formed)

pub overflow_add-at : goal.overflow_add-at
overflow_add-at c = omega (arith, (bundle-on c.loop-open.invariant true c.write_row-one.ensures).within, c.well_formed)

pub loop-open-smaller : goal.loop-open-smaller
loop-open-smaller c = omega (arith, (bundle-on c.loop-open.invariant true c.write_row-one.ensures).within, c.write_row-one.ensures.some)

pub loop-open-preserved : goal.loop-open-preserved
loop-open-preserved c = bundle-on c.loop-open.invariant _ c.write_row-one.ensures

pub shape_of-sheet : goal.shape_of-sheet
shape_of-sheet c = (c.loop-open.invariant.onward c.requires.1).stands.long ∙ sym c.requires.1.stands.long

pub shape_of-out : goal.shape_of-out
shape_of-out c = same-long (c.loop-open.invariant.onward c.requires.1)

pub returns : goal.returns
returns c = record { some = bundle-some c.loop-open.invariant c.requires.0 c.loop-open-test.false; within = c.loop-open.invariant.within; onward = c.loop-open.invariant.onward }
