use mathlib.Core.Path.{refl}
use mathlib.Core.List.{[]}
use native.Mathlib.Omega.{arith}
use borrow.Author.Tests.{not-true, not-false}
use Rattle.text.specs.declared.character_set.CharacterSet.TheVariants.{Ascii}
use Rattle.set_out.proofs.Rows.{same-long}
use Rattle.salvage_passes.proofs.Writing.{writing-first, writing-room, writing-all, next-written, next-less, writing-on}
use Rattle.salvage_passes.proofs.write_left.Goals as goal

pub loop-at-init : goal.loop-at-init
loop-at-init c = λ w. writing-first c.args.out.now w refl (c.start-s.ensures Ascii [])

pub next_entry-entry-requires : goal.next_entry-entry-requires
next_entry-entry-requires c = (not-true _ c.loop-at-test.true, record { values = (c.loop-at.invariant c.requires).left; cued = (c.loop-at.invariant c.requires).cued })

pub slice_bounds-write_next-count : goal.slice_bounds-write_next-count
slice_bounds-write_next-count c = writing-room (c.loop-at.invariant c.requires)

pub slice_bounds-write_next-start : goal.slice_bounds-write_next-start
slice_bounds-write_next-start c = writing-room (c.loop-at.invariant c.requires)

pub write_next-one-requires : goal.write_next-one-requires
write_next-one-requires c = next-written (c.loop-at.invariant c.requires) c.next_entry-entry.ensures

pub overflow_add-bytes : goal.overflow_add-bytes
overflow_add-bytes c = let d = writing-on (c.loop-at.invariant c.requires) c.next_entry-entry.ensures c.write_next-one.ensures in record { fits = omega (arith, d.onward.within, c.well_formed) }

pub loop-at-smaller : goal.loop-at-smaller
loop-at-smaller c = next-less (c.loop-at.invariant c.requires) c.next_entry-entry.ensures

pub loop-at-preserved : goal.loop-at-preserved
loop-at-preserved c = λ w. writing-on (c.loop-at.invariant w) c.next_entry-entry.ensures c.write_next-one.ensures

pub shape_of-out : goal.shape_of-out
shape_of-out c = same-long (c.loop-at.invariant c.requires).onward

pub returns : goal.returns
returns c = λ w. writing-all (c.loop-at.invariant w) (not-false _ c.loop-at-test.false)
