use mathlib.Core.Path.{refl, sym}
use mathlib.Core.List.{[]}
use Rattle.set_out.proofs.write_rows.Goals.{then-rows-eq20, else-rows-eq20}
use Prim.Native.Nat.{◌+◌, ◌≤◌}
use native.Mathlib.Omega.{arith}
use Rattle.text.specs.declared.character_set.CharacterSet.TheVariants.{Ascii}
use Rattle.set_out.proofs.Rows.{Draft, draft-first, draft-room, draft-some, draft-ready, draft-on, draft-all, same-long}
use borrow.Author.Rules.{rules}
use Rattle.set_out.proofs.write_rows.Goals as goal

pub loop-at-init : goal.loop-at-init
loop-at-init c = draft-first (search rules) refl (c.start-s.ensures Ascii [])

pub overflow_sub-draft : goal.overflow_sub-draft
overflow_sub-draft c = c.loop-at.invariant.within

pub slice_bounds-rows-count : goal.slice_bounds-rows-count
slice_bounds-rows-count c = c.loop-at.invariant.within

pub bounds-rows-0 : goal.bounds-rows-0
bounds-rows-0 c = let h = draft-some c.loop-at.invariant c.loop-at-test.true in search rules

pub slice_bounds-write_bundle-end : goal.slice_bounds-write_bundle-end
slice_bounds-write_bundle-end c = sym c.loop-at.invariant.onward.stands.long

pub slice_bounds-write_bundle-count : goal.slice_bounds-write_bundle-count
slice_bounds-write_bundle-count c = draft-room c.loop-at.invariant

pub write_bundle-done-requires : goal.write_bundle-done-requires
write_bundle-done-requires c = (draft-some c.loop-at.invariant c.loop-at-test.true, draft-ready c.loop-at.invariant c.requires)

pub slice_bounds-write_row-end : goal.slice_bounds-write_row-end
slice_bounds-write_row-end c = sym c.loop-at.invariant.onward.stands.long

pub slice_bounds-write_row-count : goal.slice_bounds-write_row-count
slice_bounds-write_row-count c = draft-room c.loop-at.invariant

pub write_row-done-requires : goal.write_row-done-requires
write_row-done-requires c = (draft-some c.loop-at.invariant c.loop-at-test.true, draft-ready c.loop-at.invariant c.requires)

pub shape_of-out : goal.shape_of-out
shape_of-out c = same-long c.loop-at.invariant.onward

pub returns : goal.returns
returns c = draft-all c.loop-at.invariant (search rules)

pub overflow_add-bytes : goal.overflow_add-bytes
overflow_add-bytes c =
    let d : Draft c.args.set c.args.text.now c.args.draft.now c.args.out.now c.if-rows-eq20.out c.if-rows-eq20.sheet c.if-rows-eq20.done.standing (c.loop-at.bytes + c.if-rows-eq20.done.bytes) (c.loop-at.at + c.if-rows-eq20.done.numbers) × (10 ≤ c.if-rows-eq20.done.numbers) = elim c.if-rows-eq20.branch [ then-rows-eq20 w ↦ draft-on c.loop-at.invariant c.requires w.write_bundle-done.ensures w.out-is w.sheet-is w.done-is | else-rows-eq20 w ↦ draft-on c.loop-at.invariant c.requires w.write_row-done.ensures w.out-is w.sheet-is w.done-is ] in
    omega (arith, d.0.onward.within)

pub overflow_add-at : goal.overflow_add-at
overflow_add-at c =
    let d : Draft c.args.set c.args.text.now c.args.draft.now c.args.out.now c.if-rows-eq20.out c.if-rows-eq20.sheet c.if-rows-eq20.done.standing (c.loop-at.bytes + c.if-rows-eq20.done.bytes) (c.loop-at.at + c.if-rows-eq20.done.numbers) × (10 ≤ c.if-rows-eq20.done.numbers) = elim c.if-rows-eq20.branch [ then-rows-eq20 w ↦ draft-on c.loop-at.invariant c.requires w.write_bundle-done.ensures w.out-is w.sheet-is w.done-is | else-rows-eq20 w ↦ draft-on c.loop-at.invariant c.requires w.write_row-done.ensures w.out-is w.sheet-is w.done-is ] in
    omega (arith, d.0.within)

pub loop-at-smaller : goal.loop-at-smaller
loop-at-smaller c =
    let d : Draft c.args.set c.args.text.now c.args.draft.now c.args.out.now c.if-rows-eq20.out c.if-rows-eq20.sheet c.if-rows-eq20.done.standing (c.loop-at.bytes + c.if-rows-eq20.done.bytes) (c.loop-at.at + c.if-rows-eq20.done.numbers) × (10 ≤ c.if-rows-eq20.done.numbers) = elim c.if-rows-eq20.branch [ then-rows-eq20 w ↦ draft-on c.loop-at.invariant c.requires w.write_bundle-done.ensures w.out-is w.sheet-is w.done-is | else-rows-eq20 w ↦ draft-on c.loop-at.invariant c.requires w.write_row-done.ensures w.out-is w.sheet-is w.done-is ] in
    omega (arith, d.0.within, d.1)

pub loop-at-preserved : goal.loop-at-preserved
loop-at-preserved c =
    let d : Draft c.args.set c.args.text.now c.args.draft.now c.args.out.now c.if-rows-eq20.out c.if-rows-eq20.sheet c.if-rows-eq20.done.standing (c.loop-at.bytes + c.if-rows-eq20.done.bytes) (c.loop-at.at + c.if-rows-eq20.done.numbers) × (10 ≤ c.if-rows-eq20.done.numbers) = elim c.if-rows-eq20.branch [ then-rows-eq20 w ↦ draft-on c.loop-at.invariant c.requires w.write_bundle-done.ensures w.out-is w.sheet-is w.done-is | else-rows-eq20 w ↦ draft-on c.loop-at.invariant c.requires w.write_row-done.ensures w.out-is w.sheet-is w.done-is ] in
    d.0
