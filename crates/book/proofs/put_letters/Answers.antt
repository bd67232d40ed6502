use mathlib.Core.Path.{◌≡◌, sym, ap, ◌∙◌}
use native.Mathlib.Omega.{arith}
use Rattle.frame.specs.Frames.{part, frame_at}
use Rattle.frame.specs.Frames.{Whole}
use Rattle.frame.proofs.Laws.{whole-start, whole-within}
use Rattle.judge.specs.Alone.{type_of}
use Rattle.passes.proofs.Passes.{place-moves}
use Rattle.book.proofs.Letters.{writing-first, writing-cut, writing-end, writing-other, writing-room, writing-number, writing-one}
use Rattle.book.proofs.put_letters.Goals.{then-kind-eq90, else-kind-eq90}
use Rattle.book.proofs.put_letters.Goals as goal

pub loop-at-init : goal.loop-at-init
loop-at-init c = writing-first c.set_of-set.result c.args.file.now c.args.book.now c.args.number c.args.owner c.args.last c.args.claimed c.start-s.result c.set_of-set.ensures c.requires.0 c.requires.1 c.requires.2 c.requires.3 (c.start-s.ensures c.set_of-set.result c.args.file.now)

pub shape_of-book-in_default : goal.shape_of-book-in_default
shape_of-book-in_default c = c.loop-at.invariant.long

pub returns-in_default : goal.returns-in_default
returns-in_default c = writing-cut c.set_of-set.result c.args.file.now c.args.book.now c.args.number c.args.owner c.args.last c.args.claimed c.loop-at.at c.loop-at.s c.loop-at.book c.loop-at.place c.loop-at.rows c.loop-at.given c.loop-at.invariant c.loop-at-test.true (ap (frame_at c.args.file.now) (sym c.at.ensures) ∙ sym c.frame.ensures ∙ c.in_default.is)

pub moved-s-requires : goal.moved-s-requires
moved-s-requires c = place-moves c.set_of-set.result c.args.file.now c.loop-at.at c.loop-at.s c.loop-at.invariant.here

pub free_row-spot-requires : goal.free_row-spot-requires
free_row-spot-requires c = c.loop-at.invariant.reach

pub overflow_add-given : goal.overflow_add-given
overflow_add-given c =
    let whole : frame_at c.args.file.now c.loop-at.at ≡ Whole c.in-Some.field-0.start c.in-Some.field-0.size = ap (frame_at c.args.file.now) (sym c.at.ensures) ∙ sym c.frame.ensures ∙ c.in-Some.is in
    let typed : type_of c.set_of-set.result (part c.in-Some.field-0.start c.in-Some.field-0.size c.args.file.now) ≡ c.type_of-kind.result = ap (type_of c.set_of-set.result) (sym c.part_of.ensures) ∙ sym c.type_of-kind.ensures in
    record { fits = writing-number c.set_of-set.result c.args.file.now c.args.book.now c.args.number c.args.owner c.args.last c.args.claimed c.loop-at.at c.loop-at.s c.loop-at.book c.loop-at.place c.loop-at.rows c.loop-at.given c.loop-at.invariant c.loop-at-test.true _ _ c.type_of-kind.result whole typed c.moved-s.result c.moved-s.ensures c.if-kind-eq90.true }

pub put_row-requires : goal.put_row-requires
put_row-requires c =
    let whole : frame_at c.args.file.now c.loop-at.at ≡ Whole c.in-Some.field-0.start c.in-Some.field-0.size = ap (frame_at c.args.file.now) (sym c.at.ensures) ∙ sym c.frame.ensures ∙ c.in-Some.is in
    let typed : type_of c.set_of-set.result (part c.in-Some.field-0.start c.in-Some.field-0.size c.args.file.now) ≡ c.type_of-kind.result = ap (type_of c.set_of-set.result) (sym c.part_of.ensures) ∙ sym c.type_of-kind.ensures in
    let h = writing-room c.set_of-set.result c.args.file.now c.args.book.now c.args.number c.args.owner c.args.last c.args.claimed c.loop-at.at c.loop-at.s c.loop-at.book c.loop-at.place c.loop-at.rows c.loop-at.given c.loop-at.invariant c.loop-at-test.true _ _ c.type_of-kind.result whole typed c.moved-s.result c.moved-s.ensures c.if-kind-eq90.true c.free_row-spot.result c.free_row-spot.ensures in omega (arith, h)

pub overflow_add-place : goal.overflow_add-place
overflow_add-place c =
    let whole : frame_at c.args.file.now c.loop-at.at ≡ Whole c.in-Some.field-0.start c.in-Some.field-0.size = ap (frame_at c.args.file.now) (sym c.at.ensures) ∙ sym c.frame.ensures ∙ c.in-Some.is in
    let typed : type_of c.set_of-set.result (part c.in-Some.field-0.start c.in-Some.field-0.size c.args.file.now) ≡ c.type_of-kind.result = ap (type_of c.set_of-set.result) (sym c.part_of.ensures) ∙ sym c.type_of-kind.ensures in
    let h = writing-room c.set_of-set.result c.args.file.now c.args.book.now c.args.number c.args.owner c.args.last c.args.claimed c.loop-at.at c.loop-at.s c.loop-at.book c.loop-at.place c.loop-at.rows c.loop-at.given c.loop-at.invariant c.loop-at-test.true _ _ c.type_of-kind.result whole typed c.moved-s.result c.moved-s.ensures c.if-kind-eq90.true c.free_row-spot.result c.free_row-spot.ensures in omega (arith, h, c.loop-at.invariant.long, c.well_formed)

pub overflow_add-at : goal.overflow_add-at
overflow_add-at c =
    let whole : frame_at c.args.file.now c.loop-at.at ≡ Whole c.in-Some.field-0.start c.in-Some.field-0.size = ap (frame_at c.args.file.now) (sym c.at.ensures) ∙ sym c.frame.ensures ∙ c.in-Some.is in
    let w = whole-within c.args.file.now c.loop-at.at _ _ whole in omega (arith, w, c.loop-at.invariant.here.limit)

pub loop-at-smaller : goal.loop-at-smaller
loop-at-smaller c =
    let whole : frame_at c.args.file.now c.loop-at.at ≡ Whole c.in-Some.field-0.start c.in-Some.field-0.size = ap (frame_at c.args.file.now) (sym c.at.ensures) ∙ sym c.frame.ensures ∙ c.in-Some.is in
    let b = whole-start c.args.file.now c.loop-at.at _ _ whole in let w = whole-within c.args.file.now c.loop-at.at _ _ whole in omega (arith, w, b)

pub shape_of-book : goal.shape_of-book
shape_of-book c = c.loop-at.invariant.long

pub returns : goal.returns
returns c = writing-end c.set_of-set.result c.args.file.now c.args.book.now c.args.number c.args.owner c.args.last c.args.claimed c.loop-at.at c.loop-at.s c.loop-at.book c.loop-at.place c.loop-at.rows c.loop-at.given c.loop-at.invariant c.loop-at-test.false

pub loop-at-preserved : goal.loop-at-preserved
loop-at-preserved c =
    let whole : frame_at c.args.file.now c.loop-at.at ≡ Whole c.in-Some.field-0.start c.in-Some.field-0.size = ap (frame_at c.args.file.now) (sym c.at.ensures) ∙ sym c.frame.ensures ∙ c.in-Some.is in
    let typed : type_of c.set_of-set.result (part c.in-Some.field-0.start c.in-Some.field-0.size c.args.file.now) ≡ c.type_of-kind.result = ap (type_of c.set_of-set.result) (sym c.part_of.ensures) ∙ sym c.type_of-kind.ensures in
    elim c.if-kind-eq90.branch [
      | then-kind-eq90 w ↦ rw (w.book-is, w.place-is, w.rows-is, w.given-is) (writing-one c.set_of-set.result c.args.file.now c.args.book.now c.args.number c.args.owner c.args.last c.args.claimed c.loop-at.at c.loop-at.s c.loop-at.book c.loop-at.place c.loop-at.rows c.loop-at.given c.loop-at.invariant c.loop-at-test.true _ _ c.type_of-kind.result whole typed c.moved-s.result c.moved-s.ensures w.if-kind-eq90.true w.free_row-spot.result w.free_row-spot.ensures w.put_row.new.book w.put_row.ensures)
      | else-kind-eq90 w ↦ rw (w.book-is, w.place-is, w.rows-is, w.given-is) (writing-other c.set_of-set.result c.args.file.now c.args.book.now c.args.number c.args.owner c.args.last c.args.claimed c.loop-at.at c.loop-at.s c.loop-at.book c.loop-at.place c.loop-at.rows c.loop-at.given c.loop-at.invariant c.loop-at-test.true _ _ c.type_of-kind.result whole typed c.moved-s.result c.moved-s.ensures w.if-kind-eq90.false)
    ]
