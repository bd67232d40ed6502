use mathlib.Core.Path.{sym, ◌∙◌, ap}
use native.Mathlib.Omega.{arith}
use Rattle.frame.specs.Frames.{frame_at}
use Rattle.frame.proofs.Laws.{whole-start, whole-within}
use Rattle.judge.specs.Alone.{type_of}
use Rattle.passes.proofs.Passes.{fill-first, fill-room, fill_on, fill-cut, fill_end, place-moves, moves-stopped}
use Rattle.passes.proofs.fill.Goals as goal

pub loop-at-init : goal.loop-at-init
loop-at-init c = fill-first c.set_of-set.result c.args.file.now c.args.table.now c.start-s.result c.set_of-set.ensures c.requires.0 c.requires.1 (c.start-s.ensures c.set_of-set.result c.args.file.now)

pub returns-in_default : goal.returns-in_default
returns-in_default c = fill-cut c.set_of-set.result c.args.file.now c.args.table.now c.loop-at.at c.loop-at.s c.loop-at.base c.loop-at.table c.loop-at.invariant c.loop-at-test.true (ap (frame_at c.args.file.now) (sym c.at.ensures) ∙ sym c.frame.ensures ∙ c.in_default.is)

pub moved-s-requires : goal.moved-s-requires
moved-s-requires c = place-moves c.set_of-set.result c.args.file.now c.loop-at.at c.loop-at.s c.loop-at.invariant.place

pub put_row-requires : goal.put_row-requires
put_row-requires c = (fill-room c.set_of-set.result c.args.file.now c.args.table.now c.loop-at.at c.loop-at.s c.loop-at.base c.loop-at.table c.loop-at.invariant c.loop-at-test.true _ _ c.type_of-kind.result (ap (frame_at c.args.file.now) (sym c.at.ensures) ∙ sym c.frame.ensures ∙ c.in-Some.is) (ap (type_of c.set_of-set.result) (sym c.part_of.ensures) ∙ sym c.type_of-kind.ensures), moves-stopped c.set_of-set.result c.args.file.now c.loop-at.at c.loop-at.s c.type_of-kind.result c.moved-s.result c.moved-s.ensures)

pub overflow_add-at : goal.overflow_add-at
overflow_add-at c = let b = whole-start c.args.file.now c.loop-at.at _ _ (ap (frame_at c.args.file.now) (sym c.at.ensures) ∙ sym c.frame.ensures ∙ c.in-Some.is) in let w = whole-within c.args.file.now c.loop-at.at _ _ (ap (frame_at c.args.file.now) (sym c.at.ensures) ∙ sym c.frame.ensures ∙ c.in-Some.is) in omega (arith, w, c.loop-at.invariant.place.limit)

pub loop-at-smaller : goal.loop-at-smaller
loop-at-smaller c = let b = whole-start c.args.file.now c.loop-at.at _ _ (ap (frame_at c.args.file.now) (sym c.at.ensures) ∙ sym c.frame.ensures ∙ c.in-Some.is) in let w = whole-within c.args.file.now c.loop-at.at _ _ (ap (frame_at c.args.file.now) (sym c.at.ensures) ∙ sym c.frame.ensures ∙ c.in-Some.is) in omega (arith, w, b)

pub loop-at-preserved : goal.loop-at-preserved
loop-at-preserved c = fill_on c.set_of-set.result c.args.file.now c.args.table.now c.loop-at.at c.loop-at.s c.loop-at.base c.loop-at.table c.loop-at.invariant c.loop-at-test.true _ _ c.type_of-kind.result (ap (frame_at c.args.file.now) (sym c.at.ensures) ∙ sym c.frame.ensures ∙ c.in-Some.is) (ap (type_of c.set_of-set.result) (sym c.part_of.ensures) ∙ sym c.type_of-kind.ensures) c.moved-s.result _ c.moved-s.ensures c.put_row.ensures

pub shape_of-table : goal.shape_of-table
shape_of-table c = c.loop-at.invariant.long

pub returns : goal.returns
returns c = fill_end c.set_of-set.result c.args.file.now c.args.table.now c.loop-at.at c.loop-at.s c.loop-at.base c.loop-at.table c.loop-at.invariant c.loop-at-test.false
