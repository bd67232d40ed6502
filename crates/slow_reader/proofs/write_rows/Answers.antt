use mathlib.Core.Path.{sym, ◌∙◌, ap}
use native.Mathlib.Omega.{arith}
use Rattle.frame.proofs.Laws.{whole-start, whole-within}
use Rattle.judge.specs.Alone.{type_of}
use Rattle.passes.proofs.Passes.{fill-first, fill-room, fill_on, place-moves, moves-stopped}
use Rattle.slow_record.proofs.Types.{type-told}
use Rattle.slow_reader.proofs.Laws.{begins-within, all-written}
use Rattle.slow_reader.proofs.write_rows.Goals as goal

pub loop-start-init : goal.loop-start-init
loop-start-init c =
    fill-first c.args.set c.args.file.now c.args.table.now c.start-s.result c.requires.0 (omega (arith, c.requires.1)) c.requires.2
    (c.start-s.ensures c.args.set c.args.file.now)

pub moved_on-s-requires : goal.moved_on-s-requires
moved_on-s-requires c = place-moves c.args.set c.args.file.now c.loop-start.at c.loop-start.s c.loop-start.invariant.place

pub write_row-requires : goal.write_row-requires
write_row-requires c =
    let whole = sym c.frame_at.ensures ∙ c.in-Some.is in (
      fill-room c.args.set c.args.file.now c.args.table.now c.loop-start.at c.loop-start.s c.loop-start.base c.loop-start.table c.loop-start.invariant
          (begins-within c.args.file.now c.loop-start.at _ _ whole) _ _ c.unwrap_or-kind.result whole
          (ap (type_of c.args.set) (sym c.part_of-body.ensures) ∙ type-told c.type_of.result (type_of c.args.set c.part_of-body.result.now) c.type_of.ensures ∙ sym c.unwrap_or-kind.ensures),
      moves-stopped c.args.set c.args.file.now c.loop-start.at c.loop-start.s c.unwrap_or-kind.result c.moved_on-s.result c.moved_on-s.ensures,
    )

pub overflow_add-at : goal.overflow_add-at
overflow_add-at c =
    let w = whole-within c.args.file.now c.loop-start.at _ _ (sym c.frame_at.ensures ∙ c.in-Some.is) in
    omega (arith, w, c.loop-start.invariant.place.limit)

pub loop-start-smaller : goal.loop-start-smaller
loop-start-smaller c =
    let b = whole-start c.args.file.now c.loop-start.at _ _ (sym c.frame_at.ensures ∙ c.in-Some.is) in
    let w = whole-within c.args.file.now c.loop-start.at _ _ (sym c.frame_at.ensures ∙ c.in-Some.is) in
    omega (arith, w, b)

pub loop-start-preserved : goal.loop-start-preserved
loop-start-preserved c =
    let whole = sym c.frame_at.ensures ∙ c.in-Some.is in
    fill_on c.args.set c.args.file.now c.args.table.now c.loop-start.at c.loop-start.s c.loop-start.base c.loop-start.table c.loop-start.invariant
    (begins-within c.args.file.now c.loop-start.at _ _ whole) _ _ c.unwrap_or-kind.result whole
    (ap (type_of c.args.set) (sym c.part_of-body.ensures) ∙ type-told c.type_of.result (type_of c.args.set c.part_of-body.result.now) c.type_of.ensures ∙ sym c.unwrap_or-kind.ensures)
    c.moved_on-s.result _ c.moved_on-s.ensures c.write_row.ensures

pub returns : goal.returns
returns c =
    all-written c.args.set c.args.file.now c.args.table.now c.loop-start.at c.loop-start.s c.loop-start.base c.loop-start.table c.loop-start.invariant
    (sym c.frame_at.ensures ∙ c.in_default.is)
