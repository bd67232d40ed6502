use mathlib.Core.Path.{sym, ◌∙◌, ap}
use native.Mathlib.Omega.{arith}
use Rattle.frame.specs.Frames.{frame_at}
use Rattle.drafting.proofs.Rows.{fill-first, fill-room, fill-within, fill_on, fill-cut, fill_end}
use Rattle.drafting.proofs.fill.Goals as goal

pub loop-at-init : goal.loop-at-init
loop-at-init c = fill-first c.set_of-set.result c.args.file.now c.args.draft.now c.set_of-set.ensures c.requires.0 c.requires.1

pub shape_of-draft-in_default : goal.shape_of-draft-in_default
shape_of-draft-in_default c = c.loop-at.invariant.long

pub returns-in_default : goal.returns-in_default
returns-in_default c = fill-cut c.loop-at.invariant c.loop-at-test.true (ap (frame_at c.args.file.now) (sym c.at.ensures) ∙ sym c.frame.ensures ∙ c.in_default.is)

pub put_row-requires : goal.put_row-requires
put_row-requires c = fill-room c.loop-at.invariant c.loop-at-test.true _ _ (ap (frame_at c.args.file.now) (sym c.at.ensures) ∙ sym c.frame.ensures ∙ c.in-Some.is)

pub overflow_add-at : goal.overflow_add-at
overflow_add-at c = let g = fill-within c.loop-at.invariant c.loop-at-test.true _ _ (ap (frame_at c.args.file.now) (sym c.at.ensures) ∙ sym c.frame.ensures ∙ c.in-Some.is) in omega (arith, g.1)

pub loop-at-smaller : goal.loop-at-smaller
loop-at-smaller c = let g = fill-within c.loop-at.invariant c.loop-at-test.true _ _ (ap (frame_at c.args.file.now) (sym c.at.ensures) ∙ sym c.frame.ensures ∙ c.in-Some.is) in omega (arith, g.0, c.loop-at-test.true)

pub loop-at-preserved : goal.loop-at-preserved
loop-at-preserved c = fill_on c.loop-at.invariant c.loop-at-test.true _ _ (ap (frame_at c.args.file.now) (sym c.at.ensures) ∙ sym c.frame.ensures ∙ c.in-Some.is) _ _ c.part_of.ensures c.put_row.ensures

pub shape_of-draft : goal.shape_of-draft
shape_of-draft c = c.loop-at.invariant.long

pub returns : goal.returns
returns c = fill_end c.loop-at.invariant c.loop-at-test.false
