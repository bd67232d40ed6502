use native.Mathlib.Omega.{arith}
use Rattle.salvage_list.proofs.Marking.{step-onward, lists-first, lists-planned, lists-room, lists-on, lists-end}
use Rattle.salvage_list.proofs.put_list.Goals as goal

pub loop-plan-init : goal.loop-plan-init
loop-plan-init c = lists-first _ _ _ _ _

pub mark_next-mark-requires : goal.mark_next-mark-requires
mark_next-mark-requires c = (c.loop-plan-test.true, lists-planned _ _ _ _ c.loop-plan.invariant c.requires)

pub put_row-requires : goal.put_row-requires
put_row-requires c = lists-room _ _ _ _ c.loop-plan.invariant c.requires c.mark_next-mark.ensures

pub overflow_add-row : goal.overflow_add-row
overflow_add-row c = let h = lists-room _ _ _ _ c.loop-plan.invariant c.requires c.mark_next-mark.ensures in omega (arith, h, c.loop-plan.invariant.long, c.well_formed)

pub loop-plan-smaller : goal.loop-plan-smaller
loop-plan-smaller c = omega (arith, c.loop-plan-test.true, step-onward c.args.torn.set c.args.torn.file.now c.args.torn.end c.args.from c.loop-plan.plan c.mark_next-mark.result c.mark_next-mark.ensures (lists-planned _ _ _ _ c.loop-plan.invariant c.requires))

pub loop-plan-preserved : goal.loop-plan-preserved
loop-plan-preserved c = lists-on _ _ _ _ c.loop-plan.invariant c.requires c.mark_next-mark.ensures c.put_row.ensures

pub shape_of-list : goal.shape_of-list
shape_of-list c = c.loop-plan.invariant.long

pub returns : goal.returns
returns c = lists-end _ _ _ _ c.loop-plan.invariant c.loop-plan-test.false
