use mathlib.Core.Path.{sym, ◌∙◌}
use native.Mathlib.Omega.{arith}
use Rattle.salvage_list.proofs.Marking.{step-onward, looks-first, looks-planned, looks-end, looks-kept, looks_on}
use Rattle.salvage_list.proofs.is_any_kept.Goals as goal

pub loop-plan-init : goal.loop-plan-init
loop-plan-init c = looks-first _ _ _ _

pub mark_next-mark-requires : goal.mark_next-mark-requires
mark_next-mark-requires c = (c.loop-plan-test.true, looks-planned _ _ _ _ c.loop-plan.invariant c.requires)

pub returns-then-is_kept : goal.returns-then-is_kept
returns-then-is_kept c = looks-kept _ _ _ _ c.loop-plan.invariant c.mark_next-mark.ensures (sym c.is_kept.ensures ∙ c.if-is_kept.true)

pub loop-plan-smaller : goal.loop-plan-smaller
loop-plan-smaller c = omega (arith, c.loop-plan-test.true, step-onward c.args.torn.set c.args.torn.file.now c.args.torn.end c.args.from c.loop-plan.plan c.mark_next-mark.result c.mark_next-mark.ensures (looks-planned _ _ _ _ c.loop-plan.invariant c.requires))

pub loop-plan-preserved : goal.loop-plan-preserved
loop-plan-preserved c = looks_on _ _ _ _ c.loop-plan.invariant c.mark_next-mark.ensures (sym c.is_kept.ensures ∙ c.if-is_kept.false)

pub returns : goal.returns
returns c = looks-end _ _ _ _ c.loop-plan.invariant c.loop-plan-test.false
