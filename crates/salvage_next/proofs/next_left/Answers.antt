use mathlib.Core.Path.{sym, ◌∙◌}
use native.Mathlib.Omega.{arith}
use Rattle.salvage_next.proofs.Skipping.{skips-first, skips-planned, skips-end, skips-less, skips-on, skips-stop}
use Rattle.salvage_next.proofs.next_left.Goals as goal

pub loop-plan-init : goal.loop-plan-init
loop-plan-init c = skips-first _ _ _ _

pub mark_next-mark-requires : goal.mark_next-mark-requires
mark_next-mark-requires c = (c.loop-plan-test.true, skips-planned _ _ _ _ c.loop-plan.invariant c.requires)

pub returns-then-not-is_dropped : goal.returns-then-not-is_dropped
returns-then-not-is_dropped c = skips-stop _ _ _ _ c.loop-plan.invariant c.mark_next-mark.result c.mark_next-mark.ensures (sym c.is_dropped.ensures ∙ c.if-not-is_dropped.true)

pub loop-plan-smaller : goal.loop-plan-smaller
loop-plan-smaller c = omega (arith, c.loop-plan-test.true, skips-less _ _ _ _ c.loop-plan.invariant c.mark_next-mark.result c.mark_next-mark.ensures c.requires)

pub loop-plan-preserved : goal.loop-plan-preserved
loop-plan-preserved c = skips-on _ _ _ _ c.loop-plan.invariant c.mark_next-mark.result c.mark_next-mark.ensures (sym c.is_dropped.ensures ∙ c.if-not-is_dropped.false)

pub returns : goal.returns
returns c = skips-end _ _ _ _ c.loop-plan.invariant c.loop-plan-test.false
