use mathlib.Core.Path.{sym, ◌∙◌}
use native.Mathlib.Omega.{arith}
use Rattle.salvage_walk.proofs.Sorts.{passes-first, passes-end, passes-stop, passes_on}
use Rattle.salvage_walk.proofs.end_of.Goals as goal

pub loop-at-init : goal.loop-at-init
loop-at-init c = passes-first _ _ _ _ _

pub returns : goal.returns
returns c = passes-end _ _ _ _ _ c.loop-at.invariant c.loop-at-test.false

pub returns-then-not-is_of_sort : goal.returns-then-not-is_of_sort
returns-then-not-is_of_sort c = passes-stop _ _ _ _ _ c.loop-at.invariant c.loop-at-test.true c.seen_at-seen.result c.seen_at-seen.ensures.seen (sym c.is_of_sort.ensures ∙ c.if-not-is_of_sort.true)

pub loop-at-smaller : goal.loop-at-smaller
loop-at-smaller c = omega (arith, c.loop-at-test.true, c.seen_at-seen.ensures.onward c.loop-at-test.true)

pub loop-at-preserved : goal.loop-at-preserved
loop-at-preserved c = passes_on _ _ _ _ _ c.loop-at.invariant c.loop-at-test.true c.seen_at-seen.result c.seen_at-seen.ensures.seen (sym c.is_of_sort.ensures ∙ c.if-not-is_of_sort.false)
