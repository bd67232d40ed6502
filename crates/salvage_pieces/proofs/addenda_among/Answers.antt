use mathlib.Core.Path.{sym, ◌∙◌}
use native.Mathlib.Omega.{arith}
use Rattle.salvage_pieces.proofs.Counting.{counts-first, counts_end, counts-stop, counts-on}
use Rattle.salvage_pieces.proofs.addenda_among.Goals as goal

pub loop-at-init : goal.loop-at-init
loop-at-init c = counts-first _ _ _ _ _

pub overflow_add-count : goal.overflow_add-count
overflow_add-count c = omega (arith, c.loop-at.invariant.few, c.loop-at-test.true, c.ranges.end)

pub returns : goal.returns
returns c = counts_end _ _ _ _ _ c.loop-at.invariant c.loop-at-test.false

pub returns-then-not-is_own_addendum : goal.returns-then-not-is_own_addendum
returns-then-not-is_own_addendum c = counts-stop _ _ _ _ _ c.loop-at.invariant c.loop-at-test.true c.seen_at-seen.result c.seen_at-seen.ensures.seen (sym c.is_own_addendum.ensures ∙ c.if-not-is_own_addendum.true)

pub loop-at-smaller : goal.loop-at-smaller
loop-at-smaller c = omega (arith, c.loop-at-test.true, c.seen_at-seen.ensures.onward c.loop-at-test.true)

pub loop-at-preserved : goal.loop-at-preserved
loop-at-preserved c = counts-on _ _ _ _ _ c.loop-at.invariant c.loop-at-test.true c.seen_at-seen.result c.seen_at-seen.ensures.seen (c.seen_at-seen.ensures.onward c.loop-at-test.true) (sym c.is_own_addendum.ensures ∙ c.if-not-is_own_addendum.false)
