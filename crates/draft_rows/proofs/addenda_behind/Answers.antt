use mathlib.Core.Path.{◌≡◌, sym, ◌∙◌}
use Prim.Native.Nat.{◌-◌}
use lib.ListN.{length, get_or, take, drop}
use borrow.Rule.Slice.PartAt.{part_to_end}
use borrow.Author.Rules.{rules}
use Rattle.draft_rows.proofs.Rows.{behind-none, counted-first, counted-end, counted-other, counted-on}
use Rattle.draft_rows.proofs.addenda_behind.Goals as goal

pub returns-then-rows-lt10 : goal.returns-then-rows-lt10
returns-then-rows-lt10 c = (behind-none (get_or c.args.rows.now 0 0) c.args.rows.now c.if-rows-lt10.true, search rules)

pub loop-row-init : goal.loop-row-init
loop-row-init c =
    let from : c.into_iter-row-iterator.result.rest.now ≡ take (length c.args.rows.now - 10) (drop 10 c.args.rows.now) = search rules in
    counted-first _ _ _ _ (search rules) (from ∙ part_to_end c.args.rows.now 10)

pub returns-in-None : goal.returns-in-None
returns-in-None c = (counted-end c.loop-row.invariant c.if-rows-lt10.false c.in-None.ensures.steps.1.0, let w = c.loop-row.invariant.within in search rules)

pub returns-then-not-is_own_addendum : goal.returns-then-not-is_own_addendum
returns-then-not-is_own_addendum c = (counted-other c.loop-row.invariant _ _ c.in-Some.ensures.steps.1.0 c.in-Some.ensures.steps.1.1 c.if-rows-lt10.false (sym c.is_own_addendum.ensures ∙ c.if-not-is_own_addendum.true), let w = c.loop-row.invariant.within in search rules)

pub loop-row-preserved : goal.loop-row-preserved
loop-row-preserved c = counted-on c.loop-row.invariant _ _ c.in-Some.ensures.steps.1.0 c.in-Some.ensures.steps.1.1 (sym c.is_own_addendum.ensures ∙ c.if-not-is_own_addendum.false) c.in-Some.ensures.steps.0
