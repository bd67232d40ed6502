use mathlib.Core.Bool.{◌||◌}
use mathlib.Core.Path.{sym, ◌∙◌, ap}
use lib.Dec.{leb, eqb}
use lib.ListN.{length, get_or}
use Prim.Native.Nat.{ℕ, ◌+◌}
use native.Mathlib.Omega.{arith}
use Rattle.fitting.proofs.Laws.{field_at, none_at, lines-first, line-unfit, line-here, lines-on, lines_none}
use Rattle.fitting.proofs.first_unfit.Goals as goal
use Rattle.fitting.proofs.first_unfit.Goals.{then-not-all_here-packed+else-not-line_fits, else-not-all_here-packed}

pub loop-i-init : goal.loop-i-init
loop-i-init c = lines-first c.args.text.now c.args.row.rows.now c.args.addenda c.lines-packed-items.result.now c.lines-packed-items.ensures.are

pub returns-then-not-line_fits : goal.returns-then-not-line_fits
returns-then-not-line_fits c set = field_at _ _ (omega arith) (line-unfit c.args.text.now c.args.row.rows.now c.args.addenda c.lines-packed-items.result.now c.loop-i.invariant c.loop-i-test.true (λ set. sym (c.line_fits.ensures set (c.loop-i.i + 1)) ∙ c.if-not-line_fits.true) set)

pub returns : goal.returns
returns c set = none_at _ (lines_none c.args.text.now c.args.row.rows.now c.args.addenda c.lines-packed-items.result.now c.loop-i.invariant c.loop-i-test.false set)

pub loop-i-preserved : goal.loop-i-preserved
loop-i-preserved c = lines-on c.args.text.now c.args.row.rows.now c.args.addenda c.lines-packed-items.result.now c.loop-i.invariant c.loop-i-test.true (elim c.if-not-all_here-packed.branch [ then-not-all_here-packed+else-not-line_fits w ↦ λ set. sym (w.line_fits.ensures set (c.loop-i.i + 1)) ∙ w.if-not-line_fits.false | else-not-all_here-packed w ↦ line-here c.args.text.now c.args.row.rows.now c.args.addenda c.lines-packed-items.result.now c.loop-i.invariant c.loop-i-test.true _ c.lines-packed-items.ensures.within (c.lies_within-all_here.ensures ∙ ap (λ (n : ℕ). eqb n 0 || leb (get_or c.args.row.rows.now 1 0 + 0 + n) (length c.args.text.now)) c.fixed_length.ensures) w.if-not-all_here-packed.false ])
