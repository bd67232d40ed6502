use mathlib.Core.Path.{sym}
use Rattle.agree.specs.Links.{addenda_kept}
use Rattle.agree.proofs.addenda_kept.Goals as goal

pub returns-then-is_addendum : goal.returns-then-is_addendum
unfolding addenda_kept
returns-then-is_addendum c = rw (sym c.is_addendum.ensures, c.if-is_addendum.true)

pub returns : goal.returns
unfolding addenda_kept
returns c = rw (sym c.is_addendum.ensures, c.if-is_addendum.false)
