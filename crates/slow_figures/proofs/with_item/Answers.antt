use Rattle.slow_figures.proofs.Laws.{no_other}
use Rattle.standing.specs.Standing.{onward}
use native.Mathlib.Nat.{zero-add}
use Rattle.slow_figures.proofs.with_item.Goals as goal

pub returns : goal.returns
unfolding onward
returns c = let no = no_other c.args.kind c.requires.1 in rw (c.sums_and.ensures, c.sums_and-2.ensures, c.sums_and-3.ensures, c.cents_and.ensures, c.micr_at.ensures.0, c.stated_at.ensures, c.item_type.ensures, c.item_sums-sums.ensures.0) (simp (zero-add, no.letter, no.bundle, no.view, no.control, c.requires.1))
