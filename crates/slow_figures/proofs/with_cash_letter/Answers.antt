use Rattle.slow_figures.proofs.Laws.{stopped}
use Rattle.standing.specs.Standing.{onward}
use native.Mathlib.Nat.{zero-add}
use Rattle.slow_figures.proofs.with_cash_letter.Goals as goal

pub returns : goal.returns
unfolding onward
returns c = let st = stopped c.args.s c.requires.1 in rw (c.no_sums.ensures, c.indicator_at.ensures) (simp (zero-add, st.whole-debit, st.whole-credit, st.bundle-debit, st.bundle-credit, st.micr))
