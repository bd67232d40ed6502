use Rattle.slow_figures.proofs.Laws.{stopped}
use Rattle.standing.specs.Standing.{onward}
use native.Mathlib.Nat.{zero-add}
use Rattle.slow_figures.proofs.with_view.Goals as goal

pub returns : goal.returns
unfolding onward
returns c = let st = stopped c.args.s c.requires.1 in rw (c.sums_and.ensures, c.sums_and-2.ensures, c.sums_and-3.ensures, c.view_sums-view.ensures, c.number_at.ensures) (simp (zero-add, st.whole-debit, st.whole-credit, st.letter-debit, st.letter-credit, st.bundle-debit, st.bundle-credit, st.micr))
