use Rattle.slow_figures.proofs.Laws.{stopped}
use Rattle.standing.specs.Standing.{onward}
use native.Mathlib.Nat.{zero-add}
use Rattle.slow_figures.proofs.without_bundle.Goals as goal

pub returns : goal.returns
unfolding onward
returns c = λ set file offset. let st = stopped c.args.s c.requires.1 in simp (zero-add, st.whole-debit, st.whole-credit, st.letter-debit, st.letter-credit, st.bundle-debit, st.bundle-credit, st.micr)
