use Rattle.fitting.proofs.Laws.{LinesLeft}
use Rattle.fitting.proofs.first_unfit.Given as goal

abbrev pub invariant-loop-i : goal.invariant-loop-i
invariant-loop-i l = LinesLeft l.text l.row.rows.now l.addenda l.packed-items l.i
