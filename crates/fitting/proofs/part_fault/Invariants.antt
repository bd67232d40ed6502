use Rattle.fitting.proofs.Laws.{PartsLeft, Faulted}
use Rattle.fitting.proofs.part_fault.Given as goal

abbrev pub invariant-loop-i : goal.invariant-loop-i
invariant-loop-i l = PartsLeft l.row.rows.now l.part-items l.first (Faulted l.row.rows.now l.part-items l.first l.set l.text l.i) l.place l.i
