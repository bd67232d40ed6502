use Rattle.completing.proofs.Laws.{Left}
use Rattle.completing.proofs.put_lines.Given as goal

abbrev pub invariant-loop-packed : goal.invariant-loop-packed
invariant-loop-packed l = Left l.set l.text l.row.rows.now l.addenda l.s l.packed-items l.initial.out l.at l.out l.place l.packed-index
