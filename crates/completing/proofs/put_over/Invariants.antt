use Rattle.completing.proofs.Over.{Over}
use Rattle.completing.proofs.put_over.Given as goal

abbrev pub invariant-loop-packed : goal.invariant-loop-packed
invariant-loop-packed l = Over l.set l.text l.row.rows.now l.addenda l.s l.packed-items l.initial.out l.at l.out l.place l.packed-index
