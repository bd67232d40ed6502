use Rattle.fitting.proofs.Laws.{SizesLeft}
use Rattle.fitting.proofs.size_of.Given as goal

abbrev pub invariant-loop-part : goal.invariant-loop-part
invariant-loop-part l = SizesLeft l.row.rows.now l.part-items l.size l.part-index
