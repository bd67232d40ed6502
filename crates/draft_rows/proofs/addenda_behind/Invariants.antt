use Rattle.draft_rows.proofs.Rows.{Counted}
use Rattle.draft_rows.proofs.addenda_behind.Given as goal

abbrev pub invariant-loop-row : goal.invariant-loop-row
invariant-loop-row l = Counted l.item l.rows l.row-iterator.rest.now l.row-iterator.size l.count
