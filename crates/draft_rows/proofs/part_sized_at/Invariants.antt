use Rattle.draft_rows.proofs.Parts.{Left}
use Rattle.draft_rows.proofs.part_sized_at.Given as goal

abbrev pub invariant-loop-i : goal.invariant-loop-i
invariant-loop-i l = Left l.row.rows.now l.part-items l.first l.i
