use Rattle.draft_survey.proofs.Laws.{ended-written, ended-short}
use Rattle.draft_survey.proofs.rows_ended.Goals as goal

pub returns-then-s-eq99 : goal.returns-then-s-eq99
returns-then-s-eq99 c file past sheet o size = ended-written o c.args.bytes size c.if-s-eq99.true

pub returns : goal.returns
returns c file past sheet o size = ended-short o c.args.bytes size c.if-s-eq99.false
