use borrow.Author.Tests.{lt-leb, le-leb}
use Rattle.judge.specs.Alone.{judged_record}
use Rattle.judge.proofs.judge_record.Goals as goal

pub returns-then-body-lt2 : goal.returns-then-body-lt2
unfolding judged_record
returns-then-body-lt2 c = simp (lt-leb _ _ c.if-body-lt2.true)

pub returns : goal.returns
unfolding judged_record
returns c = simp (le-leb _ _ c.if-body-lt2.false, c.judge_as.ensures, c.type_of.ensures)
