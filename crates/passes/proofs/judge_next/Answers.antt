use mathlib.Core.Path.{sym, ◌∙◌}
use borrow.Author.Tests.{lt-leb, le-leb}
use Rattle.std.proofs.result.Match.{err_is}
use Rattle.passes.specs.CheckOrder.{turn_of}
use Rattle.passes.proofs.judge_next.Goals as goal

pub returns-then-body-lt2 : goal.returns-then-body-lt2
unfolding turn_of
returns-then-body-lt2 c = rw (lt-leb _ _ c.if-body-lt2.true)

pub returns-then-not-is_carried : goal.returns-then-not-is_carried
unfolding turn_of
returns-then-not-is_carried c = rw (le-leb _ _ c.if-body-lt2.false, sym c.type_of-kind.ensures, sym c.is_carried.ensures ∙ c.if-not-is_carried.true)

pub returns-then-not-may_follow : goal.returns-then-not-may_follow
unfolding turn_of
returns-then-not-may_follow c = rw (le-leb _ _ c.if-body-lt2.false, sym c.type_of-kind.ensures, sym c.is_carried.ensures ∙ c.if-not-is_carried.false, sym c.may_follow.ensures ∙ c.if-not-may_follow.true)

pub returns-in_err-judge_as : goal.returns-in_err-judge_as
unfolding turn_of
returns-in_err-judge_as c = rw (le-leb _ _ c.if-body-lt2.false, sym c.type_of-kind.ensures, sym c.is_carried.ensures ∙ c.if-not-is_carried.false, sym c.may_follow.ensures ∙ c.if-not-may_follow.false, sym c.judge_as.ensures ∙ c.in_err-judge_as.was) (err_is _ _ c.from_residual.ensures.1)

pub returns : goal.returns
unfolding turn_of
returns c = rw (le-leb _ _ c.if-body-lt2.false, sym c.type_of-kind.ensures, sym c.is_carried.ensures ∙ c.if-not-is_carried.false, sym c.may_follow.ensures ∙ c.if-not-may_follow.false, sym c.judge_as.ensures ∙ c.in_ok-judge_as.was) c.agrees.ensures
