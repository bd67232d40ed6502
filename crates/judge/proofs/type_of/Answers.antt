use mathlib.Core.Path.{sym, ◌∙◌}
use borrow.Author.Tests.{lt-leb, le-leb}
use Rattle.judge.specs.Alone.{type_of}
use Rattle.judge.proofs.type_of.Goals as goal

pub returns-then-body-lt2 : goal.returns-then-body-lt2
unfolding type_of
returns-then-body-lt2 c = simp (lt-leb _ _ c.if-body-lt2.true)

pub returns-then-not-all_numeric : goal.returns-then-not-all_numeric
unfolding type_of
returns-then-not-all_numeric c = simp (le-leb _ _ c.if-body-lt2.false, sym c.all_numeric.ensures ∙ c.if-not-all_numeric.true)

pub returns : goal.returns
unfolding type_of
returns c = simp (le-leb _ _ c.if-body-lt2.false, sym c.all_numeric.ensures ∙ c.if-not-all_numeric.false) c.number_in.ensures
