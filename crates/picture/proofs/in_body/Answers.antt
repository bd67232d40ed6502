use mathlib.Core.Path.{sym, ◌∙◌}
use native.Mathlib.Omega.{arith}
use borrow.Author.Tests.{ne_eqb, lt-leb, le-leb}
use Rattle.std.proofs.result.Match.{err_is}
use Rattle.judge.proofs.Laws.{image-within}
use Rattle.picture.specs.Picture.{in_body}
use Rattle.picture.proofs.in_body.Goals as goal

pub returns-then-body-lt2 : goal.returns-then-body-lt2
unfolding in_body
returns-then-body-lt2 c = simp (lt-leb _ _ c.if-body-lt2.true)

pub returns-then-type_of-ne-TYPE : goal.returns-then-type_of-ne-TYPE
unfolding in_body
returns-then-type_of-ne-TYPE c = simp (le-leb _ _ c.if-body-lt2.false, sym c.type_of.ensures, ne_eqb _ _ c.if-type_of-ne-TYPE.true)

pub returns-in_err-judge_image : goal.returns-in_err-judge_image
unfolding in_body
returns-in_err-judge_image c =
    rw (le-leb _ _ c.if-body-lt2.false, sym c.type_of.ensures ∙ c.if-type_of-ne-TYPE.false, sym c.judge_image.ensures ∙ c.in_err-judge_image.was)
    (err_is _ _ c.from_residual.ensures.1)

pub overflow_add-result : goal.overflow_add-result
overflow_add-result c = omega (arith, c.image_start.ensures, image-within c.args.set c.args.body.now (sym c.judge_image.ensures ∙ c.in_ok-judge_image.was))

pub returns : goal.returns
unfolding in_body
returns c = simp (le-leb _ _ c.if-body-lt2.false, sym c.type_of.ensures ∙ c.if-type_of-ne-TYPE.false, sym c.judge_image.ensures ∙ c.in_ok-judge_image.was, c.image_start.ensures, c.image_size.ensures)
