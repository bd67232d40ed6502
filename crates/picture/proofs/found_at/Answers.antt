use mathlib.Core.Path.{◌≡◌, sym, ◌∙◌, ap}
use Rattle.std.proofs.result.Match.{err_is}
use Rattle.std.specs.Prelude.{Some, None, Err}
use borrow.Author.Rules.{rules}
use Rattle.picture.specs.declared.Unfound.TheVariants as unfounds
use borrow.Author.Tests.{lt-leb, le-leb}
use Rattle.frame.specs.Frames.{frame_at}
use Rattle.picture.specs.Picture.{picture_at}
use Rattle.picture.proofs.Laws.{body-fits}
use Rattle.picture.proofs.found_at.Goals as goal

pub returns-then-file-lt1 : goal.returns-then-file-lt1
unfolding picture_at
returns-then-file-lt1 c = simp (lt-leb _ _ c.if-file-lt1.true)

pub returns-then-file-gt268435456 : goal.returns-then-file-gt268435456
unfolding picture_at
returns-then-file-gt268435456 c = simp (le-leb _ _ c.if-file-lt1.false, lt-leb _ _ c.if-file-gt268435456.true)

pub returns-in_err-start : goal.returns-in_err-start
unfolding picture_at
returns-in_err-start c =
    let none : c.frame.result ≡ None = search rules in
    let cut : c.in_err-start.field-0.0 ≡ unfounds.Cut = search rules in
    simp (le-leb _ _ c.if-file-lt1.false, le-leb _ _ c.if-file-gt268435456.false, ap (frame_at c.args.file.now) (sym c.at.ensures) ∙ sym c.frame.ensures ∙ none)
    (err_is _ _ c.from_residual.ensures.1 ∙ ap (λ u. Err u) cut)

pub in_body-requires : goal.in_body-requires
in_body-requires c =
    let some : c.frame.result ≡ Some c.in_ok-start.field-0 = search rules in
    rw c.part_of.ensures (body-fits c.args.file.now c.at.result.offset _ _ (sym c.frame.ensures ∙ some) c.if-file-gt268435456.false)

pub returns : goal.returns
unfolding picture_at
returns c =
    let some : c.frame.result ≡ Some c.in_ok-start.field-0 = search rules in
    simp (le-leb _ _ c.if-file-lt1.false, le-leb _ _ c.if-file-gt268435456.false, ap (frame_at c.args.file.now) (sym c.at.ensures) ∙ sym c.frame.ensures ∙ some, sym c.set_of-set.ensures, sym c.part_of.ensures) c.in_body.ensures
