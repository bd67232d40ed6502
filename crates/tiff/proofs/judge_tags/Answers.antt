use mathlib.Core.Path.{◌≡◌, sym, ◌∙◌}
use mathlib.Core.Bool.{false, true}
use Rattle.tiff.specs.Image.{is_inside, IsFirst}
use borrow.Author.Tests.{le-leb, lt-leb}
use Rattle.tiff.specs.Judged.{tags_of}
use Rattle.tiff.proofs.Laws.{not-inside, inside-is, first-entries}
use Rattle.tiff.proofs.judge_tags.Goals as goal

pub returns-then-image-lt8 : goal.returns-then-image-lt8
unfolding tags_of
returns-then-image-lt8 c = simp (lt-leb _ _ c.if-image-lt8.true)

pub returns-then-not-is_marked : goal.returns-then-not-is_marked
unfolding tags_of
returns-then-not-is_marked c = simp (le-leb _ _ c.if-image-lt8.false, sym c.is_marked.ensures ∙ c.if-not-is_marked.true)

pub returns-in_default : goal.returns-in_default
unfolding tags_of
returns-in_default c = simp (le-leb _ _ c.if-image-lt8.false, sym c.is_marked.ensures ∙ c.if-not-is_marked.false, not-inside c.args.image.now c.in_default.ensures)

pub returns-then-not-values_inside : goal.returns-then-not-values_inside
unfolding tags_of
returns-then-not-values_inside c =
    let inside : is_inside c.args.image.now ≡ false = sym (inside-is c.in-Some.ensures) ∙ rw (sym c.values_inside.ensures ∙ c.if-not-values_inside.true) in
    simp (le-leb _ _ c.if-image-lt8.false, sym c.is_marked.ensures ∙ c.if-not-is_marked.false, inside)

pub returns-then-not-strip_inside : goal.returns-then-not-strip_inside
unfolding tags_of
returns-then-not-strip_inside c =
    let inside : is_inside c.args.image.now ≡ false = sym (inside-is c.in-Some.ensures) ∙ rw (sym c.values_inside.ensures ∙ c.if-not-values_inside.false, sym c.strip_inside.ensures ∙ c.if-not-strip_inside.true) in
    simp (le-leb _ _ c.if-image-lt8.false, sym c.is_marked.ensures ∙ c.if-not-is_marked.false, inside)

pub returns-then-low-lt65536 : goal.returns-then-low-lt65536
unfolding tags_of
returns-then-low-lt65536 c =
    let inside : is_inside c.args.image.now ≡ true = sym (inside-is c.in-Some.ensures) ∙ rw (sym c.values_inside.ensures ∙ c.if-not-values_inside.false, sym c.strip_inside.ensures ∙ c.if-not-strip_inside.false) in
    rw (le-leb _ _ c.if-image-lt8.false, sym c.is_marked.ensures ∙ c.if-not-is_marked.false, inside, sym (first-entries c.in-Some.ensures), sym c.lowest_disordered-low.ensures, lt-leb _ _ c.if-low-lt65536.true)

pub returns : goal.returns
unfolding tags_of
returns c =
    let d = c.in-Some.directory in
    let inside : is_inside c.args.image.now ≡ true = sym (inside-is c.in-Some.ensures) ∙ rw (sym c.values_inside.ensures ∙ c.if-not-values_inside.false, sym c.strip_inside.ensures ∙ c.if-not-strip_inside.false) in
    let first : IsFirst c.args.image.now d.image.now d.first d.count = c.in-Some.ensures in
    rw (le-leb _ _ c.if-image-lt8.false, sym c.is_marked.ensures ∙ c.if-not-is_marked.false, inside, sym (first-entries c.in-Some.ensures), sym c.lowest_disordered-low.ensures, le-leb _ _ c.if-low-lt65536.false, sym first.same) c.required_tags.ensures
