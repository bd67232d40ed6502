use mathlib.Core.Path.{sym, ◌∙◌}
use Prim.Native.Nat.{◌+◌}
use lib.ListN.{length}
use Rattle.judge.proofs.Laws.{within-longer, too-short, too-long, wrong-line, wrong-sizes, wrong-part, nothing-wrong}
use Rattle.judge.proofs.judge_body.Goals as goal

pub returns-then-body-fixed : goal.returns-then-body-fixed
returns-then-body-fixed c = too-short c.args.set c.args.fixed c.args.lines.now c.args.parts.now c.args.body.now c.if-body-fixed.true

pub returns-then-parts-fixed : goal.returns-then-parts-fixed
returns-then-parts-fixed c = too-long c.args.set c.args.fixed c.args.lines.now c.args.parts.now c.args.body.now c.if-body-fixed.false c.if-parts-fixed.true

pub first_wrong-requires : goal.first_wrong-requires
first_wrong-requires c =
    within-longer c.args.lines.now c.args.fixed (length c.args.body.now) c.if-body-fixed.false c.requires.1

pub returns-in-Some : goal.returns-in-Some
returns-in-Some c =
    wrong-line c.args.set c.args.fixed c.args.lines.now c.args.parts.now c.args.body.now c.if-body-fixed.false c.if-parts-fixed.false
    c.in-Some.field (sym c.first_wrong.ensures ∙ c.in-Some.is)

pub returns-then-not-sizes_fill : goal.returns-then-not-sizes_fill
returns-then-not-sizes_fill c =
    wrong-sizes c.args.set c.args.fixed c.args.lines.now c.args.parts.now c.args.body.now c.if-body-fixed.false c.if-parts-fixed.false
    (sym c.first_wrong.ensures ∙ c.in_default.is)
    (sym (c.sizes_fill.ensures (length c.args.lines.now + 1)) ∙ c.if-not-sizes_fill.true)

pub returns-in-Some-first_wrong_part : goal.returns-in-Some-first_wrong_part
returns-in-Some-first_wrong_part c =
    wrong-part c.args.set c.args.fixed c.args.lines.now c.args.parts.now c.args.body.now c.if-body-fixed.false c.if-parts-fixed.false
    (sym c.first_wrong.ensures ∙ c.in_default.is)
    (sym (c.sizes_fill.ensures (length c.args.lines.now + 1)) ∙ c.if-not-sizes_fill.false)
    c.in-Some-first_wrong_part.field (sym c.first_wrong_part.ensures ∙ c.in-Some-first_wrong_part.is)

pub returns : goal.returns
returns c =
    nothing-wrong c.args.set c.args.fixed c.args.lines.now c.args.parts.now c.args.body.now c.if-body-fixed.false c.if-parts-fixed.false
    (sym c.first_wrong.ensures ∙ c.in_default.is)
    (sym (c.sizes_fill.ensures (length c.args.lines.now + 1)) ∙ c.if-not-sizes_fill.false)
    (sym c.first_wrong_part.ensures ∙ c.in_default-first_wrong_part.is)
