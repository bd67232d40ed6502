use mathlib.Core.Path.{sym, ◌∙◌}
use native.Mathlib.Omega.{arith}
use lib.ListN.{length}
use Rattle.judge.specs.Alone.{line_holds}
use Rattle.judge.proofs.Laws.{lies, blank-holds, other-type-fails, rule-decides}
use Rattle.judge.proofs.line_holds.Goals as goal

pub part_within-part-requires : goal.part_within-part-requires
part_within-part-requires c = omega (arith, c.place_of-start.ensures, lies (length c.args.body.now) c.args.packed c.requires)

pub returns-then-is_left_blank : goal.returns-then-is_left_blank
unfolding line_holds
returns-then-is_left_blank c =
    λ n. rw (sym c.usage_of-usage.ensures, sym c.place_of-start.ensures, sym c.part_within-part.ensures)
    (sym (blank-holds c.args.set _ _ _ _ _ (sym c.is_left_blank.ensures ∙ c.if-is_left_blank.true)))

pub returns-then-not-of_type : goal.returns-then-not-of_type
unfolding line_holds
returns-then-not-of_type c =
    λ n. rw (sym c.usage_of-usage.ensures, sym c.data_type_of-data_type.ensures, sym c.place_of-start.ensures, sym c.part_within-part.ensures)
    (sym (other-type-fails c.args.set _ _ _ _ _ (sym c.is_left_blank.ensures ∙ c.if-is_left_blank.false)
    (sym c.of_type.ensures ∙ c.if-not-of_type.true)))

pub returns : goal.returns
unfolding line_holds
returns c =
    λ n. rw (
      sym c.usage_of-usage.ensures,
      sym c.data_type_of-data_type.ensures,
      sym c.rule_of-rule.ensures,
      sym c.place_of-start.ensures,
      sym c.part_within-part.ensures,
    )
    (c.rule_holds.ensures
    ∙ sym (rule-decides c.args.set _ _ _ _ _ (sym c.is_left_blank.ensures ∙ c.if-is_left_blank.false)
    (sym c.of_type.ensures ∙ c.if-not-of_type.false)))
