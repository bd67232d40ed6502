use native.Mathlib.Nat.{add_assoc}
use native.Mathlib.Omega.{arith}
use mathlib.Core.List.{List}
use mathlib.Core.Path.{sym, ◌∙◌, ap}
use Prim.Native.Nat.{ℕ, ◌+◌}
use lib.ListN.{get_or, drop}
use Rattle.judge.specs.Alone.{stated_size, first_wrong_part}
use Rattle.layout.specs.Packing.{sized_of, sized_from}
use Rattle.layout.specs.Fault.{as_field}
use Rattle.layout.proofs.Fault.{a-field}
use Rattle.judge.proofs.Laws.{part-wrong, part_right, part_none, past-part}
use borrow.Author.Rules.{rules}
use Rattle.judge.proofs.first_wrong_part.Goals as goal

pub returns-then-not-of_type : goal.returns-then-not-of_type
returns-then-not-of_type c =
    sym (a-field (c.args.before + 1 + c.loop-i.i) (omega arith))
    ∙ ap as_field (sym (part-wrong c.args.set c.args.parts.now c.args.body.now (c.args.before + 1 + c.loop-i.i) c.loop-i.i (drop c.loop-i.at c.args.body.now) (search rules) (rw (sym (c.stated_size-size.ensures (c.args.before + 1 + c.loop-i.i)), sym c.part_of.ensures, sym c.data_type_of-data_type.ensures) (sym c.of_type.ensures ∙ c.if-not-of_type.true))) ∙ c.loop-i.invariant)

pub loop-i-preserved : goal.loop-i-preserved
loop-i-preserved c = rw (c.past-at.ensures, c.stated_size-size.ensures (c.args.before + 1 + c.loop-i.i), sym (add_assoc (c.args.before + 1) c.loop-i.i 1)) (ap (λ (l : List ℕ). first_wrong_part c.args.set (sized_from ((c.args.before + 1 + c.loop-i.i) + 1) (drop (c.loop-i.i + 1) c.args.parts.now)) c.args.body.now l) (sym (past-part c.args.body.now c.loop-i.at (stated_size c.args.set (sized_of (c.args.before + 1 + c.loop-i.i) (get_or c.args.parts.now c.loop-i.i 0)) c.args.body.now))) ∙ sym (part_right c.args.set c.args.parts.now c.args.body.now (c.args.before + 1 + c.loop-i.i) c.loop-i.i (drop c.loop-i.at c.args.body.now) (search rules) (rw (sym (c.stated_size-size.ensures (c.args.before + 1 + c.loop-i.i)), sym c.part_of.ensures, sym c.data_type_of-data_type.ensures) (sym c.of_type.ensures ∙ c.if-not-of_type.false))) ∙ c.loop-i.invariant)

pub returns : goal.returns
returns c =
    ap as_field (sym (part_none c.args.set c.args.parts.now c.args.body.now (c.args.before + 1 + c.loop-i.i) c.loop-i.i (drop c.loop-i.at c.args.body.now) (search rules)) ∙ c.loop-i.invariant)
