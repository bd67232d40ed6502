use mathlib.Core.Path.{sym, ◌∙◌}
use Prim.Native.Nat.{◌+◌, ◌-◌, ◌*◌}
use native.Mathlib.Omega.{arith}
use Rattle.book_model.specs.PlainList.{is_taken}
use Rattle.book_model.specs.Table.{taken_from}
use Rattle.book_model.proofs.Laws.{fewer}
use Rattle.book_model.proofs.Taken.{further, taken_none, taken_here, taken-behind}
use Rattle.taken_list.proofs.is_among.Goals as goal

pub returns-then-list-at : goal.returns-then-list-at
returns-then-list-at c =
    sym (taken_here c.args.owner c.args.list.now (1 + 2 * c.loop-place.place) (c.args.claimed - c.loop-place.place) c.args.number (omega arith) c.if-list-at.true) ∙ c.loop-place.invariant

pub loop-place-preserved : goal.loop-place-preserved
loop-place-preserved c =
    (λ i. is_taken c.args.number (taken_from c.args.owner c.args.list.now (sym (fewer c.args.claimed c.loop-place.place) i) (sym (further c.loop-place.place) i)))
    ∙ sym (taken-behind c.args.owner c.args.list.now (1 + 2 * c.loop-place.place) (c.args.claimed - c.loop-place.place) c.args.number (omega arith) c.if-list-at.false)
    ∙ c.loop-place.invariant

pub returns : goal.returns
returns c = sym (taken_none c.args.owner c.args.list.now (1 + 2 * c.loop-place.place) (c.args.claimed - c.loop-place.place) c.args.number (omega arith)) ∙ c.loop-place.invariant
