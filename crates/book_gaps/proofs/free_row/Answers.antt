use mathlib.Core.Path.{◌≡◌, sym, ◌∙◌}
use Prim.Native.Nat.{◌+◌, ◌-◌, ◌*◌}
use native.Mathlib.Omega.{arith}
use Rattle.book_model.proofs.Laws.{fewer, further}
use Rattle.book_gaps.specs.Spots.{spot_from}
use Rattle.book_gaps.proofs.Laws.{spot-none, spot-here, spot-behind}
use Rattle.book_gaps.proofs.free_row.Goals as goal

pub returns-then-not-is_owner : goal.returns-then-not-is_owner
returns-then-not-is_owner c =
    let left : c.args.claimed - 1 - c.loop-k.k ≡ c.args.claimed - c.loop-k.k - 1 = omega arith in
    rw left (sym (spot-here c.args.book.now (c.args.place + 9 * c.loop-k.k) (c.args.claimed - c.loop-k.k) (omega arith) (sym c.is_owner.ensures ∙ c.if-not-is_owner.true)) ∙ c.loop-k.invariant)

pub loop-k-preserved : goal.loop-k-preserved
loop-k-preserved c =
    (λ i. spot_from c.args.book.now (sym (fewer c.args.claimed c.loop-k.k) i) (sym (further c.args.place c.loop-k.k) i))
    ∙ sym (spot-behind c.args.book.now (c.args.place + 9 * c.loop-k.k) (c.args.claimed - c.loop-k.k) (omega arith) (sym c.is_owner.ensures ∙ c.if-not-is_owner.false))
    ∙ c.loop-k.invariant

pub returns : goal.returns
returns c =
    let none : c.args.claimed - c.args.claimed ≡ 0 = omega arith in
    let end : c.loop-k.k ≡ c.args.claimed = omega arith in
    sym (rw (end, none) at (spot-none c.args.book.now (c.args.place + 9 * c.loop-k.k) (c.args.claimed - c.loop-k.k) (omega arith))) ∙ (rw (end, none) at c.loop-k.invariant)
