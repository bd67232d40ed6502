use mathlib.Core.Path.{◌≡◌, sym, ◌∙◌}
use Prim.Native.Nat.{◌+◌, ◌-◌, ◌*◌}
use native.Mathlib.Omega.{arith}
use Rattle.book_model.proofs.Laws.{fewer, further}
use Rattle.book_gaps.proofs.Laws.{used_in, used-none, used-here, used-behind}
use Rattle.book_gaps.proofs.rows_used.Goals.{then-is_owner, else-is_owner}
use Rattle.book_gaps.proofs.rows_used.Goals as goal

pub loop-k-preserved : goal.loop-k-preserved
loop-k-preserved c =
    let next : used_in c.args.book.now (c.args.claimed - (c.loop-k.k + 1)) (17 + 9 * (c.loop-k.k + 1)) ≡ used_in c.args.book.now (c.args.claimed - c.loop-k.k - 1) (17 + 9 * c.loop-k.k + 9) =
    λ i. used_in c.args.book.now (sym (fewer c.args.claimed c.loop-k.k) i) (sym (further 17 c.loop-k.k) i) in
    elim c.if-is_owner.branch [
      | then-is_owner w ↦ (omega (arith, w.count-is, c.loop-k.invariant.0, next, used-here c.args.book.now (17 + 9 * c.loop-k.k) (c.args.claimed - c.loop-k.k) (omega arith) (sym c.is_owner.ensures ∙ w.if-is_owner.true)), omega (arith, w.count-is))
      | else-is_owner w ↦ (omega (arith, w.count-is, c.loop-k.invariant.0, next, used-behind c.args.book.now (17 + 9 * c.loop-k.k) (c.args.claimed - c.loop-k.k) (omega arith) (sym c.is_owner.ensures ∙ w.if-is_owner.false)), omega (arith, w.count-is))
    ]

pub returns : goal.returns
returns c = record { count = omega (arith, c.loop-k.invariant.0, used-none c.args.book.now (17 + 9 * c.loop-k.k) (c.args.claimed - c.loop-k.k) (omega arith)); within = omega arith }
