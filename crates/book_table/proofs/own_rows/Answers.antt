use mathlib.Core.Path.{◌≡◌, sym}
use Prim.Native.Nat.{◌+◌, ◌-◌, ◌*◌}
use native.Mathlib.Omega.{arith}
use lib.ListN.{length}
use Rattle.book_model.specs.Table.{entries_from}
use Rattle.book_model.proofs.Laws.{fewer, further, count_none, count-own, count-other}
use Rattle.book_table.proofs.own_rows.Goals as goal
use Rattle.book_table.proofs.own_rows.Goals.{then-book-k, else-book-k}

pub loop-k-preserved : goal.loop-k-preserved
loop-k-preserved c =
    let next : length (entries_from c.args.owner c.args.book.now (c.args.claimed - (c.loop-k.k + 1)) (17 + 9 * (c.loop-k.k + 1)))
    ≡ length (entries_from c.args.owner c.args.book.now (c.args.claimed - c.loop-k.k - 1) (17 + 9 * c.loop-k.k + 9)) =
    λ i. length (entries_from c.args.owner c.args.book.now (sym (fewer c.args.claimed c.loop-k.k) i) (sym (further 17 c.loop-k.k) i)) in
    elim c.if-book-k.branch [
      | then-book-k w ↦ (omega (arith, w.count-is, c.loop-k.invariant.0, next, count-own c.args.owner c.args.book.now (17 + 9 * c.loop-k.k) (c.args.claimed - c.loop-k.k) (omega arith) w.if-book-k.true), omega (arith, w.count-is))
      | else-book-k w ↦ (omega (arith, w.count-is, c.loop-k.invariant.0, next, count-other c.args.owner c.args.book.now (17 + 9 * c.loop-k.k) (c.args.claimed - c.loop-k.k) (omega arith) w.if-book-k.false), omega (arith, w.count-is))
    ]

pub returns : goal.returns
returns c = omega (arith, c.loop-k.invariant.0, count_none c.args.owner c.args.book.now (17 + 9 * c.loop-k.k) (c.args.claimed - c.loop-k.k) (omega arith))
