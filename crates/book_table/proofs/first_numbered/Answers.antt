use mathlib.Core.Path.{sym, ap, ◌∙◌}
use Prim.Native.Nat.{◌+◌, ◌-◌, ◌*◌}
use native.Mathlib.Omega.{arith}
use Rattle.std.specs.Prelude.{Ok}
use Rattle.book_model.specs.PlainList.{finding}
use Rattle.book_model.specs.Table.{entries_from}
use Rattle.book_model.proofs.Laws.{fewer, further, found_none, found_here, found-behind}
use Rattle.book_table.proofs.first_numbered.Goals as goal

pub returns-then-book-at : goal.returns-then-book-at
returns-then-book-at c =
    ap Ok c.entry_at.ensures
    ∙ sym (found_here c.args.owner c.args.book.now (17 + 9 * c.loop-k.k) (c.args.claimed - c.loop-k.k) c.args.number (omega arith) c.if-book-at.true)
    ∙ c.loop-k.invariant

pub loop-k-preserved : goal.loop-k-preserved
loop-k-preserved c =
    (λ i. finding (entries_from c.args.owner c.args.book.now (sym (fewer c.args.claimed c.loop-k.k) i) (sym (further 17 c.loop-k.k) i)) c.args.number)
    ∙ sym (found-behind c.args.owner c.args.book.now (17 + 9 * c.loop-k.k) (c.args.claimed - c.loop-k.k) c.args.number (omega arith) c.if-book-at.false)
    ∙ c.loop-k.invariant

pub returns : goal.returns
returns c = sym (found_none c.args.owner c.args.book.now (17 + 9 * c.loop-k.k) (c.args.claimed - c.loop-k.k) c.args.number (omega arith)) ∙ c.loop-k.invariant
