use mathlib.Core.Path.{sym, ap, ◌∙◌}
use Prim.Native.Nat.{◌+◌, ◌-◌, ◌*◌}
use native.Mathlib.Omega.{arith}
use lib.Seq.{sets}
use Rattle.figures.specs.declared.Figures.{Figures}
use Rattle.book_model.specs.PlainList.{entry}
use Rattle.book_model.specs.Table.{row_of, cleared}
use Rattle.book_model.proofs.Laws.{fewer, further}
use Rattle.book_gaps.proofs.Laws.{cleared-none, cleared-here, cleared-behind}
use Rattle.book_gaps.proofs.clear_row.Goals as goal

pub returns-then-book-at : goal.returns-then-book-at
returns-then-book-at c =
    c.put_row.ensures
    ∙ ap (λ (f : Figures). sets c.loop-k.book (17 + 9 * c.loop-k.k) (row_of 0 (entry 0 0 f))) c.none-figures.ensures
    ∙ sym (cleared-here c.args.owner c.args.number c.loop-k.book (17 + 9 * c.loop-k.k) (c.args.claimed - c.loop-k.k) (omega arith) c.if-book-at.true)
    ∙ c.loop-k.invariant.0

pub loop-k-preserved : goal.loop-k-preserved
loop-k-preserved c = (
  (λ i. cleared c.args.owner c.args.number c.loop-k.book (sym (fewer c.args.claimed c.loop-k.k) i) (sym (further 17 c.loop-k.k) i))
      ∙ sym (cleared-behind c.args.owner c.args.number c.loop-k.book (17 + 9 * c.loop-k.k) (c.args.claimed - c.loop-k.k) (omega arith) c.if-book-at.false)
      ∙ c.loop-k.invariant.0,
  c.loop-k.invariant.1,
)

pub returns : goal.returns
returns c =
    sym (cleared-none c.args.owner c.args.number c.loop-k.book (17 + 9 * c.loop-k.k) (c.args.claimed - c.loop-k.k) (omega arith)) ∙ c.loop-k.invariant.0
