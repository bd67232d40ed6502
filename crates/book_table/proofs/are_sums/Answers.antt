use mathlib.Core.Path.{◌≡◌, sym, ap, ◌∙◌}
use Prim.Native.Nat.{ℕ, ◌+◌, ◌-◌, ◌*◌}
use native.Mathlib.Omega.{arith}
use Rattle.figures.specs.declared.Figures.{Figures}
use Rattle.figures.specs.Figures.{same, covers, minus, figures_at}
use Rattle.book_model.specs.PlainList.{totals_of}
use Rattle.book_model.specs.Table.{entries_from}
use Rattle.book_model.proofs.Laws.{fewer, further, sums_none, sums-short, sums-behind}
use Rattle.book_table.proofs.are_sums.Goals as goal

pub returns-then-not-holds : goal.returns-then-not-holds
returns-then-not-holds c =
    sym (sums-short c.args.owner c.args.book.now (17 + 9 * c.loop-k.k) (c.args.claimed - c.loop-k.k) c.loop-k.left (omega arith) (ap (covers c.loop-k.left) (sym c.own_figures_at-row.ensures) ∙ sym c.holds.ensures ∙ c.if-not-holds.true))
    ∙ c.loop-k.invariant

pub without-left-requires : goal.without-left-requires
without-left-requires c = sym c.holds.ensures ∙ c.if-not-holds.false

pub loop-k-preserved : goal.loop-k-preserved
loop-k-preserved c =
    (λ i. same ((c.without-left.ensures ∙ ap (minus c.loop-k.left) c.own_figures_at-row.ensures) i) (totals_of (entries_from c.args.owner c.args.book.now (sym (fewer c.args.claimed c.loop-k.k) i) (sym (further 17 c.loop-k.k) i))))
    ∙ sym (sums-behind c.args.owner c.args.book.now (17 + 9 * c.loop-k.k) (c.args.claimed - c.loop-k.k) c.loop-k.left (omega arith) (ap (covers c.loop-k.left) (sym c.own_figures_at-row.ensures) ∙ sym c.holds.ensures ∙ c.if-not-holds.false))
    ∙ c.loop-k.invariant

pub returns : goal.returns
returns c =
    c.are_none.ensures
    ∙ sym (sums_none c.args.owner c.args.book.now (17 + 9 * c.loop-k.k) (c.args.claimed - c.loop-k.k) c.loop-k.left (omega arith))
    ∙ c.loop-k.invariant

pub loop-k-init : goal.loop-k-init
loop-k-init c =
    let all : c.args.claimed - 0 ≡ c.args.claimed = omega arith in
    rw all
    (ap (λ (f : Figures). same f (totals_of (entries_from c.args.owner c.args.book.now c.args.claimed 17)))
    (c.figures_at-left.ensures ∙ ap (λ (n : ℕ). figures_at c.args.book.now (n + 1)) c.block_of.ensures.place))
