use mathlib.Core.Path.{ap, ◌∙◌}
use Prim.Native.Nat.{ℕ, ◌+◌}
use native.Mathlib.Omega.{arith}
use lib.ListN.{get_or}
use lib.Seq.{sets}
use Rattle.figures.specs.declared.Figures.{Figures}
use Rattle.figures.specs.Figures.{minus, figures_at}
use Rattle.net.specs.Net.{within}
use Rattle.book_model.specs.PlainList.{position_of}
use Rattle.book_model.specs.Table.{block_with}
use Rattle.book_table.proofs.lower_head.Goals as goal

pub lowered-requires : goal.lowered-requires
lowered-requires c = rw (c.figures_at-totals.ensures, c.block_of-block.ensures.place) c.requires.1

pub put_block-requires : goal.put_block-requires
put_block-requires c =
    (omega (arith, c.block_of-block.ensures.within.1), ap (λ (f : Figures). within (position_of f)) (c.lowered.ensures ∙ ap (λ (f : Figures). minus f c.args.gone) (c.figures_at-totals.ensures ∙ ap (λ (n : ℕ). figures_at c.args.book.now (n + 1)) c.block_of-block.ensures.place)) ∙ c.requires.2)

pub returns : goal.returns
returns c =
    let block = c.block_of-block.ensures.place in
    let last = (c.number_at-last.ensures ∙ ap (λ (n : ℕ). get_or c.args.book.now n 0) c.block_of-block.ensures.place) in
    let totals = (c.lowered.ensures ∙ ap (λ (f : Figures). minus f c.args.gone) (c.figures_at-totals.ensures ∙ ap (λ (n : ℕ). figures_at c.args.book.now (n + 1)) c.block_of-block.ensures.place)) in
    c.put_block.ensures ∙ (λ i. sets c.args.book.now (block i) (block_with (last i) (totals i)))
