use mathlib.Core.Path.{ap, ◌∙◌}
use Prim.Native.Nat.{ℕ, ◌+◌}
use native.Mathlib.Omega.{arith}
use lib.ListN.{get_or, set, length-set}
use lib.Seq.{sets}
use Rattle.figures.specs.declared.Figures.{Figures}
use Rattle.figures.specs.Figures.{plus, figures_at}
use Rattle.net.specs.Net.{within}
use Rattle.book_model.specs.PlainList.{position_of}
use Rattle.book_model.specs.Table.{block_with}
use Rattle.book_table.proofs.raise_head.Goals as goal

pub overflow_add-last : goal.overflow_add-last
overflow_add-last c = omega (arith, (c.number_at.ensures ∙ ap (λ (n : ℕ). get_or c.args.book.now n 0) c.block_of-block.ensures.place), c.requires.2)

pub raised-requires : goal.raised-requires
raised-requires c = rw (c.figures_at-totals.ensures, c.block_of-block.ensures.place) c.requires.3

pub put_block-requires : goal.put_block-requires
put_block-requires c = (simp length-set (omega (arith, c.block_of-block.ensures.within.1, c.requires.0)), ap (λ (f : Figures). within (position_of f)) (c.raised.ensures ∙ ap (λ (f : Figures). plus f c.args.added) (c.figures_at-totals.ensures ∙ ap (λ (n : ℕ). figures_at c.args.book.now (n + 1)) c.block_of-block.ensures.place)) ∙ c.requires.4)

pub shape_of-book : goal.shape_of-book
shape_of-book c = c.put_block.auto.book ∙ simp length-set

pub returns : goal.returns
returns c =
    let block = c.block_of-block.ensures.place in
    let last = (c.number_at.ensures ∙ ap (λ (n : ℕ). get_or c.args.book.now n 0) c.block_of-block.ensures.place) in
    let totals = (c.raised.ensures ∙ ap (λ (f : Figures). plus f c.args.added) (c.figures_at-totals.ensures ∙ ap (λ (n : ℕ). figures_at c.args.book.now (n + 1)) c.block_of-block.ensures.place)) in
    c.put_block.ensures ∙ (λ i. sets (set c.args.book.now 0 (get_or c.args.book.now 0 0 + c.args.rows)) (block i) (block_with (last i + c.args.letters) (totals i)))
