use mathlib.Core.Path.{ap, ◌∙◌}
use Prim.Native.Nat.{ℕ, ◌+◌}
use lib.ListN.{get_or}
use Rattle.figures.specs.Figures.{figures_at}
use Rattle.net.specs.Net.{is_net}
use Rattle.book_model.specs.PlainList.{position_of}
use Rattle.book_table.proofs.keeps_net.Goals as goal

pub returns : goal.returns
returns c =
    let number = c.number_at.ensures ∙ ap (λ (n : ℕ). get_or c.args.book.now (n + 7) 0) c.block_of-block.ensures.place in
    let totals = c.figures_at.ensures ∙ ap (λ (n : ℕ). figures_at c.args.book.now (n + 1)) c.block_of-block.ensures.place in
    c.is_net.ensures ∙ (λ i. is_net (number i) (position_of (totals i)))
