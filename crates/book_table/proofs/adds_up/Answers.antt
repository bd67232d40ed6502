use mathlib.Core.Path.{ap, ◌∙◌}
use mathlib.Core.Bool.{◌&&◌}
use Prim.Native.Nat.{ℕ}
use Rattle.figures.specs.Figures.{same}
use Rattle.book_model.specs.PlainList.{totals_of}
use Rattle.book_model.specs.Table.{running_totals, net_number, entries_from, entries_of, adds_up}
use Rattle.book_model.proofs.Laws.{net-of-sums}
use Rattle.book_table.proofs.adds_up.Goals as goal

pub returns : goal.returns
unfolding adds_up entries_of
returns c =
    let sums = c.are_sums.ensures ∙ ap (λ (n : ℕ). same (running_totals c.args.owner c.args.book.now) (totals_of (entries_from c.args.owner c.args.book.now n 17))) c.requires.0 in
    (λ i. sums i && c.keeps_net.ensures i) ∙ net-of-sums (net_number c.args.owner c.args.book.now) (running_totals c.args.owner c.args.book.now) (totals_of (entries_of c.args.owner c.args.book.now))
