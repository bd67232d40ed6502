use mathlib.Core.Path.{ap, ◌∙◌}
use Prim.Native.Nat.{ℕ, ◌+◌}
use mir.Syntax.{w64}
use mir.ValLaws.{to_z-of_z}
use lib.IntN.{ℤ, ◌+ℤ◌}
use lib.ListN.{get_or}
use Rattle.figures.proofs.Laws.{covered}
use Rattle.net.specs.Net.{net_of, signed, within}
use Rattle.net.proofs.Laws.{net-less, net-said}
use Rattle.book_model.specs.PlainList.{position_of}
use Rattle.book_model.specs.Table.{running_totals, net_number}
use Rattle.book_table.proofs.keeps_range_without.Goals as goal

pub returns : goal.returns
returns c =
    let gone = c.args.gone.sums in
    let number = c.number_at.ensures ∙ ap (λ (n : ℕ). get_or c.args.book.now (n + 7) 0) c.block_of.ensures.place in
    let said = to_z-of_z w64 c.signed_of-position.result (record { sfits = c.signed_of-position.type_inv }) ∙ c.signed_of-position.ensures ∙ ap signed number ∙ net-said (net_number c.args.owner c.args.book.now) (position_of (running_totals c.args.owner c.args.book.now)) c.requires.0 in
    let totals = running_totals c.args.owner c.args.book.now in
    let in-it = covered totals c.args.gone c.requires.1 in
    c.stays_within.ensures ∙ ap (λ (z : ℤ). within (z +ℤ net_of gone.debit.0 gone.credit.0)) said
    ∙ ap within (net-less totals.sums.credit.0 totals.sums.debit.0 gone.credit.0 gone.debit.0 in-it.credit in-it.debit)
