use mathlib.Core.Path.{sym, ap, ◌∙◌}
use Prim.Native.Nat.{ℕ, ◌+◌}
use native.Mathlib.Omega.{arith}
use mir.Syntax.{w64}
use mir.ValLaws.{to_z-of_z}
use lib.ListN.{length, get_or}
use Rattle.std.specs.Prelude.{Ok}
use Rattle.std.proofs.lemmas.Result.{err_from_is_err_and}
use Rattle.figures.specs.Figures.{figures_at}
use Rattle.net.specs.Net.{signed}
use Rattle.net.proofs.Laws.{net-said}
use Rattle.book_model.specs.PlainList.{position_of}
use Rattle.book_model.specs.Table.{is_owner, rows_claimed, running_totals, net_number, entries_from, entries_of, is_book}
use Rattle.book_model.specs.Calls.{totals_answer}
use Rattle.book_model.proofs.Laws.{sound}
use Rattle.book.proofs.Asked.{not_for, is_for}
use Rattle.book.proofs.totals.Goals as goal

pub returns-in_err-claimed : goal.returns-in_err-claimed
unfolding totals_answer
returns-in_err-claimed c =
    let p = err_from_is_err_and c.from_residual.result c.from_residual.ensures.1 in
    rw (p.1, p.2) (not_for (is_book c.args.book.now) (is_owner c.args.owner) (rows_claimed c.args.book.now) c.in_err-claimed.field-0.0 c.in_err-claimed.ensures _)

pub own_rows-entries-requires : goal.own_rows-entries-requires
own_rows-entries-requires c =
    let asked = is_for (is_book c.args.book.now) (is_owner c.args.owner) (rows_claimed c.args.book.now) c.in_ok-claimed.claimed c.in_ok-claimed.ensures in
    omega (arith, asked.2, (sound c.args.book.now asked.0).claims)

pub returns : goal.returns
unfolding totals_answer entries_of
returns c =
    let asked = is_for (is_book c.args.book.now) (is_owner c.args.owner) (rows_claimed c.args.book.now) c.in_ok-claimed.claimed c.in_ok-claimed.ensures in
    let e = asked.0 in
    let w = asked.1 in
    let count = c.own_rows-entries.ensures ∙ ap (λ (n : ℕ). length (entries_from c.args.owner c.args.book.now n 17)) (sym asked.2) in
    let sums = c.figures_at-figures.ensures ∙ ap (λ (n : ℕ). figures_at c.args.book.now (n + 1)) c.block_of-block.ensures.place ∙ (sound c.args.book.now e).sums c.args.owner w in
    let number = c.number_at.ensures ∙ ap (λ (n : ℕ). get_or c.args.book.now (n + 7) 0) c.block_of-block.ensures.place in
    let position = to_z-of_z w64 c.signed_of-net.result (record { sfits = c.signed_of-net.type_inv }) ∙ c.signed_of-net.ensures ∙ ap signed number
    ∙ net-said (net_number c.args.owner c.args.book.now) (position_of (running_totals c.args.owner c.args.book.now)) ((sound c.args.book.now e).nets c.args.owner w) ∙ ap position_of ((sound c.args.book.now e).sums c.args.owner w) in
    rw (e, w) (λ i. Ok (record { entries = count i; figures = sums i; net = position i }))
