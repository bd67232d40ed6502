use mathlib.Core.Path.{sym, ap, ◌∙◌}
use native.Mathlib.Omega.{arith}
use Prim.Native.Nat.{ℕ}
use Rattle.std.proofs.lemmas.Result.{err_from_is_err_and}
use Rattle.book_model.specs.PlainList.{finding}
use Rattle.book_model.specs.Table.{is_owner, rows_claimed, entries_from, entries_of, is_book}
use Rattle.book_model.specs.Calls.{find_answer}
use Rattle.book_model.proofs.Laws.{sound}
use Rattle.book.proofs.Asked.{not_for, is_for}
use Rattle.book.proofs.find.Goals as goal

pub returns-in_err-rows : goal.returns-in_err-rows
unfolding find_answer
returns-in_err-rows c =
    let p = err_from_is_err_and c.from_residual.result c.from_residual.ensures.1 in
    rw (p.1, p.2) (not_for (is_book c.args.book.now) (is_owner c.args.owner) (rows_claimed c.args.book.now) c.in_err-rows.field-0.0 c.in_err-rows.ensures _)

pub first_numbered-requires : goal.first_numbered-requires
first_numbered-requires c =
    let asked = is_for (is_book c.args.book.now) (is_owner c.args.owner) (rows_claimed c.args.book.now) c.in_ok-rows.rows c.in_ok-rows.ensures in
    omega (arith, asked.2, (sound c.args.book.now asked.0).claims)

pub returns : goal.returns
unfolding find_answer entries_of
returns c =
    let asked = is_for (is_book c.args.book.now) (is_owner c.args.owner) (rows_claimed c.args.book.now) c.in_ok-rows.rows c.in_ok-rows.ensures in
    rw (asked.0, asked.1) (c.first_numbered.ensures ∙ ap (λ (n : ℕ). finding (entries_from c.args.owner c.args.book.now n 17) c.args.number) (sym asked.2))
