use mathlib.Core.Bool.{true, ◌&&◌}
use mathlib.Core.Path.{◌≡◌, sym, ap, ap₂, ◌∙◌}
use Prim.Native.Nat.{ℕ}
use native.Mathlib.Omega.{arith}
use Rattle.std.proofs.lemmas.Result.{err_from_is_err_and}
use Rattle.passes.specs.declared.Fault.TheVariants.{Book, NoEntry}
use Rattle.figures.proofs.Laws.{both}
use Rattle.book_model.specs.PlainList.{finding}
use Rattle.book_model.specs.Table.{is_owner, entries_from, entries_of, is_book, is_list}
use Rattle.book_model.proofs.Laws.{sound}
use Rattle.book.proofs.Asked.{refused, granted}
use Rattle.book.proofs.Withdrawn.{no-book, no-owner, withdraws, not_there}
use Rattle.book.proofs.withdraw.Goals as goal

pub returns-in_err-unless-clause-answer : goal.returns-in_err-unless-clause-answer
returns-in_err-unless-clause-answer c =
    let tests : is_book c.args.book.now && is_list c.args.list.now ≡ c.is_book.result && c.is_list.result = ap₂ ◌&&◌ (sym c.is_book.ensures) (sym c.is_list.ensures) in
    let said = refused (c.is_book.result && c.is_list.result) Book c.in_err-unless.field-0.0 c.in_err-unless.ensures in
    let p = err_from_is_err_and c.from_residual.result c.from_residual.ensures.1 in
    rw (p.1, p.2, sym said.1) (no-book c.args.book.now c.args.list.now c.args.owner c.args.number (tests ∙ said.0))

pub returns-in_err-unless-2-clause-answer : goal.returns-in_err-unless-2-clause-answer
returns-in_err-unless-2-clause-answer c =
    let tests : is_book c.args.book.now && is_list c.args.list.now ≡ c.is_book.result && c.is_list.result = ap₂ ◌&&◌ (sym c.is_book.ensures) (sym c.is_list.ensures) in
    let good : is_book c.args.book.now && is_list c.args.list.now ≡ true = tests ∙ granted (c.is_book.result && c.is_list.result) Book c.in_ok-unless.field-0 c.in_ok-unless.ensures in
    let said = refused c.is_owner.result NoEntry c.in_err-unless-2.field-0.0 c.in_err-unless-2.ensures in
    let p = err_from_is_err_and c.from_residual-in_err-unless-2.result c.from_residual-in_err-unless-2.ensures.1 in
    rw (p.1, p.2, sym said.1) (no-owner c.args.book.now c.args.list.now c.args.owner c.args.number good (sym c.is_owner.ensures ∙ said.0))

pub first_numbered-requires : goal.first_numbered-requires
first_numbered-requires c =
    let tests : is_book c.args.book.now && is_list c.args.list.now ≡ c.is_book.result && c.is_list.result = ap₂ ◌&&◌ (sym c.is_book.ensures) (sym c.is_list.ensures) in
    let good : is_book c.args.book.now && is_list c.args.list.now ≡ true = tests ∙ granted (c.is_book.result && c.is_list.result) Book c.in_ok-unless.field-0 c.in_ok-unless.ensures in
    omega (arith, c.number_at-claimed.ensures, (sound c.args.book.now (both (is_book c.args.book.now) (is_list c.args.list.now) good).0).claims)

pub returns-in_err-e-clause-answer : goal.returns-in_err-e-clause-answer
unfolding entries_of
returns-in_err-e-clause-answer c =
    let tests : is_book c.args.book.now && is_list c.args.list.now ≡ c.is_book.result && c.is_list.result = ap₂ ◌&&◌ (sym c.is_book.ensures) (sym c.is_list.ensures) in
    let good : is_book c.args.book.now && is_list c.args.list.now ≡ true = tests ∙ granted (c.is_book.result && c.is_list.result) Book c.in_ok-unless.field-0 c.in_ok-unless.ensures in
    let owned : is_owner c.args.owner ≡ true = sym c.is_owner.ensures ∙ granted c.is_owner.result NoEntry c.in_ok-unless-2.field-0 c.in_ok-unless-2.ensures in
    let looked_up = ap (λ (n : ℕ). finding (entries_from c.args.owner c.args.book.now n 17) c.args.number) (sym c.number_at-claimed.ensures) ∙ sym c.in_err-e.ensures in
    let p = err_from_is_err_and c.from_residual-in_err-e.result c.from_residual-in_err-e.ensures.1 in
    rw (p.1, p.2) (not_there c.args.book.now c.args.list.now c.args.owner c.args.number good owned c.in_err-e.field-0.0 looked_up)

pub withdraw_found-requires : goal.withdraw_found-requires
unfolding entries_of
withdraw_found-requires c =
    let tests : is_book c.args.book.now && is_list c.args.list.now ≡ c.is_book.result && c.is_list.result = ap₂ ◌&&◌ (sym c.is_book.ensures) (sym c.is_list.ensures) in
    let good : is_book c.args.book.now && is_list c.args.list.now ≡ true = tests ∙ granted (c.is_book.result && c.is_list.result) Book c.in_ok-unless.field-0 c.in_ok-unless.ensures in
    let owned : is_owner c.args.owner ≡ true = sym c.is_owner.ensures ∙ granted c.is_owner.result NoEntry c.in_ok-unless-2.field-0 c.in_ok-unless-2.ensures in
    let looked_up = ap (λ (n : ℕ). finding (entries_from c.args.owner c.args.book.now n 17) c.args.number) (sym c.number_at-claimed.ensures) ∙ sym c.in_ok-e.ensures in
    ((both (is_book c.args.book.now) (is_list c.args.list.now) good).0, owned, looked_up)

pub returns-clause-answer : goal.returns-clause-answer
returns-clause-answer c =
    let tests : is_book c.args.book.now && is_list c.args.list.now ≡ c.is_book.result && c.is_list.result = ap₂ ◌&&◌ (sym c.is_book.ensures) (sym c.is_list.ensures) in
    let good : is_book c.args.book.now && is_list c.args.list.now ≡ true = tests ∙ granted (c.is_book.result && c.is_list.result) Book c.in_ok-unless.field-0 c.in_ok-unless.ensures in
    let owned : is_owner c.args.owner ≡ true = sym c.is_owner.ensures ∙ granted c.is_owner.result NoEntry c.in_ok-unless-2.field-0 c.in_ok-unless-2.ensures in
    c.withdraw_found.ensures.answer ∙ sym (withdraws c.args.book.now c.args.list.now c.args.owner c.args.number good owned)
