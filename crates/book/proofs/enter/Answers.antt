use mathlib.Core.Bool.{true, ◌&&◌}
use mathlib.Core.Path.{◌≡◌, refl, sym, ap₂, ◌∙◌, subst}
use Rattle.std.proofs.result.Match.{err_is}
use Rattle.passes.specs.declared.Fault.TheVariants.{Book, NoEntry}
use Rattle.passes.specs.Reading.{Counted}
use Rattle.figures.proofs.Laws.{both}
use Rattle.letters.proofs.Theorem.{letters-own}
use Rattle.book_model.specs.Table.{is_book, is_list}
use Rattle.book.proofs.Accepted.{as-built, no-book, no-owner, refused}
use Rattle.book.proofs.enter.Goals as goal

pub enter_accepted-requires : goal.enter_accepted-requires
enter_accepted-requires c =
    let tests : is_book c.args.book.now && is_list c.args.list.now ≡ c.is_book.result && c.is_list.result = ap₂ ◌&&◌ (sym c.is_book.ensures) (sym c.is_list.ensures) in
    let good : is_book c.args.book.now && is_list c.args.list.now ≡ true = tests ∙ c.if-not-is_book-is_list.false in
    ((both (is_book c.args.book.now) (is_list c.args.list.now) good).0, (both (is_book c.args.book.now) (is_list c.args.list.now) good).1, sym c.is_owner.ensures ∙ c.if-not-is_owner.false, sym c.survey.ensures.0 ∙ c.in_ok-totals.was, subst (Counted c.args.file.now) c.in_ok-totals.was c.survey.ensures.1)

pub returns-then-not-is_book-is_list : goal.returns-then-not-is_book-is_list
returns-then-not-is_book-is_list c =
    let tests : is_book c.args.book.now && is_list c.args.list.now ≡ c.is_book.result && c.is_list.result = ap₂ ◌&&◌ (sym c.is_book.ensures) (sym c.is_list.ensures) in
    record { answer = as-built c.of_file.result Book 0 c.of_file.ensures ∙ no-book c.args.file.now c.args.table.now c.args.book.now c.args.list.now c.args.number c.args.owner (tests ∙ c.if-not-is_book-is_list.true); rows = refl; book = refl; list = refl; own = letters-own c.args.file.now }

pub returns-then-not-is_owner : goal.returns-then-not-is_owner
returns-then-not-is_owner c =
    let tests : is_book c.args.book.now && is_list c.args.list.now ≡ c.is_book.result && c.is_list.result = ap₂ ◌&&◌ (sym c.is_book.ensures) (sym c.is_list.ensures) in
    let good : is_book c.args.book.now && is_list c.args.list.now ≡ true = tests ∙ c.if-not-is_book-is_list.false in
    record { answer = as-built c.of_file-then-not-is_owner.result NoEntry 0 c.of_file-then-not-is_owner.ensures ∙ no-owner c.args.file.now c.args.table.now c.args.book.now c.args.list.now c.args.number c.args.owner good (sym c.is_owner.ensures ∙ c.if-not-is_owner.true); rows = refl; book = refl; list = refl; own = letters-own c.args.file.now }

pub returns-in_err-totals : goal.returns-in_err-totals
returns-in_err-totals c =
    let tests : is_book c.args.book.now && is_list c.args.list.now ≡ c.is_book.result && c.is_list.result = ap₂ ◌&&◌ (sym c.is_book.ensures) (sym c.is_list.ensures) in
    let good : is_book c.args.book.now && is_list c.args.list.now ≡ true = tests ∙ c.if-not-is_book-is_list.false in
    let said = err_is _ _ c.from_residual.ensures.1 in
    record { answer = said ∙ refused c.args.file.now c.args.table.now c.args.book.now c.args.list.now c.args.number c.args.owner c.in_err-totals.field-0.0 good (sym c.is_owner.ensures ∙ c.if-not-is_owner.false) (sym c.survey.ensures.0 ∙ c.in_err-totals.was); rows = rw said; book = rw said; list = rw said; own = letters-own c.args.file.now }

pub returns : goal.returns
returns c =
    let it = c.enter_accepted.ensures in
    record { answer = it.answer; rows = it.rows; book = it.book; list = it.list; own = letters-own c.args.file.now }
