use mathlib.Core.Bool.{◌&&◌}
use mathlib.Core.Path.{◌≡◌, sym, ap₂, ◌∙◌}
use Rattle.std.proofs.lemmas.Result.{err_from_is_err_and}
use Rattle.passes.specs.declared.Fault.TheVariants.{Book}
use Rattle.figures.proofs.Laws.{both}
use Rattle.book_model.specs.Table.{is_book, is_list}
use Rattle.book.proofs.Asked.{refused, granted}
use Rattle.book.proofs.Withdrawn.{not-tidied, tidies}
use Rattle.book.proofs.tidy.Goals as goal

pub returns-in_err-unless-clause-answer : goal.returns-in_err-unless-clause-answer
returns-in_err-unless-clause-answer c =
    let tests : is_book c.args.book.now && is_list c.args.list.now ≡ c.is_book.result && c.is_list.result = ap₂ ◌&&◌ (sym c.is_book.ensures) (sym c.is_list.ensures) in
    let said = refused (c.is_book.result && c.is_list.result) Book c.in_err-unless.field-0.0 c.in_err-unless.ensures in
    let p = err_from_is_err_and c.from_residual.result c.from_residual.ensures.1 in
    rw (p.1, p.2, sym said.1) (not-tidied c.args.book.now c.args.list.now (tests ∙ said.0))

pub tidy-requires : goal.tidy-requires
tidy-requires c =
    let tests : is_book c.args.book.now && is_list c.args.list.now ≡ c.is_book.result && c.is_list.result = ap₂ ◌&&◌ (sym c.is_book.ensures) (sym c.is_list.ensures) in
    (both (is_book c.args.book.now) (is_list c.args.list.now) (tests ∙ granted (c.is_book.result && c.is_list.result) Book c.in_ok-unless.field-0 c.in_ok-unless.ensures)).0

pub returns-clause-answer : goal.returns-clause-answer
returns-clause-answer c =
    let tests : is_book c.args.book.now && is_list c.args.list.now ≡ c.is_book.result && c.is_list.result = ap₂ ◌&&◌ (sym c.is_book.ensures) (sym c.is_list.ensures) in
    tidies c.args.book.now c.args.list.now (tests ∙ granted (c.is_book.result && c.is_list.result) Book c.in_ok-unless.field-0 c.in_ok-unless.ensures)
