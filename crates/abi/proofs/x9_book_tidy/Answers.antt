use mathlib.Core.Path.{sym, ◌∙◌}
use Rattle.abi.proofs.x9_book_tidy.Goals as goal

pub returns-in-Ok : goal.returns-in-Ok
returns-in-Ok c =
    let told = sym c.tidy.ensures.answer ∙ c.in-Ok.is in
    record { number = rw told; book-after = rw (sym c.tidy.ensures.answer) c.tidy.ensures.book }

pub returns-in-Err : goal.returns-in-Err
returns-in-Err c =
    let told = sym c.tidy.ensures.answer ∙ c.in-Err.is in
    record { number = rw told c.number.ensures; book-after = rw (sym c.tidy.ensures.answer) c.tidy.ensures.book }
