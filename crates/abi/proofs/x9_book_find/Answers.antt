use mathlib.Core.Path.{sym, ◌∙◌}
use Rattle.abi.proofs.x9_book_find.Goals as goal

pub returns-in-Ok : goal.returns-in-Ok
returns-in-Ok c =
    let told = sym c.find.ensures ∙ c.in-Ok.is in
    record { number = rw told; found = rw told }

pub returns-in-Err : goal.returns-in-Err
returns-in-Err c =
    let told = sym c.find.ensures ∙ c.in-Err.is in
    record { number = rw told c.number-refused.ensures; found = rw (told, c.number-refused.ensures) }
