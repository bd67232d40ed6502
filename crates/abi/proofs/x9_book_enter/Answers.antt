use mathlib.Core.Path.{sym}
use Rattle.abi.proofs.x9_book_enter.Goals as goal

pub returns : goal.returns
returns c =
    let told = sym c.enter.ensures.answer in
    record { number = rw told c.tell_entered.ensures.0; rows-after = rw told c.enter.ensures.rows; book-after = rw told c.enter.ensures.book; list-after = rw told c.enter.ensures.list; answer = rw told c.tell_entered.ensures.1; own = c.enter.ensures.own }
