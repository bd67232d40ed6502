use Rattle.arrangement.proofs.Theorem.{of-answer}
use mathlib.Core.Path.{sym}
use Rattle.abi.proofs.slowly.x9_read_slowly.Goals as goal

pub returns : goal.returns
returns c =
    let told = sym c.read_slowly.ensures.answer in
    record { number = rw told c.tell.ensures.0; rows = c.read_slowly.ensures.rows; answer = rw told c.tell.ensures.1; arranged = λ h. of-answer c.read_slowly.ensures.answer (c.read_slowly.ensures.arranged h) }
