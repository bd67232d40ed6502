use Rattle.arrangement.proofs.Theorem.{of-answer}
use mathlib.Core.Path.{sym}
use Rattle.abi.proofs.x9_read.Goals as goal

pub returns : goal.returns
returns c =
    let told = sym c.read.ensures.answer in
    record { number = rw told c.tell.ensures.0; rows = c.read.ensures.rows; answer = rw told c.tell.ensures.1; arranged = of-answer c.read.ensures.answer c.read.ensures.arranged }
