use Rattle.abi.proofs.Laws.{of-outcome}
use mathlib.Core.Path.{sym, ◌∙◌}
use Rattle.abi.proofs.x9_write.Goals as goal

pub returns-in-Ok : goal.returns-in-Ok
returns-in-Ok c =
    let told = sym c.write.ensures.answer ∙ c.in-Ok.is in
    record { number = rw told c.tell.ensures.0; buffer = c.write.ensures.buffer; answer = rw told c.tell.ensures.1; promised = of-outcome c.write.ensures.answer c.write.ensures.promised }

pub returns-in-Err : goal.returns-in-Err
returns-in-Err c =
    let told = sym c.write.ensures.answer ∙ c.in-Err.is in
    record { number = rw told c.tell-in-Err.ensures.0; buffer = c.write.ensures.buffer; answer = rw told c.tell-in-Err.ensures.1; promised = of-outcome c.write.ensures.answer c.write.ensures.promised }
