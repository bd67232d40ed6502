use Rattle.abi.proofs.Laws.{of-salvage}
use mathlib.Core.Path.{sym, ◌∙◌}
use Rattle.abi.proofs.salvaging.x9_salvage.Goals as goal

pub returns-in-Ok : goal.returns-in-Ok
returns-in-Ok c =
    let told = sym c.salvage.ensures.answer ∙ c.in-Ok.is in
    record { number = rw told c.tell.ensures.0; buffer = c.salvage.ensures.buffer; listed = c.salvage.ensures.rows; answer = rw told c.tell.ensures.1; promised = of-salvage c.salvage.ensures.answer c.salvage.ensures.promised }

pub returns-in-Err : goal.returns-in-Err
returns-in-Err c =
    let told = sym c.salvage.ensures.answer ∙ c.in-Err.is in
    record { number = rw told c.tell-in-Err.ensures.0; buffer = c.salvage.ensures.buffer; listed = c.salvage.ensures.rows; answer = rw told c.tell-in-Err.ensures.1; promised = of-salvage c.salvage.ensures.answer c.salvage.ensures.promised }
