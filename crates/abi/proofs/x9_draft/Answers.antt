use mathlib.Core.Path.{sym, ◌∙◌}
use Rattle.abi.proofs.x9_draft.Goals as goal

pub returns : goal.returns
returns c =
    let told = sym c.draft_of.ensures.answer in
    record { number = rw told c.tell.ensures.0; rows = c.draft_of.ensures.rows; answer = rw told c.tell.ensures.1; itself = λ t x e a. c.draft_of.ensures.itself t x (c.draft_of.ensures.answer ∙ e) a }
