use mathlib.Core.Path.{sym, ◌∙◌, subst}
use native.Mathlib.Omega.{arith}
use Rattle.std.proofs.result.Match.{err_is}
use Rattle.passes.proofs.Passes.{accepted-small}
use Rattle.passes.specs.Answers.{Answer}
use Rattle.drafting.proofs.Rows.{counted}
use Rattle.drafting.proofs.Ended.{Meets, no_room, rows-filled, refused}
use Rattle.drafting.proofs.draft_of.Goals as goal

pub fill-requires : goal.fill-requires
fill-requires c =
    let g = counted c.args.file.now _ (rw c.in_ok-totals.was at c.survey.ensures.1) in
    (accepted-small c.args.file.now _ (sym c.survey.ensures.0 ∙ c.in_ok-totals.was), omega (arith, g, c.if-draft-needed.false))

pub returns-then-draft-needed : goal.returns-then-draft-needed
returns-then-draft-needed c =
    let k = subst (λ (a : Answer). Meets c.args.file.now c.args.draft.now a c.args.draft.now) (sym c.of_file.ensures)
    (no_room c.args.file.now c.args.draft.now _ (sym c.survey.ensures.0 ∙ c.in_ok-totals.was) c.if-draft-needed.true) in
    record { answer = k.0; rows = k.1.0; itself = k.1.1 }

pub returns : goal.returns
returns c =
    let k = rows-filled c.args.file.now c.args.draft.now _ _ (sym c.survey.ensures.0 ∙ c.in_ok-totals.was) c.if-draft-needed.false (rw c.in_ok-totals.was at c.survey.ensures.1) c.fill.ensures in
    record { answer = k.0; rows = k.1.0; itself = k.1.1 }

pub returns-in_err-totals : goal.returns-in_err-totals
returns-in_err-totals c =
    let k = refused c.args.file.now c.args.draft.now _ _ _ _ (err_is _ _ c.from_residual.ensures.1 ∙ sym c.in_err-totals.was ∙ c.survey.ensures.0) (err_is _ _ c.from_residual.ensures.1) in
    record { answer = k.0; rows = k.1.0; itself = k.1.1 }
