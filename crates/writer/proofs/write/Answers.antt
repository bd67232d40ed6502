use mathlib.Core.Path.{sym, ◌∙◌, subst}
use native.Mathlib.Omega.{arith}
use Rattle.std.proofs.result.Match.{err_is}
use Rattle.draft.specs.Outcomes.{Outcome}
use Rattle.writer.proofs.Laws.{refused-as, Done, done-large, done-short, asks, done-written, done_refused}
use Rattle.writer.proofs.write.Goals as goal

pub write_rows-requires : goal.write_rows-requires
write_rows-requires c = asks c.args.text.now c.args.draft.now c.args.out.now c.in_ok-bytes.was c.survey_draft.ensures (omega (arith, c.if-bytes-gt268435456.false)) (omega (arith, c.if-out-bytes.false)) c.set_of_text-set.result c.set_of_text-set.ensures

pub returns-then-bytes-gt268435456 : goal.returns-then-bytes-gt268435456
returns-then-bytes-gt268435456 c =
    let k = subst (λ (o : Outcome). Done c.args.text.now c.args.draft.now c.args.out.now o c.args.out.now) (sym (refused-as c.of_file.ensures))
    (done-large c.args.text.now c.args.draft.now c.args.out.now c.in_ok-bytes.was c.survey_draft.ensures (omega (arith, c.if-bytes-gt268435456.true))) in
    record { answer = k.0; buffer = k.1.0; promised = k.1.1 }

pub returns-then-out-bytes : goal.returns-then-out-bytes
returns-then-out-bytes c =
    let k = subst (λ (o : Outcome). Done c.args.text.now c.args.draft.now c.args.out.now o c.args.out.now) (sym (refused-as c.of_file-then-out-bytes.ensures))
    (done-short c.args.text.now c.args.draft.now c.args.out.now c.in_ok-bytes.was c.survey_draft.ensures (omega (arith, c.if-bytes-gt268435456.false)) (omega (arith, c.if-out-bytes.true))) in
    record { answer = k.0; buffer = k.1.0; promised = k.1.1 }

pub returns : goal.returns
returns c = let k = done-written c.args.text.now c.args.draft.now c.args.out.now c.in_ok-bytes.was c.survey_draft.ensures (omega (arith, c.if-bytes-gt268435456.false)) (omega (arith, c.if-out-bytes.false)) c.set_of_text-set.result c.set_of_text-set.ensures c.write_rows.ensures in record { answer = k.0; buffer = k.1.0; promised = k.1.1 }

pub returns-in_err-bytes : goal.returns-in_err-bytes
returns-in_err-bytes c =
    let e = err_is _ _ c.from_residual.ensures.1 in
    let k = done_refused c.args.text.now c.args.draft.now c.args.out.now e (e ∙ sym c.in_err-bytes.was ∙ c.survey_draft.ensures) in
    record { answer = k.0; buffer = k.1.0; promised = k.1.1 }
