use mathlib.Core.Bool.{false}
use mathlib.Core.List.{[]}
use mathlib.Core.Path.{◌≡◌}
use native.Mathlib.Omega.{arith}
use lib.ListN.{length}
use Rattle.std.proofs.result.Match.{err_is}
use Rattle.passes.specs.declared.Fault.TheVariants.{Size, Room}
use Rattle.draft.specs.Drafted.{answer_from}
use Rattle.draft_survey.specs.CappedOutcome.{capped_outcome}
use Rattle.salvage_model.specs.Salvaged.{values_left}
use Rattle.salvage_passes.specs.Writable.{Writable}
use Rattle.salvage.proofs.Begun.{all_left, cued, listable}
use Rattle.salvage.proofs.Settled.{as-built, settled-refused, settled-large, settled-short, settled-rows, settled-written, writable}
use Rattle.salvage.proofs.salvage_left.Goals as goal

pub decide-requires : goal.decide-requires
decide-requires c = record { values = _; cued = cued c.requires.0 c.requires.2 c.plan_of_file-plan.result c.plan_of_file-plan.ensures.0 c.plan_of_file-plan.ensures.1 }

pub returns-then-bytes-gt268435456 : goal.returns-then-bytes-gt268435456
returns-then-bytes-gt268435456 c = rw (as-built c.of_file.result Size 0 c.of_file.ensures) (settled-large c.args.torn.file.now c.args.out.now c.args.list.now c.requires.0 c.requires.2 ((let decided' : c.decide.result ≡ capped_outcome (answer_from (values_left c.args.torn.file.now) [] []) = c.decide.ensures (values_left c.args.torn.file.now) (cued c.requires.0 c.requires.2 c.plan_of_file-plan.result c.plan_of_file-plan.ensures.0 c.plan_of_file-plan.ensures.1) in decided')) c.in_ok-bytes.was (omega (arith, c.if-bytes-gt268435456.true)))

pub returns-then-out-bytes : goal.returns-then-out-bytes
returns-then-out-bytes c = rw (as-built c.of_file-then-out-bytes.result Room _ c.of_file-then-out-bytes.ensures) (settled-short c.args.torn.file.now c.args.out.now c.args.list.now c.requires.0 c.requires.2 ((let decided' : c.decide.result ≡ capped_outcome (answer_from (values_left c.args.torn.file.now) [] []) = c.decide.ensures (values_left c.args.torn.file.now) (cued c.requires.0 c.requires.2 c.plan_of_file-plan.result c.plan_of_file-plan.ensures.0 c.plan_of_file-plan.ensures.1) in decided')) c.in_ok-bytes.was (omega (arith, c.if-bytes-gt268435456.false)) (omega (arith, c.if-out-bytes.true)))

pub returns-then-list-rows : goal.returns-then-list-rows
returns-then-list-rows c = rw (as-built c.of_file-then-list-rows.result Room c.args.rows c.of_file-then-list-rows.ensures) (settled-rows c.args.torn.file.now c.args.out.now c.args.list.now c.requires.0 c.requires.2 ((let decided' : c.decide.result ≡ capped_outcome (answer_from (values_left c.args.torn.file.now) [] []) = c.decide.ensures (values_left c.args.torn.file.now) (cued c.requires.0 c.requires.2 c.plan_of_file-plan.result c.plan_of_file-plan.ensures.0 c.plan_of_file-plan.ensures.1) in decided')) c.in_ok-bytes.was (omega (arith, c.if-bytes-gt268435456.false)) (omega (arith, c.if-out-bytes.false)) c.requires.1 (omega (arith, c.if-list-rows.true)))

pub write_left-requires : goal.write_left-requires
write_left-requires c = (let can_write' : Writable c.args.torn.set c.args.torn.file.now c.args.torn.end (record { plan = c.plan_of_file-plan.result; «open» = false; done = false }) (length c.args.out.now) = writable c.args.torn.file.now c.args.out.now c.args.list.now c.requires.0 c.requires.2 ((let decided' : c.decide.result ≡ capped_outcome (answer_from (values_left c.args.torn.file.now) [] []) = c.decide.ensures (values_left c.args.torn.file.now) (cued c.requires.0 c.requires.2 c.plan_of_file-plan.result c.plan_of_file-plan.ensures.0 c.plan_of_file-plan.ensures.1) in decided')) c.in_ok-bytes.was (omega (arith, c.if-bytes-gt268435456.false)) (omega (arith, c.if-out-bytes.false)) c.plan_of_file-plan.result c.plan_of_file-plan.ensures.0 c.plan_of_file-plan.ensures.1 in can_write')

pub put_list-requires : goal.put_list-requires
put_list-requires c = listable c.requires.0 c.requires.2 c.plan_of_file-plan.result c.plan_of_file-plan.ensures.0 c.plan_of_file-plan.ensures.1 _ _ c.requires.1 (omega (arith, c.if-list-rows.false))

pub returns-in_err-bytes : goal.returns-in_err-bytes
returns-in_err-bytes c = rw (err_is _ _ c.from_residual.ensures.1) (settled-refused c.args.torn.file.now c.args.out.now c.args.list.now c.requires.0 c.requires.2 ((let decided' : c.decide.result ≡ capped_outcome (answer_from (values_left c.args.torn.file.now) [] []) = c.decide.ensures (values_left c.args.torn.file.now) (cued c.requires.0 c.requires.2 c.plan_of_file-plan.result c.plan_of_file-plan.ensures.0 c.plan_of_file-plan.ensures.1) in decided')) c.in_err-bytes.was)

pub returns : goal.returns
unfolding writable
returns c = settled-written c.args.torn.file.now c.args.out.now c.args.list.now c.requires.0 c.requires.2 ((let decided' : c.decide.result ≡ capped_outcome (answer_from (values_left c.args.torn.file.now) [] []) = c.decide.ensures (values_left c.args.torn.file.now) (cued c.requires.0 c.requires.2 c.plan_of_file-plan.result c.plan_of_file-plan.ensures.0 c.plan_of_file-plan.ensures.1) in decided')) c.in_ok-bytes.was (omega (arith, c.if-bytes-gt268435456.false)) (omega (arith, c.if-out-bytes.false)) c.requires.1 (omega (arith, c.if-list-rows.false)) (c.write_left.ensures ((let can_write' : Writable c.args.torn.set c.args.torn.file.now c.args.torn.end (record { plan = c.plan_of_file-plan.result; «open» = false; done = false }) (length c.args.out.now) = writable c.args.torn.file.now c.args.out.now c.args.list.now c.requires.0 c.requires.2 ((let decided' : c.decide.result ≡ capped_outcome (answer_from (values_left c.args.torn.file.now) [] []) = c.decide.ensures (values_left c.args.torn.file.now) (cued c.requires.0 c.requires.2 c.plan_of_file-plan.result c.plan_of_file-plan.ensures.0 c.plan_of_file-plan.ensures.1) in decided')) c.in_ok-bytes.was (omega (arith, c.if-bytes-gt268435456.false)) (omega (arith, c.if-out-bytes.false)) c.plan_of_file-plan.result c.plan_of_file-plan.ensures.0 c.plan_of_file-plan.ensures.1 in can_write'))) (rw c.plan_of_file-plan.ensures.1 at (c.put_list.ensures _ (all_left c.requires.0 c.requires.2 c.plan_of_file-plan.result c.plan_of_file-plan.ensures.0 c.plan_of_file-plan.ensures.1)))
