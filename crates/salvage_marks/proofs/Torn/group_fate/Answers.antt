use mathlib.Core.Bool.{Bool, ◌&&◌}
use mathlib.Core.Path.{sym, ap, ◌∙◌}
use Rattle.salvage_marks.proofs.Marks.{both_hold, fate-loose, fate-fault, fate-through}
use Rattle.salvage_marks.proofs.Torn.group_fate.Goals as goal

pub returns-then-not-is_run-plan : goal.returns-then-not-is_run-plan
returns-then-not-is_run-plan c = fate-loose c.args.self.set c.args.self.file.now c.args.plan c.args.group (ap (λ (b : Bool). b && c.args.plan.sound) (sym c.is_run.ensures) ∙ c.if-not-is_run-plan.true)

pub run_fault-requires : goal.run_fault-requires
run_fault-requires c = c.requires (both_hold c.is_run.result c.args.plan.sound c.if-not-is_run-plan.false)

pub returns-in-Err : goal.returns-in-Err
returns-in-Err c = fate-fault c.args.self.set c.args.self.file.now c.args.plan c.args.group (ap (λ (b : Bool). b && c.args.plan.sound) (sym c.is_run.ensures) ∙ c.if-not-is_run-plan.false) _ c.run_fault.ensures _ c.in-Err.is

pub returns-in-Ok : goal.returns-in-Ok
returns-in-Ok c = fate-through c.args.self.set c.args.self.file.now c.args.plan c.args.group (ap (λ (b : Bool). b && c.args.plan.sound) (sym c.is_run.ensures) ∙ c.if-not-is_run-plan.false) _ c.run_fault.ensures c.in-Ok.field-0 c.in-Ok.is c.kept_if.result c.kept_if.ensures
