use native.Mathlib.Omega.{arith}
use Rattle.salvage_passes.proofs.Said.{said-kept, said-control, entering-as, entered-as}
use Rattle.salvage_passes.proofs.enter_next.Goals as goal

pub enter-requires : goal.enter-requires
enter-requires c = (omega (arith, c.put_kept.array_long), entering-as (said-kept c.requires.says c.part_of-body.ensures c.if-entry.true c.put_kept.ensures) c.requires.entering)

pub returns-then-entry : goal.returns-then-entry
returns-then-entry c = λ e. entered-as (said-kept e.says c.part_of-body.ensures c.if-entry.true c.put_kept.ensures) c.enter.result _ c.enter.ensures e.entering

pub put_control-requires : goal.put_control-requires
put_control-requires c = (c.requires.says.control c.if-entry.false).0

pub enter-requires-2 : goal.enter-requires-2
enter-requires-2 c = (omega (arith, c.put_control.array_long2), entering-as (said-control c.requires.says c.part_of-body.ensures c.if-entry.false c.put_control.ensures) c.requires.entering)

pub returns : goal.returns
returns c = λ e. entered-as (said-control e.says c.part_of-body.ensures c.if-entry.false c.put_control.ensures) c.enter-2.result _ c.enter-2.ensures e.entering
