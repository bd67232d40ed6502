use native.Mathlib.Omega.{arith}
use Rattle.salvage_passes.proofs.Said.{said-kept, said-control, ready-as, written_as}
use Rattle.salvage_passes.proofs.write_next.Goals as goal

pub write_counted-requires : goal.write_counted-requires
write_counted-requires c = (omega (arith, c.put_kept.array_long), ready-as (said-kept c.requires.says c.part_of-body.ensures c.if-entry.true c.put_kept.ensures) c.requires.ready)

pub returns-then-entry : goal.returns-then-entry
returns-then-entry c = λ e. written_as (said-kept e.says c.part_of-body.ensures c.if-entry.true c.put_kept.ensures) c.write_counted.ensures.1 e.ready

pub put_control-requires : goal.put_control-requires
put_control-requires c = (c.requires.says.control c.if-entry.false).0

pub write_counted-requires-2 : goal.write_counted-requires-2
write_counted-requires-2 c = (omega (arith, c.put_control.array_long2), ready-as (said-control c.requires.says c.part_of-body.ensures c.if-entry.false c.put_control.ensures) c.requires.ready)

pub returns : goal.returns
returns c = λ e. written_as (said-control e.says c.part_of-body.ensures c.if-entry.false c.put_control.ensures) c.write_counted-2.ensures.1 e.ready
