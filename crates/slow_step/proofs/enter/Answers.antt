use Rattle.slow_step.proofs.Laws.{moves, in-file, refused, entered, fits}
use native.Mathlib.Omega.{arith}
use mathlib.Core.Path.{sym, ◌∙◌}
use Rattle.slow_step.proofs.enter.Goals as goal

pub overflow_add-result : goal.overflow_add-result
overflow_add-result c = let m = moves c.requires.reached in omega (arith, m.0.records)

pub moved_on-here-requires : goal.moved_on-here-requires
moved_on-here-requires c = moves c.requires.reached

pub overflow_add-next : goal.overflow_add-next
overflow_add-next c = let f = fits c.args.set c.args.file.now c.args.s c.args.at _ _ (sym c.record_at.ensures ∙ c.in-Ok.is) in omega (arith, f, c.requires.reached.limit)

pub overflow_add-next-in-Ok : goal.overflow_add-next-in-Ok
overflow_add-next-in-Ok c = let f = fits c.args.set c.args.file.now c.args.s c.args.at _ _ (sym c.record_at.ensures ∙ c.in-Ok.is) in omega (arith, f, c.requires.reached.limit)

pub returns-in-Err : goal.returns-in-Err
returns-in-Err c = refused c.requires.reached (in-file c.requires) (sym c.record_at.ensures ∙ c.in-Err.is)

pub returns-in-Ok : goal.returns-in-Ok
returns-in-Ok c = entered c.requires (sym c.record_at.ensures ∙ c.in-Ok.is) c.moved_on-here.ensures c.type_at-called.ensures
