use Rattle.slow_step.proofs.Laws.{moves, refused, finished}
use native.Mathlib.Omega.{arith}
use Rattle.slow_step.proofs.not_called_for.Goals as goal

pub ended-requires : goal.ended-requires
ended-requires c = moves c.requires.0

pub returns-then-file-at : goal.returns-then-file-at
returns-then-file-at c = finished c.requires.0 c.if-file-at.true c.ended.ensures

pub overflow_add-result : goal.overflow_add-result
overflow_add-result c = let m = moves c.requires.0 in omega (arith, m.0.records)

pub returns : goal.returns
returns c = refused c.requires.0 c.if-file-at.false c.unfit.ensures
