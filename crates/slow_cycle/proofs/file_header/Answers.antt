use mathlib.Core.Path.{refl}
use Rattle.std.proofs.Common.{rules}
use Rattle.slow_step.proofs.Cycle.{calls, turns-away}
use Rattle.slow_cycle.proofs.file_header.Goals as goal

pub letter-requires : goal.letter-requires
letter-requires c = (calls c.requires c.enter.ensures c.in-Ok.is _ _ refl (search rules) refl).1

pub not_called_for-requires : goal.not_called_for-requires
not_called_for-requires c = turns-away c.requires c.enter.ensures c.in-Ok.is (search rules)
