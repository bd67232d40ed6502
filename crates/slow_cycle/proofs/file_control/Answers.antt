use mathlib.Core.Path.{refl}
use Rattle.slow_step.proofs.Cycle.{turns-away}
use Rattle.slow_cycle.proofs.file_control.Goals as goal

pub not_called_for-requires : goal.not_called_for-requires
not_called_for-requires c = turns-away c.requires c.enter.ensures c.in-Ok.is refl
