use mathlib.Core.Path.{refl}
use Rattle.slow_record.proofs.table.fields.Goals as goal

pub returns : goal.returns
returns c = record { means = refl }
