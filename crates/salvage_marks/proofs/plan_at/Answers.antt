use mathlib.Core.Path.{refl}
use Rattle.salvage_marks.proofs.Marks.{left-outside}
use Rattle.salvage_marks.proofs.plan_at.Goals as goal

pub returns : goal.returns
returns c = (λ set file end bs s l. left-outside set file c.args.at end bs s l, refl)
