use mathlib.Core.Path.{refl}
use Rattle.tiff.specs.Required.{is_code}
use Rattle.tiff.proofs.is_code.Goals as goal

pub returns : goal.returns
unfolding is_code
returns c = refl
