use mathlib.Core.Path.{refl}
use Rattle.tiff.specs.Image.{is_number}
use Rattle.tiff.proofs.is_number.Goals as goal

pub returns : goal.returns
unfolding is_number
returns c = refl
