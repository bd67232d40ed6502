use Rattle.tiff.specs.Required.{is_measure}
use Rattle.tiff.proofs.is_measure.Goals as goal

pub returns : goal.returns
unfolding is_measure
returns c = rw (c.is_number.ensures, c.number_in.ensures.0)
