use Rattle.tiff.specs.Required.{is_resolution, numerator, denominator}
use Rattle.tiff.proofs.is_resolution.Goals as goal

pub returns : goal.returns
unfolding is_resolution numerator denominator
returns c = rw (c.long_at-numerator.ensures.0, c.long_at-denominator.ensures.0)
