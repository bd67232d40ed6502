use Rattle.tiff.specs.Image.{is_marked}
use Rattle.tiff.proofs.is_marked.Goals as goal

pub returns : goal.returns
unfolding is_marked
returns c = rw c.short_at.ensures.0
