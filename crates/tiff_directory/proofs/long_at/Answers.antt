use native.Mathlib.Nat.{add-zero}
use Rattle.tiff_directory.proofs.long_at.Goals as goal

pub returns : goal.returns
returns c = simp add-zero at c.long_ahead.ensures
