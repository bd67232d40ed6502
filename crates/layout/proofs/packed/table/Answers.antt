use mathlib.Core.Path.{refl}
use Rattle.layout.specs.Packing.{blocks_in, are_whole}
use Rattle.layout.proofs.packed.table.Goals as goal

pub returns : goal.returns
unfolding blocks_in are_whole
returns c = record { means = refl; whole = refl }
