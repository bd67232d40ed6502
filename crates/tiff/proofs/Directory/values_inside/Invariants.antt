use mathlib.Core.Path.{◌≡◌}
use Prim.Native.Nat.{◌+◌, ◌-◌, ◌*◌}
use Rattle.tiff_directory.specs.Entries.{entries_from}
use Rattle.tiff.specs.Image.{values_inside}
use Rattle.tiff.proofs.Directory.values_inside.Given as goal

abbrev pub invariant-loop : goal.invariant-loop
invariant-loop l = (l.at ≡ l.self.first + 12 * l.counter) × (values_inside l.self.image.now (entries_from l.self.image.now (l.self.count - l.counter) l.at) ≡ values_inside l.self.image.now (entries_from l.self.image.now l.self.count l.self.first))
