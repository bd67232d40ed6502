use mathlib.Core.Path.{◌≡◌}
use Prim.Native.Nat.{◌+◌, ◌-◌, ◌*◌}
use Rattle.tiff_directory.specs.Entries.{entries_from}
use Rattle.tiff.specs.Image.{first_with}
use Rattle.tiff.proofs.Directory.first_with.Given as goal

abbrev pub invariant-loop : goal.invariant-loop
invariant-loop l = (l.at ≡ l.self.first + 12 * l.counter) × (first_with l.tag (entries_from l.self.image.now (l.self.count - l.counter) l.at) ≡ first_with l.tag (entries_from l.self.image.now l.self.count l.self.first))
