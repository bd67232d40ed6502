use mathlib.Core.Path.{◌≡◌}
use Prim.Native.Nat.{◌+◌, ◌-◌, ◌*◌, ◌≤◌}
use Rattle.tiff_directory.specs.Entries.{entries_from}
use Rattle.tiff.specs.Image.{disordered, lowest}
use Rattle.tiff.proofs.Laws.{lowest_left}
use Rattle.tiff.proofs.Directory.lowest_disordered.Given as goal

abbrev pub invariant-loop : goal.invariant-loop
invariant-loop l = (l.at ≡ l.self.first + 12 * (l.counter - 1)) × (l.low ≤ 0x1_0000) × (lowest_left l.self.image.now l.low (l.self.count - (l.counter - 1)) l.at ≡ lowest (disordered (entries_from l.self.image.now l.self.count l.self.first)))
