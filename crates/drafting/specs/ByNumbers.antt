-- The sizes of a record's parts by the numbers that the code has for its layout (layout/specs/Packing.antt). Nothing of this has to be believed.
use Rattle.std.specs.Prelude.{ℕ, List, [], ◌∷◌, ◌++◌, map, take}
use Rattle.text.specs.declared.character_set.CharacterSet.{CharacterSet}
use Rattle.layout.specs.Layout.{Sized}
use Rattle.layout.specs.Packing.{block_in}
use Rattle.judge.specs.Alone.{stated_size}
use Rattle.copying.specs.Times.{times}

-- seven sizes, 0 behind the last
abbrev pub seven_sizes : CharacterSet → List Sized → List ℕ → List ℕ
seven_sizes set parts body = take 7 (map (λ (s : Sized). stated_size set s body) parts ++ times 7 0)

-- the parts by the numbers of the record's own kind, those of other kinds behind them
abbrev pub parts_own : List ℕ → List Sized
parts_own [] = []
parts_own (header ∷ rest) = (block_in header rest).parts
