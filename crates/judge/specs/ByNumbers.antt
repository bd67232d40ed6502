-- A record judged by the numbers that the code has for its layout (layout/specs/Packing.antt). Nothing of this has to be believed.
use Rattle.std.specs.Prelude.{List, [], ◌∷◌, ℕ}
use Rattle.text.specs.declared.character_set.CharacterSet.{CharacterSet}
use Rattle.layout.specs.Packing.{Block, block_in}
use Rattle.judge.specs.Alone.{judged}
use Rattle.judge.specs.Alone.{Judged}
use Rattle.judge.specs.Alone.{UnknownType}

abbrev pub by_block : CharacterSet → Block → List ℕ → Judged
by_block set b body = judged set b.fixed_length b.lines b.parts body

-- by the numbers of the record's own kind, those of other kinds behind them
abbrev pub by_own : CharacterSet → List ℕ → List ℕ → Judged
by_own set [] body = UnknownType
by_own set (header ∷ rest) body = by_block set (block_in header rest) body
