-- The numbers of one layout in the code's table (layout/specs/Packing.antt), lent to whoever makes out a record. Nothing of this has to be believed.
use Rattle.std.specs.Prelude.{ℕ, ◌≤◌, true, List, ◌≡◌, length, get_or, drop}
use Rattle.layout.specs.Layout.{Layout}
use Rattle.layout.specs.Packing.{block_of, block_in, is_whole}

-- numbers that begin with those of a layout
pub record Owned (k : Layout) (numbers : List ℕ) : Type 0 where
  pub some : 1 ≤ length numbers
  pub whole : is_whole numbers ≡ true
  pub means : block_in (get_or numbers 0 0) (drop 1 numbers) ≡ block_of k
