-- A part of nine characters up to their end. Assumes nothing.
use Prim.Native.Nat.{ℕ, ◌-◌}
use native.Mathlib.Omega.{arith}
use mathlib.Core.Path.{◌≡◌}
use mathlib.Core.List.{List}
use lib.ListN.{length, take, drop, length-drop}
use lib.Seq.{take_all}

pub to_the_end : (xs : List ℕ) (n : ℕ) → length xs ≡ 9 → take (9 - n) (drop n xs) ≡ drop n xs
to_the_end xs n e = take_all (9 - n) (drop n xs) (rw length-drop (omega arith))
