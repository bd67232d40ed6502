-- Runs of numbers, and runs of characters by their codes.
use Rattle.std.specs.Prelude.{ℕ, Bool, ◌&&◌, leb, eqb}
use Prim.Native.Char.{Char, code}

-- a number from low through high
abbrev pub within : ℕ → ℕ → ℕ → Bool
within low high x = leb low x && leb x high

-- a character from low through high; this one character. The code of a character is its code in ASCII.
abbrev pub through : Char → Char → ℕ → Bool
through low high x = within (code low) (code high) x

abbrev pub is : Char → ℕ → Bool
is c x = eqb x (code c)
