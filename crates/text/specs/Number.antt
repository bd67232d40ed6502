-- The value of a run of digits, highest first.
use Rattle.std.specs.Prelude.{ℕ, ◌+◌, ◌-◌, ◌*◌, cond, List, [], ◌∷◌, take}
use Rattle.text.specs.declared.character_set.CharacterSet.{CharacterSet}
use Rattle.text.specs.declared.character_set.CharacterSet.TheVariants.{Ascii, Ebcdic}
use Rattle.text.specs.Characters.{is_numeric}

-- 5.1.3: the number that a numeric character stands for, from 0's own code on; no other character adds anything
abbrev pub code_of_zero : CharacterSet → ℕ
code_of_zero Ascii = 0x30
code_of_zero Ebcdic = 0xF0

abbrev pub digit : CharacterSet → ℕ → ℕ
digit set x = cond (is_numeric set x) (x - code_of_zero set) 0

-- the value of the digits after those that came to `sum`
abbrev pub value_after : CharacterSet → ℕ → List ℕ → ℕ
value_after set sum [] = sum
value_after set sum (x ∷ xs) = value_after set (sum * 10 + digit set x) xs

-- The number in a field. No field of the standard that is read as a number has more than 16 digits; 19 are what 64 bits
-- hold, and the number is that of the first 19.
unfoldable pub number : CharacterSet → List ℕ → ℕ
number set xs = value_after set 0 (take 19 xs)
