-- A number as digits (5.1.3), for the fields that are worked out (request 4).
use Rattle.std.specs.Prelude.{ℕ, zero, suc, ◌+◌, ◌*◌, ◌/◌, ◌%◌, Bool, List, [], ◌∷◌, ◌++◌, ltb}

-- the last n decimal digits, highest first, in ASCII
unfoldable pub digits : ℕ → ℕ → List ℕ
digits zero value = []
digits (suc n) value = digits n (value / 10) ++ ((0x30 + value % 10) ∷ [])

-- the first number that n digits do not hold; whether they hold a number
abbrev pub ten_to : ℕ → ℕ
ten_to zero = 1
ten_to (suc n) = 10 * ten_to n

unfoldable pub fits : ℕ → ℕ → Bool
fits n value = ltb value (ten_to n)
