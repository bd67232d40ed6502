-- One byte many times.
use Rattle.std.specs.Prelude.{ℕ, zero, suc, List, [], ◌∷◌}

abbrev pub times : ℕ → ℕ → List ℕ
times zero x = []
times (suc n) x = x ∷ times n x
