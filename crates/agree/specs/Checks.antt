-- A list of checks, each with the field that it faults, and the first that fails.
use Rattle.std.specs.Prelude.{ℕ, Bool, true, cond, ◌&&◌, List, [], ◌∷◌, leb}

pub record Check : Type 0 where
  pub field : ℕ
  pub holds : Bool

abbrev pub check : ℕ → Bool → Check
check n test = record { field = n; holds = test }

-- the field of the first check that fails, or 0
abbrev pub first_failing : List Check → ℕ
first_failing [] = 0
first_failing (c ∷ cs) = cond c.holds (first_failing cs) c.field

-- the checks as the code has them, each a field with its test, and that their fields count from 1
abbrev pub checks_of : List (ℕ × Bool) → List Check
checks_of [] = []
checks_of (c ∷ cs) = check c.0 c.1 ∷ checks_of cs

abbrev pub fields_from_one : List (ℕ × Bool) → Bool
fields_from_one [] = true
fields_from_one (c ∷ cs) = leb 1 c.0 && fields_from_one cs
