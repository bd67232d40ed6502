-- The field at fault, as the code tells it: fields count from 1, and the definitions of faults say 0 where there is none.
use Rattle.std.specs.Prelude.{ℕ, zero, suc, Option, None, Some}

abbrev pub as_field : ℕ → Option ℕ
as_field zero = None
as_field (suc n) = Some (suc n)
