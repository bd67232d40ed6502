-- The type of a record, as the code tells it: the definitions say 0, which is no type, where none can be told.
use Rattle.std.specs.Prelude.{ℕ, zero, suc, Option, None, Some}

abbrev pub as_type : ℕ → Option ℕ
as_type zero = None
as_type (suc n) = Some (suc n)
