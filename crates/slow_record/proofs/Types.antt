-- The type of a record as the code tells it, and as the definitions say it. Assumes nothing.
use Rattle.std.specs.Prelude.{◌≡◌, ℕ, zero, suc, Option, unwrap_or}
use mathlib.Core.Path.{refl}
use Rattle.slow_record.specs.Types.{as_type}

type-back : (n : ℕ) → n ≡ unwrap_or (as_type n) 0
type-back zero = refl
type-back (suc n) = refl

pub type-told : (o : Option ℕ) (n : ℕ) → o ≡ as_type n → n ≡ unwrap_or o 0
type-told o n e = rw e (type-back n)
