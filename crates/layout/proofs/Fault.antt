-- What an answer says of the field at fault, and what a field at fault says of the answer. Assumes nothing.
use Rattle.std.proofs.Common.{ℕ, zero, suc, ◌≡◌, ◌≤◌, None, Some, refl, arith}
use Rattle.layout.specs.Fault.{as_field}

pub no-field : (n : ℕ) → n ≡ 0 → as_field n ≡ None
no-field n e = rw e

pub a-field : (n : ℕ) → 1 ≤ n → as_field n ≡ Some n
a-field zero h = absurd (omega arith)
a-field (suc n) h = refl

-- the same from the answer
pub faultless : (n : ℕ) → as_field n ≡ None → n ≡ 0
faultless zero e = refl
faultless (suc n) e = cc

pub faulted : (n m : ℕ) → as_field n ≡ Some m → (n ≡ m) × (1 ≤ m)
faulted zero m e = cc
faulted (suc n) m e = let same : suc n ≡ m = cc in (same, omega arith)
