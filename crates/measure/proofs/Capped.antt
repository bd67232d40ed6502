-- Sums of cents that stop at the first number that no control field can state: it makes no difference whether a sum has stopped before more is
-- added, and a number that a control field can state is the sum exactly where it is the sum that stops. Assumes nothing.
use Prim.Native.Nat.{ℕ, ◌+◌, ◌≤◌, ◌<◌}
use native.Mathlib.Omega.{arith}
use mathlib.Core.Bool.{Bool, true, false, cond}
use mathlib.Core.Path.{◌≡◌, refl, sym, ◌∙◌}
use lib.Dec.{leb, eqb}
use borrow.Author.Tests.{leb-true, leb-false, le-leb, ne_eqb}
use Rattle.measure.specs.Measures.{no_sums, together, unstatable, capped, capped_sums}
use Rattle.measure.specs.declared.Sums.{Sums}

pub capped-below : (n : ℕ) → n ≤ unstatable → capped n ≡ n
capped-below n h = rw (le-leb n unstatable h)

pub capped-above : (n : ℕ) → unstatable ≤ n → capped n ≡ unstatable
capped-above n h = by (leb n unstatable) refl
  where
    by : (b : Bool) → leb n unstatable ≡ b → cond b n unstatable ≡ unstatable
    by true e = omega (arith, leb-true n unstatable e)
    by false e = refl

pub capped_small : (n : ℕ) → capped n ≤ unstatable
capped_small n = by (leb n unstatable) refl
  where
    by : (b : Bool) → leb n unstatable ≡ b → cond b n unstatable ≤ unstatable
    by true e = leb-true n unstatable e
    by false e = omega arith

pub capped-twice : (n : ℕ) → capped (capped n) ≡ capped n
capped-twice n = capped-below (capped n) (capped_small n)

-- what is added to a sum that stopped
pub capped-plus : (a b : ℕ) → capped (a + capped b) ≡ capped (a + b)
capped-plus a b = by (leb b unstatable) refl
  where
    by : (c : Bool) → leb b unstatable ≡ c → capped (a + cond c b unstatable) ≡ capped (a + b)
    by true e = refl
    by false e =
        capped-above (a + unstatable) (omega arith) ∙ sym (capped-above (a + b) (omega (arith, leb-false b unstatable e)))

-- no control field states a sum that stopped, nor the whole sum that it stands for
pub capped-stated : (m n : ℕ) → m < unstatable → eqb m (capped n) ≡ eqb m n
capped-stated m n h = by (leb n unstatable) refl
  where
    by : (c : Bool) → leb n unstatable ≡ c → eqb m (cond c n unstatable) ≡ eqb m n
    by true e = refl
    by false e =
        ne_eqb m unstatable (λ q. omega arith) ∙ sym (ne_eqb m n (λ q. omega (arith, leb-false n unstatable e)))

-- the same of the sums that every level keeps
pub capped-sums-twice : (s : Sums) → capped_sums (capped_sums s) ≡ capped_sums s
capped-sums-twice s = rw (capped-twice s.debit.0, capped-twice s.credit.0)

pub capped-sums-plus : (a b : Sums) → capped_sums (together a (capped_sums b)) ≡ capped_sums (together a b)
capped-sums-plus a b = rw (capped-plus a.debit.0 b.debit.0, capped-plus a.credit.0 b.credit.0)

-- a level that begins anew, or goes on
pub capped-since : (begins : Bool) (a b : ℕ) → capped (cond begins 0 (a + capped b)) ≡ capped (cond begins 0 (a + b))
capped-since true a b = refl
capped-since false a b = capped-plus a b

pub capped-sums-since : (begins : Bool) (a b : Sums)
    → capped_sums (cond begins no_sums (together a (capped_sums b))) ≡ capped_sums (cond begins no_sums (together a b))
capped-sums-since true a b = refl
capped-sums-since false a b = capped-sums-plus a b
