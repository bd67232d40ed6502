-- What the machine reads back from the bits of an i64: its sign, its distance from zero or from -1, and what 64 bits of a table say.
-- Assumes nothing.
use Prim.Native.Nat.{ℕ, zero, suc, ◌+◌, ◌-◌, ◌^◌, ◌<◌, ◌≤◌}
use native.Mathlib.Omega.{arith}
use mathlib.Core.Bool.{Bool, true, false, ◌&&◌}
use mathlib.Core.Path.{◌≡◌, refl, sym, ap, subst, ◌∙◌}
use lib.Dec.{T, leb, ltb, eqb}
use lib.IntN.{ℤ, pos, negsuc, nat_abs, ◌-ℤ◌}
use lib.Signed.{lt_z, mag, non_neg}
use mir.Syntax.{w64}
use mir.Val.{Fits, SFits, to_z, of_z, sel}
use mir.ValLaws.{to_z-of_z}
use borrow.Author.Tests.{ltb-true, ltb-false}
use Rattle.net.specs.Net.{net_of, signed, is_net}
use Rattle.net.proofs.Laws.{net-pos, net-neg, difference}

-- ---- the sign of a number that a signed local holds, and how far it is from zero or from -1

module _ (z : ℤ) (holds : SFits w64 z) (size : ℕ) (sized : size ≡ mag (to_z w64 (of_z w64 z))) where
  pub below : lt_z (to_z w64 (of_z w64 z)) (pos 0) ≡ true → z ≡ negsuc size
  below e = of z (sized ∙ ap mag (to_z-of_z w64 z holds)) (rw (to_z-of_z w64 z holds) at e)
    where
      of : (y : ℤ) → size ≡ mag y → lt_z y (pos 0) ≡ true → y ≡ negsuc size
      of (pos n) s t = absurd (omega (arith, ltb-true n 0 t))
      of (negsuc n) s t = ap negsuc (sym s)

  pub above : lt_z (to_z w64 (of_z w64 z)) (pos 0) ≡ false → z ≡ pos size
  above e = of z (sized ∙ ap mag (to_z-of_z w64 z holds)) (rw (to_z-of_z w64 z holds) at e)
    where
      of : (y : ℤ) → size ≡ mag y → lt_z y (pos 0) ≡ false → y ≡ pos size
      of (pos n) s t = ap pos (sym s)
      of (negsuc n) s t = cc

-- a number that is not below zero may be read without its sign
pub unsigned : (z : ℤ) (n : ℕ) → z ≡ pos n → n < 2 ^ 63 → T (non_neg z) × Fits w64 (nat_abs z)
unsigned z n e h = subst (λ (y : ℤ). T (non_neg y) × Fits w64 (nat_abs y)) (sym e) (tt, record { fits = omega arith })

-- ---- taking away

pub pos-minus : (a n : ℕ) → pos a -ℤ pos n ≡ net_of a n
pos-minus a n = difference a n

pub neg-minus : (a n : ℕ) → negsuc a -ℤ pos n ≡ negsuc (a + n)
neg-minus a zero = net-neg (a + 0) 0 (suc a) (omega arith)
neg-minus a (suc n) = ap negsuc (omega arith)

-- ---- what 64 bits say

pub by-half : (P : ℤ → Type 0) (bits : ℕ) → (bits ≤ 0x7FFF_FFFF_FFFF_FFFF → P (pos bits)) → (0x7FFF_FFFF_FFFF_FFFF < bits → P (negsuc (0xFFFF_FFFF_FFFF_FFFF - bits))) → P (signed bits)
by-half P bits low high = of (ltb bits (2 ^ 63)) refl
  where
    of : (t : Bool) → ltb bits (2 ^ 63) ≡ t → P (sel t (pos bits) (negsuc (2 ^ 64 - suc bits)))
    of true e = let h = ltb-true bits (2 ^ 63) e in low (omega arith)
    of false e =
        let h = ltb-false bits (2 ^ 63) e in
        subst (λ (n : ℕ). P (negsuc n)) (omega arith) (high (omega arith))

pub signed_high : (bits : ℕ) → 0x7FFF_FFFF_FFFF_FFFF < bits → signed bits ≡ negsuc (0xFFFF_FFFF_FFFF_FFFF - bits)
signed_high bits h = by-half (λ z. z ≡ negsuc (0xFFFF_FFFF_FFFF_FFFF - bits)) bits (λ k. absurd (omega arith)) (λ k. refl)

-- ---- whether bits say credit minus debit

and-true : (a b : Bool) → a && true && b ≡ a && b
and-true true b = refl
and-true false b = refl

module _ (bits credit debit : ℕ) where
  pub said-above : debit ≤ credit → leb (credit - debit) 0x7FFF_FFFF_FFFF_FFFF && eqb bits (credit - debit) ≡ is_net bits (net_of credit debit)
  unfolding is_net
  said-above h = rw (net-pos (credit - debit) credit debit (omega arith))

  pub said-below : credit < debit
      → leb (debit - credit - 1) 0x7FFF_FFFF_FFFF_FFFF && eqb bits (0xFFFF_FFFF_FFFF_FFFF - (debit - credit - 1)) ≡ is_net bits (net_of credit debit)
  unfolding is_net
  said-below h =
      let n = debit - credit - 1 in
      let e : 2 ^ 64 - suc n ≡ 0xFFFF_FFFF_FFFF_FFFF - n = omega arith in
      rw (net-neg n credit debit (omega arith), and-true (leb n 0x7FFF_FFFF_FFFF_FFFF), e)
