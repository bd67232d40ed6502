-- What is known of net positions: they add up, they can be taken back, and the bits of a table say one exactly where they should.
-- Assumes nothing.
use Prim.Native.Nat.{ℕ, zero, suc, ◌+◌, ◌-◌, ◌^◌, ◌≤◌, ◌<◌}
use native.Mathlib.Omega.{arith}
use mathlib.Core.Bool.{Bool, true, false, ◌&&◌, cond}
use mathlib.Core.Path.{◌≡◌, refl, sym, ap, subst, ◌∙◌}
use lib.Dec.{ltb, eqb}
use lib.IntN.{ℤ, pos, negsuc, ◌+ℤ◌, ◌-ℤ◌}
use lib.Signed.{le_z}
use mir.Syntax.{w64}
use mir.Val.{SFits, to_z, of_z}
use Rattle.std.specs.Prelude.{Some, None, SomeIff, IsSome}
use Rattle.std.specs.declared.option.Option.{Option}
use mir.ValLaws.{to_z-of_z}
use borrow.Author.Tests.{ltb-true, ltb-false, leb-true, le-leb, lt-ltb, le-ltb, eqb-true, eq-eqb}
use Rattle.net.specs.Net.{net_of, bits_of, signed, is_net, within}

-- ---- a difference, by which is larger

pub net-pos : (n c d : ℕ) → c ≡ d + n → net_of c d ≡ pos n
net-pos n c d e = rw (le-ltb c d (omega arith)) (ap pos (omega arith))

pub net-neg : (n c d : ℕ) → d ≡ suc (c + n) → net_of c d ≡ negsuc n
net-neg n c d e = rw (lt-ltb c d (omega arith)) (ap negsuc (omega arith))

pub by-larger : (P : ℤ → Type 0) (c d : ℕ) → ((n : ℕ) → c ≡ d + n → P (pos n)) → ((n : ℕ) → d ≡ suc (c + n) → P (negsuc n)) → P (net_of c d)
by-larger P c d above below = of (ltb c d) refl
  where
    of : (t : Bool) → ltb c d ≡ t → P (cond t (negsuc (d - suc c)) (pos (c - d)))
    of true e = let h = ltb-true c d e in below (d - suc c) (omega arith)
    of false e = let h = ltb-false c d e in above (c - d) (omega arith)

-- equal differences
net-same : (a b c d : ℕ) → a + d ≡ c + b → net_of a b ≡ net_of c d
net-same a b c d e =
    by-larger (λ z. z ≡ net_of c d) a b
    (λ n h. sym (net-pos n c d (omega arith)))
    (λ n h. sym (net-neg n c d (omega arith)))

pub net-sum : (C D c d : ℕ) → net_of C D +ℤ net_of c d ≡ net_of (C + c) (D + d)
net-sum C D c d =
    by-larger (λ z. z +ℤ net_of c d ≡ net_of (C + c) (D + d)) C D
    (λ n h. by-larger (λ z. pos n +ℤ z ≡ net_of (C + c) (D + d)) c d
    (λ m k. sym (net-pos (n + m) (C + c) (D + d) (omega arith)))
    (λ m k. net-same n (suc m) (C + c) (D + d) (omega arith)))
    (λ n h. by-larger (λ z. negsuc n +ℤ z ≡ net_of (C + c) (D + d)) c d
    (λ m k. net-same m (suc n) (C + c) (D + d) (omega arith))
    (λ m k. sym (net-neg (suc (n + m)) (C + c) (D + d) (omega arith))))

pub net-less : (C D c d : ℕ) → c ≤ C → d ≤ D → net_of C D +ℤ net_of d c ≡ net_of (C - c) (D - d)
net-less C D c d h k = net-sum C D d c ∙ net-same (C + d) (D + c) (C - c) (D - d) (omega arith)

-- ---- what the bits say

pub both : (p q : Bool) → p && q ≡ true → (p ≡ true) × (q ≡ true)
both true q e = (refl, e)
both false q e = (e, cc)

-- a number that an i64 holds, and its bits
held : (z : ℤ) → le_z (negsuc 0x7FFF_FFFF_FFFF_FFFF) z && le_z z (pos 0x7FFF_FFFF_FFFF_FFFF) ≡ true → SFits w64 z
held (pos n) e = record { sfits = omega (arith, leb-true n 0x7FFF_FFFF_FFFF_FFFF e) }
held (negsuc n) e = record { sfits = omega (arith, leb-true n 0x7FFF_FFFF_FFFF_FFFF (both _ _ e).0) }

pub net-bits : (bits : ℕ) (net : ℤ) → is_net bits net ≡ true → bits ≡ bits_of net
unfolding is_net
net-bits bits net e = eqb-true bits (bits_of net) (both (le_z (negsuc 0x7FFF_FFFF_FFFF_FFFF) net && le_z net (pos 0x7FFF_FFFF_FFFF_FFFF)) (eqb bits (bits_of net)) e).1

pub net-said : (bits : ℕ) (net : ℤ) → is_net bits net ≡ true → signed bits ≡ net
unfolding is_net
net-said bits net e = ap signed (net-bits bits net e) ∙ to_z-of_z w64 net (held net (both (le_z (negsuc 0x7FFF_FFFF_FFFF_FFFF) net && le_z net (pos 0x7FFF_FFFF_FFFF_FFFF)) (eqb bits (bits_of net)) e).0)

-- a number within the bound is one that an i64 holds
pub within-fits : (z : ℤ) → within z ≡ true → SFits w64 z
unfolding within
within-fits (pos n) e = record { sfits = omega (arith, leb-true n 1_000_000_000_000_000_000 e) }
within-fits (negsuc n) e = record { sfits = omega (arith, leb-true n 999_999_999_999_999_999 (both _ _ e).0) }

pub net-is : (net : ℤ) → within net ≡ true → is_net (bits_of net) net ≡ true
unfolding is_net within
net-is (pos n) e = rw (le-leb n 0x7FFF_FFFF_FFFF_FFFF (omega (arith, leb-true n 1_000_000_000_000_000_000 e)), eq-eqb n n refl)
net-is (negsuc n) e =
    rw (
      le-leb n 0x7FFF_FFFF_FFFF_FFFF (omega (arith, leb-true n 999_999_999_999_999_999 (both _ _ e).0)),
      eq-eqb (bits_of (negsuc n)) (bits_of (negsuc n)) refl,
    )

-- what the library's difference is
pub difference : (credit debit : ℕ) → pos credit -ℤ pos debit ≡ net_of credit debit
difference credit zero = sym (net-pos (credit + 0) credit 0 (omega arith))
difference credit (suc n) = refl

-- bits that say a number, and a number that none say
pub fits-said : (bits : ℕ) (z : ℤ) → SFits w64 z → eqb bits (bits_of z) ≡ is_net bits z
unfolding is_net
fits-said bits (pos n) f = let h : n < 2 ^ 63 = f.sfits in rw (le-leb n 0x7FFF_FFFF_FFFF_FFFF (omega arith))
fits-said bits (negsuc n) f = let h : n < 2 ^ 63 = f.sfits in rw (le-leb n 0x7FFF_FFFF_FFFF_FFFF (omega arith))

pub said : (bits credit debit stated : ℕ) (z : ℤ) → SFits w64 (pos credit -ℤ pos debit) × (z ≡ pos credit -ℤ pos debit) → stated ≡ bits_of (to_z w64 (of_z w64 z))
    → eqb bits stated ≡ is_net bits (net_of credit debit)
said bits credit debit stated z (fits, is) e =
    let holds : SFits w64 z = subst (SFits w64) (sym is) fits in
    rw (e, to_z-of_z w64 z holds) (fits-said bits z holds) ∙ ap (is_net bits) (is ∙ difference credit debit)

pub unsaid : (bits credit debit : ℕ) → (SFits w64 (pos credit -ℤ pos debit) → ⊥) → false ≡ is_net bits (net_of credit debit)
unfolding is_net
unsaid bits credit debit none = rw (← difference credit debit) (of (pos credit -ℤ pos debit) none)
  where
    of : (z : ℤ) → (SFits w64 z → ⊥) → false ≡ le_z (negsuc 0x7FFF_FFFF_FFFF_FFFF) z && le_z z (pos 0x7FFF_FFFF_FFFF_FFFF) && eqb bits (bits_of z)
    of z none = by (le_z (negsuc 0x7FFF_FFFF_FFFF_FFFF) z && le_z z (pos 0x7FFF_FFFF_FFFF_FFFF)) refl
      where
        by : (t : Bool) → le_z (negsuc 0x7FFF_FFFF_FFFF_FFFF) z && le_z z (pos 0x7FFF_FFFF_FFFF_FFFF) ≡ t → false ≡ t && eqb bits (bits_of z)
        by true e = absurd (none (held z e))
        by false e = refl

-- a difference within the bound is there
pub within-some : (o : Option ℤ) (v : ℤ) (credit debit : ℕ) → within (net_of credit debit) ≡ true → SomeIff o (SFits w64 (pos credit -ℤ pos debit)) v → IsSome o
within-some None v credit debit e s = absurd (s (subst (SFits w64) (sym (difference credit debit)) (within-fits (net_of credit debit) e)))
within-some (Some x) v credit debit e s = refl
