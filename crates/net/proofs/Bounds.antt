-- Whether a net position that rises or falls stays within the bound, as tests of natural numbers. Assumes nothing.
use Prim.Native.Nat.{ℕ, suc, ◌+◌, ◌-◌, ◌<◌, ◌≤◌}
use native.Mathlib.Omega.{arith}
use mathlib.Core.Bool.{Bool, true, false, and-true}
use mathlib.Core.Path.{◌≡◌, refl, sym, ap, ◌∙◌}
use lib.Dec.{leb, ltb, leb-suc-suc}
use lib.IntN.{ℤ, pos, negsuc, ◌+ℤ◌, ◌-ℤ◌}
use borrow.Author.Tests.{leb-true, leb-false, le-leb, lt-leb}
use Rattle.net.specs.Net.{net_of, within}
use Rattle.net.proofs.Laws.{net-pos, net-neg}
use Rattle.net.proofs.Signed.{pos-minus, neg-minus}

within-pos : (n : ℕ) → within (pos n) ≡ leb n 1_000_000_000_000_000_000
unfolding within
within-pos n = refl

within-neg : (n : ℕ) → within (negsuc n) ≡ ltb n 1_000_000_000_000_000_000
unfolding within
within-neg n = and-true (leb n 999_999_999_999_999_999) ∙ sym (leb-suc-suc n 999_999_999_999_999_999)

same_test : (a b c d : ℕ) → (a ≤ b → c ≤ d) → (b < a → d < c) → leb a b ≡ leb c d
same_test a b c d holds fails = of (leb a b) refl
  where
    of : (t : Bool) → leb a b ≡ t → t ≡ leb c d
    of true e = sym (le-leb c d (holds (leb-true a b e)))
    of false e = sym (lt-leb c d (fails (leb-false a b e)))

module _ (z : ℤ) (size more : ℕ) where
  pub rises-short : z ≡ negsuc size → more ≤ size → ltb (size - more) 1_000_000_000_000_000_000 ≡ within (z +ℤ pos more)
  rises-short e h =
      sym (ap (λ y. within (y +ℤ pos more)) e ∙ ap within (net-neg (size - more) more (suc size) (omega arith)) ∙ within-neg (size - more))

  pub rises-past : z ≡ negsuc size → size < more → leb (more - size - 1) 1_000_000_000_000_000_000 ≡ within (z +ℤ pos more)
  rises-past e h =
      sym (ap (λ y. within (y +ℤ pos more)) e ∙ ap within (net-pos (more - size - 1) more (suc size) (omega arith)) ∙ within-pos (more - size - 1))

  pub rises-beyond : z ≡ pos size → 1_000_000_000_000_000_000 < size → false ≡ within (z +ℤ pos more)
  rises-beyond e h =
      sym (ap (λ y. within (y +ℤ pos more)) e ∙ within-pos (size + more) ∙ lt-leb (size + more) 1_000_000_000_000_000_000 (omega arith))

  pub rises-above : z ≡ pos size → size ≤ 1_000_000_000_000_000_000 → leb more (1_000_000_000_000_000_000 - size) ≡ within (z +ℤ pos more)
  rises-above e h =
      same_test more (1_000_000_000_000_000_000 - size) (size + more) 1_000_000_000_000_000_000 (λ k. omega arith) (λ k. omega arith)
      ∙ sym (ap (λ y. within (y +ℤ pos more)) e ∙ within-pos (size + more))

module _ (z : ℤ) (size less : ℕ) where
  pub falls-beyond : z ≡ negsuc size → 1_000_000_000_000_000_000 ≤ size → false ≡ within (z -ℤ pos less)
  falls-beyond e h =
      sym (ap (λ y. within (y -ℤ pos less)) e ∙ ap within (neg-minus size less) ∙ within-neg (size + less)
      ∙ lt-leb (suc (size + less)) 1_000_000_000_000_000_000 (omega arith))

  pub falls_below : z ≡ negsuc size → size < 1_000_000_000_000_000_000 → ltb less (1_000_000_000_000_000_000 - size) ≡ within (z -ℤ pos less)
  falls_below e h =
      same_test (suc less) (1_000_000_000_000_000_000 - size) (suc (size + less)) 1_000_000_000_000_000_000 (λ k. omega arith) (λ k. omega arith)
      ∙ sym (ap (λ y. within (y -ℤ pos less)) e ∙ ap within (neg-minus size less) ∙ within-neg (size + less))

  pub falls-short : z ≡ pos size → less ≤ size → leb (size - less) 1_000_000_000_000_000_000 ≡ within (z -ℤ pos less)
  falls-short e h =
      sym (ap (λ y. within (y -ℤ pos less)) e ∙ ap within (pos-minus size less ∙ net-pos (size - less) size less (omega arith)) ∙ within-pos (size - less))

  pub falls-past : z ≡ pos size → size < less → leb (less - size) 1_000_000_000_000_000_000 ≡ within (z -ℤ pos less)
  falls-past e h =
      same_test (less - size) 1_000_000_000_000_000_000 (suc (less - size - 1)) 1_000_000_000_000_000_000 (λ k. omega arith) (λ k. omega arith)
      ∙ sym (ap (λ y. within (y -ℤ pos less)) e ∙ ap within (pos-minus size less ∙ net-neg (less - size - 1) size less (omega arith)) ∙ within-neg (less - size - 1))

-- a rise or a fall is what credit minus debit adds
module _ (z : ℤ) (credit debit : ℕ) where
  pub stays-above : debit ≤ credit → within (z +ℤ pos (credit - debit)) ≡ within (z +ℤ net_of credit debit)
  stays-above h = ap (λ y. within (z +ℤ y)) (sym (net-pos (credit - debit) credit debit (omega arith)))

  pub stays-below : credit < debit → within (z -ℤ pos (debit - credit)) ≡ within (z +ℤ net_of credit debit)
  stays-below h =
      let n = debit - credit - 1 in
      let one_more : debit - credit ≡ suc n = omega arith in
      ap (λ (k : ℕ). within (z -ℤ pos k)) one_more ∙ ap (λ y. within (z +ℤ y)) (sym (net-neg n credit debit (omega arith)))
