-- The three types of item, sums that have stopped, and amounts. Assumes nothing.
use Prim.Native.Nat.{ℕ, ◌≤◌}
use native.Mathlib.Omega.{arith}
use mathlib.Core.Bool.{Bool, true, false}
use mathlib.Core.Path.{◌≡◌, refl, sym, ap, ◌∙◌, subst}
use lib.Dec.{leb, eqb}
use borrow.Author.Tests.{eqb-true, le-leb}
use Rattle.measure.specs.Measures.{unstatable, capped}
use Rattle.measure.proofs.Capped.{capped_small}
use Rattle.order.specs.MayFollow.{is_item}
use Rattle.standing.specs.Standing.{capped_figures}
use Rattle.standing.specs.declared.Standing.{Standing}

-- what holds of 25, 31 and 61 holds of every item
pub of-item : (P : ℕ → Type 0) (t : ℕ) → is_item t ≡ true → P 25 → P 31 → P 61 → P t
of-item P t e check back credit = one (eqb t 25) refl
  where
    three : (b : Bool) → eqb t 61 ≡ b → eqb t 25 ≡ false → eqb t 31 ≡ false → P t
    three true q no25 no31 = subst P (sym (eqb-true t 61 q)) credit
    three false q no25 no31 = let z : true ≡ false = sym e ∙ rw (no25, no31, q) in let y : ◌≡◌ {A = ℕ} 0 1 = cc in absurd (omega arith)

    two : (b : Bool) → eqb t 31 ≡ b → eqb t 25 ≡ false → P t
    two true q no25 = subst P (sym (eqb-true t 31 q)) back
    two false q no25 = three (eqb t 61) refl no25 q

    one : (b : Bool) → eqb t 25 ≡ b → P t
    one true q = subst P (sym (eqb-true t 25 q)) check
    one false q = two (eqb t 31) refl q

-- an item begins no cash letter and no bundle, ends none and is no view
pub record NoOther (t : ℕ) : Type 0 where
  pub letter : eqb t 10 ≡ false
  pub bundle : eqb t 20 ≡ false
  pub view : eqb t 50 ≡ false
  pub control : eqb t 70 ≡ false

pub no_other : (t : ℕ) → is_item t ≡ true → NoOther t
no_other t e =
    of-item NoOther t e (record { letter = refl; bundle = refl; view = refl; control = refl })
    (record { letter = refl; bundle = refl; view = refl; control = refl }) (record { letter = refl; bundle = refl; view = refl; control = refl })

-- sums of cents that have stopped already
pub record Stopped (s : Standing) : Type 0 where
  pub whole-debit : leb s.whole.debit.0 unstatable ≡ true
  pub whole-credit : leb s.whole.credit.0 unstatable ≡ true
  pub letter-debit : leb s.letter.debit.0 unstatable ≡ true
  pub letter-credit : leb s.letter.credit.0 unstatable ≡ true
  pub bundle-debit : leb s.bundle.debit.0 unstatable ≡ true
  pub bundle-credit : leb s.bundle.credit.0 unstatable ≡ true
  pub micr : leb s.micr.0 unstatable ≡ true

fixed : (n m : ℕ) → capped m ≡ n → leb n unstatable ≡ true
fixed n m e = le-leb n unstatable (subst (λ (k : ℕ). k ≤ unstatable) e (capped_small m))

pub stopped : (s : Standing) → capped_figures s ≡ s → Stopped s
stopped s e =
    record {
      whole-debit = fixed _ s.whole.debit.0 (ap (λ (u : Standing). u.whole.debit.0) e);
      whole-credit = fixed _ s.whole.credit.0 (ap (λ (u : Standing). u.whole.credit.0) e);
      letter-debit = fixed _ s.letter.debit.0 (ap (λ (u : Standing). u.letter.debit.0) e);
      letter-credit = fixed _ s.letter.credit.0 (ap (λ (u : Standing). u.letter.credit.0) e);
      bundle-debit = fixed _ s.bundle.debit.0 (ap (λ (u : Standing). u.bundle.debit.0) e);
      bundle-credit = fixed _ s.bundle.credit.0 (ap (λ (u : Standing). u.bundle.credit.0) e);
      micr = fixed _ s.micr.0 (ap (λ (u : Standing). u.micr.0) e);
    }
