-- How many of the rows claimed are either owner's. Assumes nothing.
use Prim.Native.Nat.{ℕ, zero, suc, ◌+◌, ◌≤◌}
use native.Mathlib.Omega.{arith}
use mathlib.Core.Bool.{Bool, true, false, cond}
use mathlib.Core.Path.{◌≡◌, refl, sym, ◌∙◌}
use mathlib.Core.List.{List, ◌∷◌}
use lib.Dec.{eqb}
use lib.ListN.{length, get_or}
use borrow.Author.Tests.{eqb-true}
use Rattle.book_model.specs.declared.Entry.{Entry}
use Rattle.book_model.specs.Table.{is_owner, rows_claimed, entry_at, entries_from, entries_of, rows_used}
use Rattle.book_model.proofs.Laws.{of_either}

pub never : {A : Type 0} → ◌≡◌ {A = Bool} true false → A
never e = absurd (let z : ◌≡◌ {A = ℕ} 0 1 = cc in omega arith)

-- a row of neither owner is not any owner's
pub not-theirs : (p x : ℕ) → is_owner p ≡ true → is_owner x ≡ false → eqb x p ≡ false
not-theirs p x who nobody = by-test (eqb x p) refl
  where
    by-test : (t : Bool) → eqb x p ≡ t → t ≡ false
    by-test true e = never (sym who ∙ rw (sym (eqb-true x p e)) nobody)
    by-test false e = refl

abbrev pub used : List ℕ → ℕ → ℕ → ℕ
used book n at = length (entries_from 1 book n at) + length (entries_from 2 book n at)

module _ (book : List ℕ) (n at : ℕ) where
  by-owners : (x : ℕ) (e : Entry) (es fs : List Entry) → is_owner x ≡ true
      → length (cond (eqb x 1) (e ∷ es) es) + length (cond (eqb x 2) (e ∷ fs) fs) ≡ suc (length es + length fs)
  by-owners x e es fs who =
      of_either (λ (a : ℕ). length (cond (eqb a 1) (e ∷ es) es) + length (cond (eqb a 2) (e ∷ fs) fs) ≡ suc (length es + length fs)) (omega arith) (omega arith) x who

  pub used-row : is_owner (get_or book at 0) ≡ true → used book (suc n) at ≡ suc (used book n (at + 9))
  unfolding entries_from
  used-row who = by-owners (get_or book at 0) (entry_at book at) (entries_from 1 book n (at + 9)) (entries_from 2 book n (at + 9)) who

  pub gap_row : (p : ℕ) → is_owner p ≡ true → is_owner (get_or book at 0) ≡ false → entries_from p book (suc n) at ≡ entries_from p book n (at + 9)
  unfolding entries_from
  gap_row p who nobody = rw (not-theirs p (get_or book at 0) who nobody)

  pub used-gap : is_owner (get_or book at 0) ≡ false → used book (suc n) at ≡ used book n (at + 9)
  unfolding is_owner
  used-gap nobody = λ i. length (gap_row 1 refl nobody i) + length (gap_row 2 refl nobody i)

pub used-most : (book : List ℕ) (n at : ℕ) → used book n at ≤ n
unfolding entries_from
used-most book zero at = omega arith
used-most book (suc n) at = by-owner (is_owner (get_or book at 0)) refl (used-most book n (at + 9))
  where
    by-owner : (t : Bool) → is_owner (get_or book at 0) ≡ t → used book n (at + 9) ≤ n → used book (suc n) at ≤ suc n
    by-owner true e h = omega (arith, used-row book n at e)
    by-owner false e h = omega (arith, used-gap book n at e)

-- of a whole table
pub used-claimed : (book : List ℕ) → rows_used book ≤ rows_claimed book
unfolding entries_of
used-claimed book = used-most book (rows_claimed book) 17

pub own-claimed : (book : List ℕ) (o : ℕ) → is_owner o ≡ true → length (entries_of o book) ≤ rows_claimed book
own-claimed book = of_either (λ (o : ℕ). length (entries_of o book) ≤ rows_claimed book) (omega (arith, used-claimed book)) (omega (arith, used-claimed book))
