-- Rows that are used and rows that are free, row by row. Assumes nothing.
use Prim.Native.Nat.{ℕ, zero, suc, ◌+◌, ◌-◌, ◌*◌, ◌≤◌, ◌<◌}
use native.Mathlib.Numerals.{sub-one}
use native.Mathlib.Omega.{arith}
use mathlib.Core.Bool.{Bool, true, false, ◌&&◌, ◌||◌, cond}
use mathlib.Core.List.{List, [], ◌++◌}
use mathlib.Core.Path.{◌≡◌, refl, ap, ◌∙◌}
use lib.Dec.{eqb}
use lib.ListN.{length, get_or, length-append}
use borrow.Author.Tests.{eqb-false}
use Rattle.frame.specs.Frames.{part}
use Rattle.copying.proofs.Laws.{length_part}
use Rattle.book_model.specs.Table.{is_owner, entries_from, cleared, used_from}
use Rattle.book_model.proofs.Laws.{of_either, count_none, count-own, count-other}
use Rattle.book_gaps.specs.Spots.{spot_from}
use Rattle.copying.specs.Times.{times}
use lib.Seq.{sets}

-- how many of so many rows are either owner's
abbrev pub used_in : List ℕ → ℕ → ℕ → ℕ
used_in book n at = length (entries_from 1 book n at) + length (entries_from 2 book n at)

-- no owner is neither of two
or-false : (p q : Bool) → p || q ≡ false → (p ≡ false) × (q ≡ false)
or-false true q e = (e, cc)
or-false false q e = (refl, e)

nobody : (o : ℕ) → is_owner o ≡ false → (o ≡ 1 → ⊥) × (o ≡ 2 → ⊥)
unfolding is_owner
nobody o e = let u = or-false (eqb o 1) (eqb o 2) e in (eqb-false o 1 u.0, eqb-false o 2 u.1)

module _ (book : List ℕ) (at : ℕ) where
  pub used-none : (n : ℕ) → n ≤ 0 → used_in book n at ≡ 0
  used-none n h = omega (arith, count_none 1 book at n h, count_none 2 book at n h)

  pub used-here : (n : ℕ) → 0 < n → is_owner (get_or book at 0) ≡ true → used_in book n at ≡ suc (used_in book (n - 1) (at + 9))
  used-here n h who = of_either (λ (o : ℕ). get_or book at 0 ≡ o → used_in book n at ≡ suc (used_in book (n - 1) (at + 9))) first second (get_or book at 0) who refl
    where
      first : get_or book at 0 ≡ 1 → used_in book n at ≡ suc (used_in book (n - 1) (at + 9))
      first e = let none : get_or book at 0 ≡ 2 → ⊥ = λ d. omega arith in omega (arith, count-own 1 book at n h e, count-other 2 book at n h none)

      second : get_or book at 0 ≡ 2 → used_in book n at ≡ suc (used_in book (n - 1) (at + 9))
      second e = let none : get_or book at 0 ≡ 1 → ⊥ = λ d. omega arith in omega (arith, count-own 2 book at n h e, count-other 1 book at n h none)

  pub used-behind : (n : ℕ) → 0 < n → is_owner (get_or book at 0) ≡ false → used_in book n at ≡ used_in book (n - 1) (at + 9)
  used-behind n h e =
      let u = nobody (get_or book at 0) e in
      omega (arith, count-other 1 book at n h u.0, count-other 2 book at n h u.1)

  -- the first free row
  pub spot-none : (n : ℕ) → n ≤ 0 → spot_from book n at ≡ record { at = at; rows = n }
  unfolding spot_from
  spot-none zero h = refl
  spot-none (suc n) h = absurd (omega arith)

  spot-more : (n : ℕ) → 0 < n → spot_from book n at ≡ cond (is_owner (get_or book at 0)) (spot_from book (n - 1) (at + 9)) (record { at = at; rows = n - 1 })
  unfolding spot_from
  spot-more zero h = absurd (omega arith)
  spot-more (suc n) h = rw (sub-one (suc n))

  pub spot-here : (n : ℕ) → 0 < n → is_owner (get_or book at 0) ≡ false → spot_from book n at ≡ record { at = at; rows = n - 1 }
  spot-here n h e = spot-more n h ∙ rw e

  pub spot-behind : (n : ℕ) → 0 < n → is_owner (get_or book at 0) ≡ true → spot_from book n at ≡ spot_from book (n - 1) (at + 9)
  spot-behind n h e = spot-more n h ∙ rw e

  -- the numbers of the rows that are used
  pub closed_none : (n : ℕ) → n ≤ 0 → used_from book n at ≡ []
  unfolding used_from
  closed_none zero h = refl
  closed_none (suc n) h = absurd (omega arith)

  closed-more : (n : ℕ) → 0 < n → used_from book n at ≡ cond (is_owner (get_or book at 0)) (part at 9 book ++ used_from book (n - 1) (at + 9)) (used_from book (n - 1) (at + 9))
  unfolding used_from
  closed-more zero h = absurd (omega arith)
  closed-more (suc n) h = rw (sub-one (suc n))

  pub closed-here : (n : ℕ) → 0 < n → is_owner (get_or book at 0) ≡ true → used_from book n at ≡ part at 9 book ++ used_from book (n - 1) (at + 9)
  closed-here n h e = closed-more n h ∙ rw e

  pub closed-behind : (n : ℕ) → 0 < n → is_owner (get_or book at 0) ≡ false → used_from book n at ≡ used_from book (n - 1) (at + 9)
  closed-behind n h e = closed-more n h ∙ rw e

-- a row cleared
module _ (o m : ℕ) (book : List ℕ) (at : ℕ) where
  pub cleared-none : (n : ℕ) → n ≤ 0 → cleared o m book n at ≡ book
  unfolding cleared
  cleared-none zero h = refl
  cleared-none (suc n) h = absurd (omega arith)

  cleared_more : (n : ℕ) → 0 < n → cleared o m book n at ≡ cond (eqb (get_or book at 0) o && eqb (get_or book (at + 1) 0) m) (sets book at (times 9 0)) (cleared o m book (n - 1) (at + 9))
  unfolding cleared
  cleared_more zero h = absurd (omega arith)
  cleared_more (suc n) h = rw (sub-one (suc n))

  pub cleared-here : (n : ℕ) → 0 < n → eqb (get_or book at 0) o && eqb (get_or book (at + 1) 0) m ≡ true → cleared o m book n at ≡ sets book at (times 9 0)
  cleared-here n h e = cleared_more n h ∙ rw e

  pub cleared-behind : (n : ℕ) → 0 < n → eqb (get_or book at 0) o && eqb (get_or book (at + 1) 0) m ≡ false → cleared o m book n at ≡ cleared o m book (n - 1) (at + 9)
  cleared-behind n h e = cleared_more n h ∙ rw e

-- nine numbers for each row that is used
pub closed-length : (book : List ℕ) (n at : ℕ) → at + 9 * n ≤ length book → length (used_from book n at) ≡ 9 * used_in book n at
closed-length book zero at h = ap length (closed_none book at 0 (omega arith)) ∙ omega (arith, used-none book at 0 (omega arith))
closed-length book (suc n) at h = by-owner (is_owner (get_or book at 0)) refl (rw (sub-one (suc n)) (closed-length book n (at + 9) (omega arith)))
  where
    by-owner : (t : Bool) → is_owner (get_or book at 0) ≡ t → length (used_from book (suc n - 1) (at + 9)) ≡ 9 * used_in book (suc n - 1) (at + 9)
        → length (used_from book (suc n) at) ≡ 9 * used_in book (suc n) at
    by-owner true e behind =
        ap length (closed-here book at (suc n) (omega arith) e)
        ∙ length-append (part at 9 book) (used_from book (suc n - 1) (at + 9))
        ∙ omega (arith, behind, length_part book at 9 (omega arith), used-here book at (suc n) (omega arith) e)
    by-owner false e behind = ap length (closed-behind book at (suc n) (omega arith) e) ∙ omega (arith, behind, used-behind book at (suc n) (omega arith) e)
