-- The list of file numbers taken, place by place. Assumes nothing.
use Prim.Native.Nat.{ℕ, zero, suc, ◌+◌, ◌-◌, ◌*◌, ◌≤◌, ◌<◌}
use native.Mathlib.Numerals.{sub-one}
use native.Mathlib.Omega.{arith}
use mathlib.Core.Bool.{Bool, true, false, ◌&&◌, ◌||◌, cond}
use mathlib.Core.List.{List, [], ◌∷◌}
use mathlib.Core.Path.{◌≡◌, refl, ◌∙◌}
use lib.Dec.{leb, eqb}
use lib.ListN.{length, get_or}
use borrow.Author.Tests.{leb-true}
use Rattle.book_model.specs.PlainList.{is_taken}
use Rattle.book_model.specs.Table.{places_claimed, places_there, free_places, taken_from, is_list}

-- where a walk over the places claimed stands with so many still to come; the next of them lies within the list
abbrev pub Walk : ℕ → ℕ → ℕ → Type 0
Walk claimed n at = (1 ≤ at) × (at + 2 * n ≡ 1 + 2 * claimed)

-- the walk in a loop over the places claimed, at its place k
pub walk-at : (claimed k : ℕ) → k ≤ claimed → Walk claimed (claimed - k) (1 + 2 * k)
walk-at claimed k h = (omega arith, omega arith)

pub further : (k : ℕ) → 1 + 2 * k + 2 ≡ 1 + 2 * (k + 1)
further k = omega arith

pub place-within : (list : List ℕ) (claimed n at : ℕ) → claimed ≤ places_there list → Walk claimed n at → 0 < n → at + 2 ≤ length list
place-within list claimed n at h w k = omega arith

-- a number that is the owner's, or is not, before others
taken-if : (x : ℕ) (xs : List ℕ) (t : Bool) (m : ℕ) → is_taken m (cond t (x ∷ xs) xs) ≡ (t && eqb x m) || is_taken m xs
unfolding is_taken
taken-if x xs true m = refl
taken-if x xs false m = refl

module _ (o : ℕ) (list : List ℕ) (at : ℕ) where
  places-none : (n : ℕ) → n ≤ 0 → taken_from o list n at ≡ []
  unfolding taken_from
  places-none zero h = refl
  places-none (suc n) h = absurd (omega arith)

  places-more : (n : ℕ) → 0 < n
      → taken_from o list n at
      ≡ cond (eqb (get_or list at 0) o) (get_or list (at + 1) 0 ∷ taken_from o list (n - 1) (at + 2)) (taken_from o list (n - 1) (at + 2))
  unfolding taken_from
  places-more zero h = absurd (omega arith)
  places-more (suc n) h = rw (sub-one (suc n))

  module _ (n m : ℕ) where
    pub taken_none : n ≤ 0 → is_taken m (taken_from o list n at) ≡ false
    unfolding is_taken
    taken_none h = rw (places-none n h)

    taken_more : 0 < n
        → is_taken m (taken_from o list n at)
        ≡ (eqb (get_or list at 0) o && eqb (get_or list (at + 1) 0) m) || is_taken m (taken_from o list (n - 1) (at + 2))
    taken_more h = rw (places-more n h) (taken-if (get_or list (at + 1) 0) (taken_from o list (n - 1) (at + 2)) (eqb (get_or list at 0) o) m)

    pub taken_here : 0 < n → eqb (get_or list at 0) o && eqb (get_or list (at + 1) 0) m ≡ true → is_taken m (taken_from o list n at) ≡ true
    taken_here h e = taken_more h ∙ rw e

    pub taken-behind : 0 < n → eqb (get_or list at 0) o && eqb (get_or list (at + 1) 0) m ≡ false
        → is_taken m (taken_from o list n at) ≡ is_taken m (taken_from o list (n - 1) (at + 2))
    taken-behind h e = taken_more h ∙ rw e

-- a list that is one claims no more places than it has, and where one is free, it lies within the list
pub in_list_lem : (list : List ℕ) → is_list list ≡ true → places_claimed list ≤ places_there list
unfolding is_list
in_list_lem list e = leb-true (places_claimed list) (places_there list) e

pub free-within : (list : List ℕ) → is_list list ≡ true → leb 1 (free_places list) ≡ true → 3 + 2 * places_claimed list ≤ length list
free-within list e f =
    let claims = in_list_lem list e in
    let free = leb-true 1 (free_places list) f in
    omega arith
