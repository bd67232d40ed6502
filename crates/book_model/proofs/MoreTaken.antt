-- The list of file numbers taken with one more: it is its owner's last, and the other owner's are as they were. Assumes nothing.
use Prim.Native.Nat.{ℕ, zero, suc, ◌+◌, ◌-◌, ◌*◌, ◌/◌, ◌≤◌}
use native.Mathlib.Nat.{suc-add}
use native.Mathlib.Omega.{arith}
use mathlib.Core.Bool.{Bool, true, false, cond}
use mathlib.Core.Path.{◌≡◌, refl, sym, ap, ◌∙◌}
use mathlib.Core.List.{List, [], ◌∷◌, ◌++◌}
use lib.Dec.{eqb}
use lib.ListN.{length, get_or, set, length-set}
use lib.Seq.{sets, length-sets, get_or-set_same, get_or-set_other}
use borrow.Author.Tests.{le-leb}
use Rattle.book_model.specs.Table.{places_claimed, places_there, free_places, taken_from, taken_by, is_list, with_taken}
use Rattle.book_model.proofs.Stores.{stored-before, stored-first, stored-in}
use Rattle.book_model.proofs.Rows.{Alike}

module _ (p : ℕ) where
  taken-alike : (t u : List ℕ) (n at : ℕ) → Alike t u at (at + 2 * n) → taken_from p t n at ≡ taken_from p u n at
  unfolding taken_from
  taken-alike t u zero at h = refl
  taken-alike t u (suc n) at h =
      rw (
        h at (omega arith) (omega arith),
        h (at + 1) (omega arith) (omega arith),
        taken-alike t u n (at + 2) (λ k a b. h k (omega arith) (omega arith)),
      )

  -- so many places, and one behind them
  one-behind : (t : List ℕ) (n at : ℕ)
      → taken_from p t (n + 1) at ≡ taken_from p t n at ++ cond (eqb (get_or t (at + 2 * n) 0) p) (get_or t (at + 2 * n + 1) 0 ∷ []) []
  unfolding taken_from
  one-behind t zero at = ap (λ (k : ℕ). cond (eqb (get_or t k 0) p) (get_or t (k + 1) 0 ∷ []) []) (sym (no_place at))
    where
      no_place : (k : ℕ) → k + 2 * 0 ≡ k
      no_place k = omega arith
  one-behind t (suc n) at =
      rw (suc-add n 1, one-behind t n (at + 2), one_further at n)
      (joined (eqb (get_or t at 0) p) (get_or t (at + 1) 0) (taken_from p t n (at + 2)) (cond (eqb (get_or t (at + 2 * suc n) 0) p) (get_or t (at + 2 * suc n + 1) 0 ∷ []) []))
    where
      one_further : (k n : ℕ) → k + 2 + 2 * n ≡ k + 2 * suc n
      one_further k n = omega arith

      joined : (own : Bool) (x : ℕ) (xs ys : List ℕ) → cond own (x ∷ xs ++ ys) (xs ++ ys) ≡ cond own (x ∷ xs) xs ++ ys
      joined true x xs ys = refl
      joined false x xs ys = refl

module _ (o : ℕ) (list : List ℕ) (m : ℕ) where
  abbrev at : ℕ
  at = 1 + 2 * places_claimed list

  abbrev counted : List ℕ
  counted = set list 0 (places_claimed list + 1)

  abbrev after : List ℕ
  after = sets counted at (o ∷ m ∷ [])

  pub record Taken (after : List ℕ) : Type 0 where
    pub is-list : is_list after ≡ true
    pub fewer : free_places after ≡ free_places list - 1
    pub taken : (p : ℕ) → taken_by p after ≡ taken_by p list ++ cond (eqb o p) (m ∷ []) []

  module _ (room : 1 ≤ free_places list) where
    after-long : length after ≡ length list
    after-long = length-sets counted at (o ∷ m ∷ []) ∙ length-set list 0 (places_claimed list + 1)

    there : places_there after ≡ places_there list
    there = ap (λ (n : ℕ). (n - 1) / 2) after-long

    place-fits : at + 2 ≤ length counted
    place-fits = omega (arith, length-set list 0 (places_claimed list + 1))

    after-claimed : places_claimed after ≡ places_claimed list + 1
    after-claimed = stored-before (o ∷ m ∷ []) counted at 0 (omega arith) ∙ get_or-set_same list 0 (places_claimed list + 1) 0 (omega arith)

    taken-after : (p : ℕ) → taken_by p after ≡ taken_by p list ++ cond (eqb o p) (m ∷ []) []
    unfolding taken_by
    taken-after p =
        ap (λ (n : ℕ). taken_from p after n 1) after-claimed ∙ one-behind p after (places_claimed list) 1 ∙ (λ i. old i ++ cond (eqb (owner i) p) (number i ∷ []) [])
      where
        old : taken_from p after (places_claimed list) 1 ≡ taken_from p list (places_claimed list) 1
        old =
            taken-alike p after list (places_claimed list) 1
            (λ k a b. stored-before (o ∷ m ∷ []) counted at k b ∙ get_or-set_other list 0 k (places_claimed list + 1) 0 (λ e. omega arith))

        owner : get_or after at 0 ≡ o
        owner = stored-first o (m ∷ []) counted at place-fits

        number : get_or after (at + 1) 0 ≡ m
        number = stored-in (o ∷ m ∷ []) counted at 1 place-fits (omega arith)

    pub taken_more : Taken (with_taken o list m)
    unfolding with_taken is_list
    taken_more =
        record {
          is-list = le-leb (places_claimed after) (places_there after) (omega (arith, after-claimed, there));
          fewer = omega (arith, after-claimed, there);
          taken = taken-after;
        }
