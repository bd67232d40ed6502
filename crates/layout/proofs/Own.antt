-- The walk from kind to kind in the table, on plain values. Assumes nothing.
use mathlib.Core.Path.{◌≡◌, refl, sym, ◌∙◌, ap}
use mathlib.Core.List.{List, []}
use Prim.Native.Nat.{ℕ, zero, suc, ◌+◌, ◌-◌, ◌≤◌, ◌<◌}
use native.Mathlib.Omega.{arith}
use borrow.Author.Tests.{eq-eqb, ne_eqb}
use lib.ListN.{length, get_or, drop, drop_of_length-le}
use lib.Seq.{drop-drop}
use Rattle.text.proofs.Laws.{rest}
use Rattle.layout.specs.Packing.{type_in, fields_in, own_in}

-- what is left to look at, from a place on, gives what the whole gives
pub record Left (numbers : List ℕ) (t at : ℕ) : Type 0 where
  pub fuel : ℕ
  pub enough : length numbers ≤ at + fuel
  pub same : own_in t fuel (drop at numbers) ≡ own_in t (length numbers) numbers

own-none : (t n : ℕ) → own_in t n [] ≡ []
unfolding own_in
own-none t zero = refl
own-none t (suc n) = refl

pub own-at-end : (numbers : List ℕ) (t at : ℕ) → length numbers ≤ at → Left numbers t at → [] ≡ own_in t (length numbers) numbers
own-at-end numbers t at h l =
    sym (own-none t l.fuel) ∙ ap (own_in t l.fuel) (sym (drop_of_length-le numbers h)) ∙ l.same

module _ (numbers : List ℕ) (t at : ℕ) (inside : at < length numbers) where
  here : (n : ℕ) → length numbers ≤ at + n → t ≡ type_in (get_or numbers at 0) → own_in t n (drop at numbers) ≡ drop at numbers
  unfolding own_in
  here zero h e = absurd (omega arith)
  here (suc n) h e = rw (rest numbers at inside, eq-eqb t (type_in (get_or numbers at 0)) e)

  pub own-here : Left numbers t at → t ≡ type_in (get_or numbers at 0) → drop at numbers ≡ own_in t (length numbers) numbers
  own-here l e = sym (here l.fuel l.enough e) ∙ l.same

  module _ (other : t ≡ type_in (get_or numbers at 0) → ⊥) where
    behind : (n : ℕ) → own_in t (suc n) (drop at numbers) ≡ own_in t n (drop (at + (fields_in (get_or numbers at 0) + 1)) numbers)
    unfolding own_in
    behind n =
        rw (rest numbers at inside, ne_eqb t (type_in (get_or numbers at 0)) other)
        (ap (own_in t n) (drop-drop (fields_in (get_or numbers at 0)) (at + 1) numbers ∙ ap (λ (k : ℕ). drop k numbers) next))
      where
        next : at + 1 + fields_in (get_or numbers at 0) ≡ at + (fields_in (get_or numbers at 0) + 1)
        next = omega arith

    pub own-later : Left numbers t at → Left numbers t (at + (fields_in (get_or numbers at 0) + 1))
    own-later l = on l.fuel l.enough l.same
      where
        on : (n : ℕ) → length numbers ≤ at + n → own_in t n (drop at numbers) ≡ own_in t (length numbers) numbers
            → Left numbers t (at + (fields_in (get_or numbers at 0) + 1))
        on zero h e = absurd (omega arith)
        on (suc n) h e = record { fuel = n; enough = omega arith; same = sym (behind n) ∙ e }

    pub own-ends : Left numbers t at → length numbers - at ≤ fields_in (get_or numbers at 0) → [] ≡ own_in t (length numbers) numbers
    own-ends l short =
        own-at-end numbers t (at + (fields_in (get_or numbers at 0) + 1)) (omega arith) (own-later l)
