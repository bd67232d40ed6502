-- "Items in a bundle are all 25 or all 31, as the first": from item to item, as the reading tests it. Assumes nothing.
use Prim.Native.Nat.{ℕ}
use mathlib.Core.Bool.{Bool, true, false, ◌||◌, cond}
use mathlib.Core.Path.{◌≡◌, refl, sym, subst}
use mathlib.Core.List.{List, [], ◌∷◌}
use lib.Dec.{eqb}
use borrow.Author.Tests.{eqb-true, eq-eqb}
use Rattle.order.specs.MayFollow.{one_item_type}
use Rattle.arrangement.specs.Tree.{Addenda, of_check, of_return, of_credit}
use Rattle.arrangement.specs.Sound.{All, layout_in, item_types_in, AllTheFirst}
use Rattle.arrangement.proofs.ItemFigures.{present_with}

-- the types to come, behind checks or returns of a type (0: none yet)
abbrev pub types_from : ℕ → List ℕ → List ℕ
types_from present ts = cond (eqb present 0) ts (present ∷ ts)

abbrev As : ℕ → List ℕ → Type 0
As t us = All (λ (u : ℕ). u ≡ t) us

same_in : (present t : ℕ) (ts : List ℕ) (fresh : Bool) → fresh || eqb present t ≡ true → As t ts
    → AllTheFirst (cond fresh (t ∷ ts) (present ∷ t ∷ ts))
same_in present t ts true e h = h
same_in present t ts false e h = (sym (eqb-true present t e), subst (λ (u : ℕ). As u ts) (sym (eqb-true present t e)) h)

same_out : (present t : ℕ) (ts : List ℕ) (fresh : Bool) → AllTheFirst (cond fresh (t ∷ ts) (present ∷ t ∷ ts))
    → (fresh || eqb present t ≡ true) × As t ts
same_out present t ts true h = (refl, h)
same_out present t ts false h = (eq-eqb present t (sym h.0), rw h.0 h.1)

-- where no item comes any more
pub none-to-come : (present : ℕ) → AllTheFirst (types_from present [])
none-to-come present = either (eqb present 0)
  where
    either : (fresh : Bool) → AllTheFirst (cond fresh [] (present ∷ []))
    either true = tt
    either false = tt

-- an item of a type that may come, before others that are as they should be behind it
pub one-type-in : (a : Addenda) (present : ℕ) (ts : List ℕ) → one_item_type present (layout_in a).type_number ≡ true
    → AllTheFirst (types_from (present_with a present) ts) → AllTheFirst (types_from present (item_types_in a ts))
one-type-in (of_check a b c) present ts e h = same_in present 25 ts (eqb present 0) e h
one-type-in (of_return a b c d) present ts e h = same_in present 31 ts (eqb present 0) e h
one-type-in of_credit present ts e h = h

-- and from items that are as they should be, the first and the others
pub one-type-out : (a : Addenda) (present : ℕ) (ts : List ℕ) → AllTheFirst (types_from present (item_types_in a ts))
    → (one_item_type present (layout_in a).type_number ≡ true) × AllTheFirst (types_from (present_with a present) ts)
one-type-out (of_check a b c) present ts h = same_out present 25 ts (eqb present 0) h
one-type-out (of_return a b c d) present ts h = same_out present 31 ts (eqb present 0) h
one-type-out of_credit present ts h = (refl, h)
