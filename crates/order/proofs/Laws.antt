-- What is known of one number of a list. Assumes nothing.
use Prim.Native.Nat.{ℕ}
use mathlib.Core.Path.{◌≡◌, refl, ap, ◌∙◌}
use mathlib.Core.Bool.{Bool, true, false, ◌&&◌, ◌||◌, and-eq-true_iff}
use mathlib.Core.List.{List, [], ◌∷◌}
use lib.Dec.{eqb}
use borrow.Author.Tests.{eqb-true}
use Rattle.text.specs.DataTypes.{every}
use Rattle.order.specs.MayFollow.{is_one_of, follows, one_item_type, may_follow}

pub or-picks : {R : Type 0} (a b : Bool) → a || b ≡ true → (a ≡ true → R) → (b ≡ true → R) → R
or-picks true b e f g = f refl
or-picks false b e f g = g e

-- a law of each number of a list holds of one that is in it
pub among : (law : ℕ → Bool) (t : ℕ) (ts : List ℕ) → every law ts ≡ true → is_one_of t ts ≡ true → law t ≡ true
among law t [] h e = cc
among law t (u ∷ us) h e =
    let both = (and-eq-true_iff (law u) (every law us)).0 h in
    or-picks (eqb t u) (is_one_of t us) e (λ q. ap law (eqb-true t u q) ∙ both.0) (among law t us both.1)

-- the first record is a file header
pub first-type : (t : ℕ) → may_follow false 0 0 t ≡ true → t ≡ 1
unfolding may_follow follows
first-type t e = eqb-true t 1 (cases (eqb t 1) (one_item_type 0 t) e)
  where
    cases : (a b : Bool) → ((a || false) || false) && b ≡ true → a ≡ true
    cases true b e = refl
    cases false b e = e
