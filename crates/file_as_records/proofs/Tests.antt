-- A test and the fact that it tests, both ways. Assumes nothing.
use Prim.Native.Nat.{ℕ}
use native.Mathlib.Omega.{arith}
use mathlib.Core.Bool.{Bool, true, false, ◌&&◌, ◌||◌, not, cond}
use mathlib.Core.Logic.{◌⊎◌, inl, inr}
use mathlib.Core.Path.{◌≡◌, refl, sym, ap, subst, ◌∙◌}
use mathlib.Core.List.{List, [], ◌∷◌}
use lib.Dec.{eqb}
use borrow.Author.Tests.{eqb-true, eq-eqb}
use Rattle.agree.specs.Links.{same}

-- no test is both
pub not-both : false ≡ true → ⊥
not-both e = let z : ◌≡◌ {A = ℕ} 0 1 = cc in omega arith

pub refuted : {A : Type 0} (c : Bool) → c ≡ false → c ≡ true → A
refuted c f t = absurd (not-both (sym f ∙ t))

pub both : (a b : Bool) → a && b ≡ true → (a ≡ true) × (b ≡ true)
both true b e = (refl, e)
both false b e = ((cc), (cc))

-- byte by byte
pub same_in : (xs ys : List ℕ) → same xs ys ≡ true → xs ≡ ys
same_in [] [] e = refl
same_in [] (y ∷ ys) e = cc
same_in (x ∷ xs) [] e = cc
same_in (x ∷ xs) (y ∷ ys) e =
    let p = both (eqb x y) (same xs ys) e in
    let h = eqb-true x y p.0 in
    let t = same_in xs ys p.1 in
    cc

pub same_self : (xs : List ℕ) → same xs xs ≡ true
same_self [] = refl
same_self (x ∷ xs) = rw (eq-eqb x x refl) (same_self xs)

pub same_out : (xs ys : List ℕ) → xs ≡ ys → same xs ys ≡ true
same_out xs ys e = subst (λ (zs : List ℕ). same xs zs ≡ true) e (same_self xs)

-- one test where another holds
pub where-in : (a b : Bool) → not a || b ≡ true → a ≡ true → b ≡ true
where-in true b e h = e
where-in false b e h = cc

pub where-out : (a b : Bool) → (a ≡ true → b ≡ true) → not a || b ≡ true
where-out true b h = h refl
where-out false b h = refl

pub untrue : (c : Bool) → not c ≡ true → c ≡ false
untrue true e = cc
untrue false e = refl

-- what a test does not pick need not agree
pub under : {A : Type 0} (c : Bool) {x x' y y' : A} → (c ≡ true → x ≡ x') → y ≡ y' → cond c x y ≡ cond c x' y'
under true p q = p refl
under false p q = q

pub under-and : (c : Bool) {d d' : Bool} → (c ≡ true → d ≡ d') → c && d ≡ c && d'
under-and true p = p refl
under-and false p = refl

pub under-where : (c : Bool) {d d' : Bool} → (c ≡ true → d ≡ d') → not c || d ≡ not c || d'
under-where true p = p refl
under-where false p = refl

-- "not blank if .. is 1"
pub signed-in : (n : ℕ) (blank : Bool) → not (eqb n 1) || not blank ≡ true → n ≡ 1 → blank ≡ false
signed-in n blank e h = untrue blank (where-in (eqb n 1) (not blank) e (eq-eqb n 1 h))

pub signed-out : (n : ℕ) (blank : Bool) → (n ≡ 1 → blank ≡ false) → not (eqb n 1) || not blank ≡ true
signed-out n blank h = where-out (eqb n 1) (not blank) (λ e. ap not (h (eqb-true n 1 e)))

-- "blank is not compared"
pub blank-in : (blank : Bool) (n m : ℕ) → blank || eqb n m ≡ true → (blank ≡ true) ⊎ (n ≡ m)
blank-in true n m e = inl refl
blank-in false n m e = inr (eqb-true n m e)

pub blank-out : (blank : Bool) (n m : ℕ) → (blank ≡ true) ⊎ (n ≡ m) → blank || eqb n m ≡ true
blank-out true n m h = refl
blank-out false n m (inl h) = cc
blank-out false n m (inr h) = eq-eqb n m h
