-- The runs of letters and digits of code page 037, the numbers between them, and the single characters. Assumes nothing.
use Prim.Native.Nat.{ℕ, ◌+◌, ◌-◌, ◌≤◌, ◌<◌}
use mathlib.Core.Path.{◌≡◌, refl, sym, ap, ◌∙◌}
use mathlib.Core.Bool.{Bool, true, false, ◌||◌, not}
use mathlib.Core.List.{List, [], ◌∷◌}
use native.Mathlib.Omega.{arith}
use borrow.Author.Tests.{eqb-true, eq-eqb, ne_eqb}
use lib.Dec.{eqb}
use Rattle.text.specs.declared.character_set.CharacterSet.TheVariants.{Ebcdic}
use Rattle.text.specs.Capitals.{capital}
use Rattle.ascii_copy.specs.CodePage037.{counterpart}
use Rattle.ascii_copy.proofs.Characters.{passes_below, passes-below}

-- a test that is computed at the n numbers from low on
pub passes-from : (test : ℕ → Bool) (low n : ℕ) → passes_below n (λ k. test (low + k)) ≡ true → (x : ℕ) → low ≤ x → x < low + n → test x ≡ true
passes-from test low n e x h l =
    let place : low + (x - low) ≡ x = omega arith in
    rw place at (passes-below n (λ k. test (low + k)) e (x - low) (omega arith))

-- a run of letters or digits
abbrev stands_for : ℕ → ℕ → ℕ → Bool
stands_for low first y = eqb (y - low + first) (counterpart y)

pub in-run : (low n first : ℕ) → passes_below n (λ k. stands_for low first (low + k)) ≡ true → (x : ℕ) → low ≤ x → x < low + n
    → x - low + first ≡ counterpart x
in-run low n first e x h l = eqb-true (x - low + first) (counterpart x) (passes-from (stands_for low first) low n e x h l)

-- numbers that are neither
abbrev is_neither : ℕ → Bool
is_neither y = eqb (capital Ebcdic y) 0

pub in-gap : (low n : ℕ) → passes_below n (λ k. is_neither (low + k)) ≡ true → (x : ℕ) → low ≤ x → x < low + n → capital Ebcdic x ≡ 0
in-gap low n e x h l = eqb-true (capital Ebcdic x) 0 (passes-from is_neither low n e x h l)

pub single : (k v x : ℕ) → v ≡ counterpart k → x ≡ k → v ≡ counterpart x
single k v x e h = e ∙ ap counterpart (sym h)

-- none of the keys of a match, as its last arm has it
abbrev NoneOf : List ℕ → ℕ → Type 0
NoneOf [] x = Unit {0}
NoneOf (k ∷ ks) x = NoneOf ks x × (x ≡ k → ⊥)

abbrev is_one_of : ℕ → List ℕ → Bool
is_one_of x [] = false
is_one_of x (k ∷ ks) = eqb x k || is_one_of x ks

none_of : (ks : List ℕ) (x : ℕ) → NoneOf ks x → is_one_of x ks ≡ false
none_of [] x h = refl
none_of (k ∷ ks) x h = rw (ne_eqb x k h.1) (none_of ks x h.0)

-- Numbers that are neither letter nor digit nor one of some keys stand for no character.
abbrev told : List ℕ → ℕ → Bool
told keys y = is_one_of y keys || not (is_neither y) || eqb 0 (counterpart y)

pub stands-for-none : (keys : List ℕ) (low n : ℕ) → passes_below n (λ k. told keys (low + k)) ≡ true → (x : ℕ) → low ≤ x → x < low + n
    → capital Ebcdic x ≡ 0 → NoneOf keys x → 0 ≡ counterpart x
stands-for-none keys low n e x h l c none =
    eqb-true 0 (counterpart x) (rw (none_of keys x none, eq-eqb (capital Ebcdic x) 0 c) at (passes-from (told keys) low n e x h l))
