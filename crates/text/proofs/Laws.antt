-- One turn of each loop, on plain lists. Assumes nothing.
use mathlib.Core.Path.{◌≡◌, refl, ap, sym, ◌∙◌}
use mathlib.Core.Bool.{Bool, true, false, ◌&&◌, ◌||◌, not, cond}
use mathlib.Core.List.{List, [], ◌∷◌}
use Prim.Native.Nat.{ℕ, ◌+◌, ◌-◌, ◌*◌, ◌^◌, ◌≤◌, ◌<◌}
use native.Mathlib.Numerals.{add-one}
use native.Mathlib.Nat.{pow-suc, pow-le-pow_right, mul_comm, mul_assoc, mul-le-mul_right, lt_of_lt_of_le}
use native.Mathlib.Omega.{arith}
use borrow.Author.Tests.{leb-true}
use lib.Dec.{leb}
use lib.ListN.{length, get_or, take, drop, drop_of_length-le, length-take}
use lib.Seq.{drop-cons}
use Rattle.std.specs.List.{list_any}
use Rattle.text.specs.declared.character_set.CharacterSet.{CharacterSet}
use Rattle.text.specs.declared.character_set.CharacterSet.TheVariants.{Ascii, Ebcdic}
use Rattle.text.specs.Ranges.{within}
use Rattle.text.specs.Characters.{is_numeric}
use Rattle.text.specs.declared.data_types.DataType.{DataType}
use Rattle.text.specs.declared.data_types.DataType.TheVariants.{Binary}
use Rattle.text.specs.DataTypes.{every, some, blank_after, blank_embedded, admits, keeps_digits_together, of_type}
use Rattle.text.specs.Number.{code_of_zero, digit, value_after, number}

-- what is left at i is the element there and what is left after it
pub rest : (s : List ℕ) (i : ℕ) → i < length s → drop i s ≡ get_or s i 0 ∷ drop (i + 1) s
rest s i h = rw add-one (drop-cons s i 0 h)

pub and-true : (b : Bool) → b && true ≡ b
and-true true = refl
and-true false = refl

module _ (test : ℕ → Bool) (s : List ℕ) (i : ℕ) where
  pub every-turn : i < length s → every test (drop i s) ≡ test (get_or s i 0) && every test (drop (i + 1) s)
  every-turn h = rw (rest s i h)

  pub every-ends : length s ≤ i → every test (drop i s) ≡ true
  every-ends h = rw (drop_of_length-le s h)

  pub every-fails : i < length s → test (get_or s i 0) ≡ false → every test (drop i s) ≡ false
  every-fails h e = rw (every-turn h, e)

  pub every-goes-on : i < length s → test (get_or s i 0) ≡ true → every test (drop i s) ≡ every test (drop (i + 1) s)
  every-goes-on h e = rw (every-turn h, e)

  pub some-found : i < length s → test (get_or s i 0) ≡ true → some test (drop i s) ≡ true
  some-found h e = rw (rest s i h, e)

  pub some-goes-on : i < length s → test (get_or s i 0) ≡ false → some test (drop i s) ≡ some test (drop (i + 1) s)
  some-goes-on h e = rw (rest s i h, e)

  pub some-ends : length s ≤ i → some test (drop i s) ≡ false
  some-ends h = rw (drop_of_length-le s h)

-- what the library's `any` says of a test, in the words of clause 5
module _ (test : ℕ → Bool) where
  some_of_any : (xs : List ℕ) → list_any test xs ≡ some test xs
  some_of_any [] = refl
  some_of_any (x ∷ xs) = ap (λ (b : Bool). test x || b) (some_of_any xs)

  pub some_from_any : (r : Bool) (xs : List ℕ) → r ≡ list_any test xs → r ≡ some test xs
  some_from_any r xs e = e ∙ some_of_any xs

-- Whether a blank stands embedded in what is left, where `before` says that a digit came, and `gap` that a blank came after one.
abbrev pub embedded_from : CharacterSet → Bool → Bool → List ℕ → Bool
embedded_from set before gap xs = (gap && some (is_numeric set) xs) || blank_after set before xs

module _ (set : CharacterSet) (sum : ℕ) (s : List ℕ) (i : ℕ) where
  pub value-goes-on : i < length s → value_after set sum (drop i s) ≡ value_after set (sum * 10 + digit set (get_or s i 0)) (drop (i + 1) s)
  value-goes-on h = rw (rest s i h)

  pub value-ends : length s ≤ i → value_after set sum (drop i s) ≡ sum
  value-ends h = rw (drop_of_length-le s h)

pub ten-more : (i : ℕ) → 10 ^ (i + 1) ≡ 10 ^ i * 10
ten-more i = rw add-one (pow-suc 10 i)

pub ten-top : (i : ℕ) → i ≤ 18 → 10 ^ i ≤ 10 ^ 18
ten-top i h = pow-le-pow_right (omega arith) h

-- binary data is of its type, whatever it is
pub binary-passes : (set : CharacterSet) (xs : List ℕ) → true ≡ of_type set Binary xs
unfolding of_type
binary-passes set [] = refl
binary-passes set (x ∷ xs) = binary-passes set xs

-- the type of a field by what its loops find, at a type that is known
module _ (set : CharacterSet) (t known : DataType) (xs : List ℕ) (e : t ≡ known) where
  pub together : keeps_digits_together known ≡ true → every (admits set known) xs && not (blank_embedded set xs) ≡ of_type set t xs
  unfolding of_type
  together k = rw (e, k)

  pub apart : keeps_digits_together known ≡ false → every (admits set known) xs ≡ of_type set t xs
  unfolding of_type
  apart k = rw (e, k) (sym (and-true (every (admits set known) xs)))

-- a character is a digit by its place after the zero of its set
pub digit-told : (set : CharacterSet) (x : ℕ) → digit set x ≡ cond (within (code_of_zero set) (code_of_zero set + 9) x) (x - code_of_zero set) 0
digit-told Ascii x = refl
digit-told Ebcdic x = refl

-- a digit is at most 9, and a run of k digits has a number below the k-th power of ten
digit-test : (a b : Bool) (first x : ℕ) → (b ≡ true → x ≤ first + 9) → cond (a && b) (x - first) 0 ≤ 9
digit-test true true first x h = omega (arith, h refl)
digit-test true false first x h = omega arith
digit-test false b first x h = omega arith

digit-small : (set : CharacterSet) (x : ℕ) → digit set x ≤ 9
digit-small set x =
    rw (digit-told set x)
    (digit-test (leb (code_of_zero set) x) (leb x (code_of_zero set + 9)) (code_of_zero set) x (leb-true x (code_of_zero set + 9)))

value-below : (set : CharacterSet) (v : ℕ) (xs : List ℕ) → value_after set v xs < (v + 1) * 10 ^ length xs
value-below set v [] = omega arith
value-below set v (x ∷ xs) =
    let step : v * 10 + digit set x + 1 ≤ (v + 1) * 10 = omega (arith, digit-small set x) in
    rw (pow-suc 10 (length xs), mul_comm (10 ^ length xs) 10, ← mul_assoc (v + 1) 10 (10 ^ length xs))
    (lt_of_lt_of_le (value-below set (v * 10 + digit set x) xs) (mul-le-mul_right (10 ^ length xs) step))

pub number-below : (set : CharacterSet) (xs : List ℕ) (k : ℕ) → length xs ≤ k → number set xs < 10 ^ k
unfolding number
number-below set xs k h =
    let all = value-below set 0 (take 19 xs) in
    let short : length (take 19 xs) ≤ k = omega (arith, length-take 19 xs) in
    omega (arith, all, pow-le-pow_right {n = 10} (omega arith) short)
