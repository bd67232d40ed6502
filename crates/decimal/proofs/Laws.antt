-- What the digits of a number are, and one turn of each loop. Assumes nothing.
use mathlib.Core.Path.{◌≡◌, refl, ap, sym, ◌∙◌}
use mathlib.Core.Bool.{Bool, true, false, ◌&&◌}
use mathlib.Core.List.{List, [], ◌∷◌, ◌++◌}
use Prim.Native.Nat.{ℕ, zero, suc, ◌+◌, ◌-◌, ◌*◌, ◌/◌, ◌%◌, ◌^◌, ◌≤◌, ◌<◌}
use native.Mathlib.Nat.{not-suc-le-zero, add-zero, sub-eq-zero_of_le, mul_assoc, add-mul, pow-succ', mod-lt, mod-one, mod-eq_of_lt, div-one, div-add-mod, div-div-eq-div-mul, div-eq_of_lt, mul-add-div_right, mul-add-mod_self_left}
use native.Mathlib.Omega.{arith}
use borrow.Author.Tests.{leb-true, le-leb, ltb-true, ltb-false, lt-ltb, le-ltb, eq-eqb, ne_eqb}
use lib.Dec.{leb, ltb, eqb}
use lib.ListN.{length, set, length-append}
use lib.Seq.{sets, set_comm, take_all}
use Rattle.text.specs.declared.character_set.CharacterSet.TheVariants.{Ascii}
use Rattle.text.specs.Characters.{is_numeric}
use Rattle.text.specs.DataTypes.{every}
use Rattle.text.specs.Number.{digit, value_after, number}
use Rattle.text.proofs.Laws.{number-below}
use Rattle.decimal.specs.Digits.{digits, ten_to, fits}

pub digits_long : (n value : ℕ) → length (digits n value) ≡ n
unfolding digits
digits_long zero value = refl
digits_long (suc n) value = length-append (digits n (value / 10)) ((0x30 + value % 10) ∷ []) ∙ rw (digits_long n (value / 10)) (omega arith)

-- the characters of digits
numeric-digit : (d : ℕ) → d < 10 → is_numeric Ascii (0x30 + d) ≡ true
numeric-digit d h = rw (le-leb 0x30 (0x30 + d) (omega arith), le-leb (0x30 + d) 0x39 (omega arith))

digit-of : (d : ℕ) → d < 10 → digit Ascii (0x30 + d) ≡ d
digit-of d h = rw (numeric-digit d h) (omega arith)

both_true : (a b : Bool) → a && b ≡ true → (a ≡ true) × (b ≡ true)
both_true true b e = (refl, e)
both_true false b e = (e, cc)

every-last : (test : ℕ → Bool) (xs : List ℕ) (x : ℕ) → every test xs ≡ true → test x ≡ true → every test (xs ++ (x ∷ [])) ≡ true
every-last test [] x e h = rw h
every-last test (y ∷ xs) x e h = let both = both_true (test y) (every test xs) e in rw both.0 (every-last test xs x both.1 h)

pub digits-numeric : (n value : ℕ) → every (is_numeric Ascii) (digits n value) ≡ true
unfolding digits
digits-numeric zero value = refl
digits-numeric (suc n) value =
    every-last (is_numeric Ascii) (digits n (value / 10)) (0x30 + value % 10) (digits-numeric n (value / 10)) (numeric-digit (value % 10) (omega arith))

-- the powers of ten
some-ten : (n : ℕ) → 0 < ten_to n
some-ten zero = omega arith
some-ten (suc n) = omega (arith, some-ten n)

tens : (n : ℕ) → ten_to n ≡ 10 ^ n
tens zero = refl
tens (suc n) = rw (tens n) (sym (pow-succ' 10 n))

-- the number of digits
value-last : (sum : ℕ) (xs : List ℕ) (x : ℕ) → value_after Ascii sum (xs ++ (x ∷ [])) ≡ value_after Ascii sum xs * 10 + digit Ascii x
value-last sum [] x = refl
value-last sum (y ∷ xs) x = value-last (sum * 10 + digit Ascii y) xs x

last-digit : (v t : ℕ) → 0 < t → v / 10 % t * 10 + v % 10 ≡ v % (10 * t)
last-digit v t h =
    let low : ℕ = v / 10 % t * 10 + v % 10 in
    let whole : v ≡ 10 * t * (v / 10 / t) + low = omega (arith, div-add-mod (v / 10) t, mul_assoc 10 t (v / 10 / t)) in
    sym (ap (λ (k : ℕ). k % (10 * t)) whole ∙ mul-add-mod_self_left (10 * t) (v / 10 / t) low ∙ mod-eq_of_lt (omega (arith, mod-lt (v / 10) h)))

value-digits : (n value : ℕ) → value_after Ascii 0 (digits n value) ≡ value % ten_to n
unfolding digits
value-digits zero value = sym (mod-one value)
value-digits (suc n) value =
    value-last 0 (digits n (value / 10)) (0x30 + value % 10)
    ∙ rw (value-digits n (value / 10), digit-of (value % 10) (omega arith))
    (last-digit value (ten_to n) (some-ten n))

number_short : (xs : List ℕ) → length xs ≤ 19 → number Ascii xs ≡ value_after Ascii 0 xs
unfolding number
number_short xs h = ap (value_after Ascii 0) (take_all 19 xs h)

pub digits_number : (n value : ℕ) → n ≤ 19 → number Ascii (digits n value) ≡ value % ten_to n
digits_number n value h = number_short (digits n value) (omega (arith, digits_long n value)) ∙ value-digits n value

pub digits-states : (n value : ℕ) → n ≤ 19 → fits n value ≡ true → number Ascii (digits n value) ≡ value
unfolding fits
digits-states n value h e = digits_number n value h ∙ mod-eq_of_lt (ltb-true value (ten_to n) e)

pub digits-short : (n value : ℕ) → n ≤ 19 → eqb (number Ascii (digits n value)) value ≡ fits n value
unfolding fits
digits-short n value h = told (fits n value) refl
  where
    told : (b : Bool) → fits n value ≡ b → eqb (number Ascii (digits n value)) value ≡ b
    told true e = eq-eqb (number Ascii (digits n value)) value (digits-states n value h e)
    told false e =
        ne_eqb (number Ascii (digits n value)) value
        (λ q. omega (arith, q, digits_number n value h, mod-lt value (some-ten n), ltb-false value (ten_to n) e))

pub number_fits : (xs : List ℕ) → length xs ≤ 19 → fits (length xs) (number Ascii xs) ≡ true
unfolding fits
number_fits xs h = lt-ltb (number Ascii xs) (ten_to (length xs)) (rw (tens (length xs)) (number-below Ascii xs (length xs) (omega arith)))

-- the same digits, the highest apart
digits-first : (n value : ℕ) → digits (suc n) value ≡ (0x30 + value / ten_to n % 10) ∷ digits n value
unfolding digits
digits-first zero value = rw (div-one value)
digits-first (suc n) value =
    ap (λ (xs : List ℕ). xs ++ ((0x30 + value % 10) ∷ [])) (digits-first n (value / 10)) ∙ rw (div-div-eq-div-mul value 10 (ten_to n))

-- the number so far counts by the digits that follow
value-splits : (sum : ℕ) (xs : List ℕ) → value_after Ascii sum xs ≡ sum * ten_to (length xs) + value_after Ascii 0 xs
value-splits sum [] = omega arith
value-splits sum (x ∷ xs) =
    let t = ten_to (length xs) in
    let d = digit Ascii x in
    omega (arith, value-splits (sum * 10 + d) xs, value-splits (0 * 10 + d) xs, add-mul (sum * 10) d t, add-mul (0 * 10) d t, mul_assoc sum 10 t)

digit-back : (x : ℕ) → is_numeric Ascii x ≡ true → (0x30 + digit Ascii x ≡ x) × (digit Ascii x < 10)
digit-back x e =
    let both = both_true (leb 0x30 x) (leb x 0x39) e in
    let low = leb-true 0x30 x both.0 in
    let high = leb-true x 0x39 both.1 in
    let is : digit Ascii x ≡ x - 0x30 = rw e in
    (omega arith, omega arith)

digits-after : (sum : ℕ) (xs : List ℕ) → length xs ≤ 19 → every (is_numeric Ascii) xs ≡ true → digits (length xs) (value_after Ascii sum xs) ≡ xs
unfolding digits
digits-after sum [] h e = refl
digits-after sum (x ∷ xs) h e =
    let both = both_true (is_numeric Ascii x) (every (is_numeric Ascii) xs) e in
    let back = digit-back x both.0 in
    let short : length xs ≤ 19 = omega arith in
    let t = ten_to (length xs) in
    let now = sum * 10 + digit Ascii x in
    let small : value_after Ascii 0 xs < t = rw (tens (length xs), ← number_short xs short) (number-below Ascii xs (length xs) (omega arith)) in
    let first : value_after Ascii now xs / t ≡ now =
    ap (λ (k : ℕ). k / t) (value-splits now xs) ∙ mul-add-div_right (some-ten (length xs)) now (value_after Ascii 0 xs) ∙ rw (div-eq_of_lt small) (add-zero now) in
    digits-first (length xs) (value_after Ascii now xs)
    ∙ ap (λ (k : ℕ). (0x30 + k % 10) ∷ digits (length xs) (value_after Ascii now xs)) first
    ∙ ap (λ (k : ℕ). k ∷ digits (length xs) (value_after Ascii now xs)) (let same : 0x30 + now % 10 ≡ x = omega (arith, back.0, back.1) in same)
    ∙ ap (λ (ys : List ℕ). x ∷ ys) (digits-after now xs short both.1)

pub digits-again : (xs : List ℕ) → length xs ≤ 19 → every (is_numeric Ascii) xs ≡ true → digits (length xs) (number Ascii xs) ≡ xs
digits-again xs h e = ap (digits (length xs)) (number_short xs h) ∙ digits-after 0 xs h e

-- a digit stored behind the others' place, before them
set-behind : (l : List ℕ) (i a : ℕ) (vs : List ℕ) → sets (set l (i + length vs) a) i vs ≡ sets l i (vs ++ (a ∷ []))
set-behind l i a [] = ap (λ (k : ℕ). set l k a) (add-zero i)
set-behind l i a (v ∷ vs) =
    ap (λ (r : List ℕ). sets r (suc i) vs) (set_comm l (i + suc (length vs)) i a v (λ q. omega arith))
    ∙ ap (λ (k : ℕ). sets (set (set l i v) k a) (suc i) vs) (let e : i + suc (length vs) ≡ suc i + length vs = omega arith in e)
    ∙ set-behind (set l i v) (suc i) a vs

-- one turn of each loop
pub put-turn : (l : List ℕ) (at n value : ℕ) → 0 < n → sets (set l (at + (n - 1)) (0x30 + value % 10)) at (digits (n - 1) (value / 10)) ≡ sets l at (digits n value)
unfolding digits
put-turn l at zero value h = absurd (not-suc-le-zero h)
put-turn l at (suc n) value h =
    let one_less : suc n - 1 ≡ n = omega arith in
    rw one_less
    (ap (λ (k : ℕ). sets (set l (at + k) (0x30 + value % 10)) at (digits n (value / 10))) (sym (digits_long n (value / 10)))
    ∙ set-behind l at (0x30 + value % 10) (digits n (value / 10)))

pub put-none : (l : List ℕ) (at n value : ℕ) → n ≤ 0 → l ≡ sets l at (digits n value)
unfolding digits
put-none l at zero value h = refl
put-none l at (suc n) value h = absurd (not-suc-le-zero h)

tenth-fits : (n value : ℕ) → fits n (value / 10) ≡ fits (suc n) value
unfolding fits
tenth-fits n value = told (ltb value (10 * ten_to n)) refl
  where
    told : (b : Bool) → ltb value (10 * ten_to n) ≡ b → ltb (value / 10) (ten_to n) ≡ b
    told true e = lt-ltb (value / 10) (ten_to n) (omega (arith, ltb-true value (10 * ten_to n) e))
    told false e = le-ltb (value / 10) (ten_to n) (omega (arith, ltb-false value (10 * ten_to n) e))

pub fits-turn : (n i value : ℕ) → i < n → fits (n - (i + 1)) (value / 10) ≡ fits (n - i) value
fits-turn n i value h =
    let one_less : suc (n - (i + 1)) ≡ n - i = omega arith in
    tenth-fits (n - (i + 1)) value ∙ ap (λ (k : ℕ). fits k value) one_less

pub fits-none : (n i value : ℕ) → n ≤ i → eqb value 0 ≡ fits (n - i) value
unfolding fits
fits-none n i value h = rw (sub-eq-zero_of_le h) (told (ltb value 1) refl)
  where
    told : (b : Bool) → ltb value 1 ≡ b → eqb value 0 ≡ b
    told true e = eq-eqb value 0 (omega (arith, ltb-true value 1 e))
    told false e = ne_eqb value 0 (λ q. omega (arith, q, ltb-false value 1 e))
