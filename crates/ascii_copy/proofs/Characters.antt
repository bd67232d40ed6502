-- A byte of code page 037 and its counterpart are one character: each test of clause 5 says the same of both, and no two characters have
-- one counterpart. Below 256 all is computed; there is no character past it. Assumes nothing.
use mathlib.Core.Path.{◌≡◌, refl, ap, sym, ◌∙◌}
use mathlib.Core.Bool.{Bool, true, false, ◌&&◌, ◌||◌, not, cond}
use mathlib.Core.List.{List, [], ◌∷◌}
use Prim.Native.Nat.{ℕ, zero, suc, ◌+◌, ◌≤◌, ◌<◌}
use Prim.Native.Char.{code}
use Prim.Native.String.{len, char_at}
use native.Mathlib.Nat.{not-suc-le-zero}
use native.Mathlib.Omega.{arith}
use borrow.Author.Tests.{ltb-true, ltb-false, leb-true, eqb-true, eqb-false, lt-leb, eq-eqb, ne_eqb, not-true}
use lib.Dec.{leb, ltb, eqb}
use Rattle.text.specs.declared.character_set.CharacterSet.TheVariants.{Ascii, Ebcdic}
use Rattle.text.specs.declared.data_types.DataType.{DataType}
use Rattle.text.specs.declared.data_types.DataType.TheVariants.{AB, A, AN, ANS, Binary, N, NB, NBD, NBQ, NBMc, NBMcd, NBMcdo, NBMU}
use Rattle.text.specs.Characters.{is_alphabetic, is_blank, is_numeric, is_questionable, is_special, is_amount_symbol, is_cannot_read, is_dash, is_on_us_symbol, is_transit_symbol}
use Rattle.text.specs.Capitals.{capital}
use Rattle.text.specs.DataTypes.{admits, is_mark}
use Rattle.text.specs.Number.{digit}
use Rattle.ascii_copy.specs.AsciiCopy.{translated, copied_as}
use Rattle.ascii_copy.specs.CodePage037.{Run, code_page037, among, counterpart}

pub and_left : (a b : Bool) → a && b ≡ true → a ≡ true
and_left true b e = refl
and_left false b e = cc

pub and_right : (a b : Bool) → a && b ≡ true → b ≡ true
and_right true b e = e
and_right false b e = cc

and-false : (b : Bool) → b && false ≡ false
and-false true = refl
and-false false = refl

-- a test that is computed at every number below n
abbrev pub passes_below : ℕ → (ℕ → Bool) → Bool
passes_below zero test = true
passes_below (suc n) test = test n && passes_below n test

at-or-below : (b : Bool) (n x : ℕ) (test : ℕ → Bool) → eqb x n ≡ b → x < suc n → test n ≡ true → (x < n → test x ≡ true) → test x ≡ true
at-or-below true n x test q h at below = ap test (eqb-true x n q) ∙ at
at-or-below false n x test q h at below = let other = eqb-false x n q in below (omega arith)

pub passes-below : (n : ℕ) (test : ℕ → Bool) → passes_below n test ≡ true → (x : ℕ) → x < n → test x ≡ true
passes-below zero test e x h = absurd (not-suc-le-zero h)
passes-below (suc n) test e x h =
    at-or-below (eqb x n) n x test refl h (and_left (test n) (passes_below n test) e)
    (λ l. passes-below n test (and_right (test n) (passes_below n test) e) x l)

-- past 256: no run of the code page reaches there, and no test of clause 5
abbrev short_runs : List Run → Bool
short_runs [] = true
short_runs (r ∷ rs) = leb (r.first + len r.characters) 256 && short_runs rs

past-leb : (x : ℕ) → 256 ≤ x → (n : ℕ) → ltb n 256 ≡ true → leb x n ≡ false
past-leb x h n e = lt-leb x n (omega (arith, ltb-true n 256 e))

past-eqb : (x : ℕ) → 256 ≤ x → (n : ℕ) → ltb n 256 ≡ true → eqb x n ≡ false
past-eqb x h n e = let low = ltb-true n 256 e in ne_eqb x n (λ q. omega arith)

past-among : (x : ℕ) → 256 ≤ x → (rs : List Run) → short_runs rs ≡ true → among rs x ≡ 0
past-among x h [] e = refl
past-among x h (r ∷ rs) e =
    let end = r.first + len r.characters in
    let low = leb-true end 256 (and_left (leb end 256) (short_runs rs) e) in
    rw (lt-leb (suc x) end (omega arith), and-false (leb r.first x))
    (past-among x h rs (and_right (leb end 256) (short_runs rs) e))

past-counterpart : (x : ℕ) → 256 ≤ x → counterpart x ≡ 0
unfolding counterpart
past-counterpart x h = past-among x h code_page037 refl

ruleset past = (past-leb, past-eqb, and-false)

-- alike at every byte and past 256: alike
everywhere : (b : Bool) (x : ℕ) (P : Type 0) → ltb x 256 ≡ b → (x < 256 → P) → (256 ≤ x → P) → P
everywhere true x P q below beyond = below (ltb-true x 256 q)
everywhere false x P q below beyond = beyond (ltb-false x 256 q)

module _ {B : Type 0} (equal : B → B → Bool) (told : (a b : B) → equal a b ≡ true → a ≡ b) (one other : ℕ → B) where
  alike : passes_below 256 (λ y. equal (one (counterpart y)) (other y)) ≡ true → ((x : ℕ) → 256 ≤ x → other x ≡ one 0) → (x : ℕ) → one (counterpart x) ≡ other x
  alike e beyond x =
      everywhere (ltb x 256) x (one (counterpart x) ≡ other x) refl
      (λ h. told (one (counterpart x)) (other x) (passes-below 256 (λ y. equal (one (counterpart y)) (other y)) e x h))
      (λ h. ap one (past-counterpart x h) ∙ sym (beyond x h))

abbrev equal : Bool → Bool → Bool
equal true b = b
equal false b = not b

equal-told : (a b : Bool) → equal a b ≡ true → a ≡ b
equal-told true b e = sym e
equal-told false b e = sym (not-true b e)

pub alphabetic-alike : (x : ℕ) → is_alphabetic Ascii (counterpart x) ≡ is_alphabetic Ebcdic x
unfolding counterpart
alphabetic-alike = alike equal equal-told (is_alphabetic Ascii) (is_alphabetic Ebcdic) refl (λ x h. simp past)

pub blank-alike : (x : ℕ) → is_blank Ascii (counterpart x) ≡ is_blank Ebcdic x
unfolding counterpart
blank-alike = alike equal equal-told (is_blank Ascii) (is_blank Ebcdic) refl (λ x h. simp past)

pub numeric-alike : (x : ℕ) → is_numeric Ascii (counterpart x) ≡ is_numeric Ebcdic x
unfolding counterpart
numeric-alike = alike equal equal-told (is_numeric Ascii) (is_numeric Ebcdic) refl (λ x h. simp past)

pub questionable-alike : (x : ℕ) → is_questionable Ascii (counterpart x) ≡ is_questionable Ebcdic x
unfolding counterpart
questionable-alike = alike equal equal-told (is_questionable Ascii) (is_questionable Ebcdic) refl (λ x h. simp past)

pub special-alike : (x : ℕ) → is_special Ascii (counterpart x) ≡ is_special Ebcdic x
unfolding counterpart
special-alike = alike equal equal-told (is_special Ascii) (is_special Ebcdic) refl (λ x h. simp past)

pub amount-alike : (x : ℕ) → is_amount_symbol Ascii (counterpart x) ≡ is_amount_symbol Ebcdic x
unfolding counterpart
amount-alike = alike equal equal-told (is_amount_symbol Ascii) (is_amount_symbol Ebcdic) refl (λ x h. simp past)

pub cannot-read-alike : (x : ℕ) → is_cannot_read Ascii (counterpart x) ≡ is_cannot_read Ebcdic x
unfolding counterpart
cannot-read-alike = alike equal equal-told (is_cannot_read Ascii) (is_cannot_read Ebcdic) refl (λ x h. simp past)

pub dash-alike : (x : ℕ) → is_dash Ascii (counterpart x) ≡ is_dash Ebcdic x
unfolding counterpart
dash-alike = alike equal equal-told (is_dash Ascii) (is_dash Ebcdic) refl (λ x h. simp past)

pub on-us-alike : (x : ℕ) → is_on_us_symbol Ascii (counterpart x) ≡ is_on_us_symbol Ebcdic x
unfolding counterpart
on-us-alike = alike equal equal-told (is_on_us_symbol Ascii) (is_on_us_symbol Ebcdic) refl (λ x h. simp past)

pub transit-alike : (x : ℕ) → is_transit_symbol Ascii (counterpart x) ≡ is_transit_symbol Ebcdic x
unfolding counterpart
transit-alike = alike equal equal-told (is_transit_symbol Ascii) (is_transit_symbol Ebcdic) refl (λ x h. simp past)

pub capital-alike : (x : ℕ) → capital Ascii (counterpart x) ≡ capital Ebcdic x
unfolding counterpart capital
capital-alike = alike eqb eqb-true (capital Ascii) (capital Ebcdic) refl (λ x h. simp past)

pub digit-alike : (x : ℕ) → digit Ascii (counterpart x) ≡ digit Ebcdic x
unfolding counterpart
digit-alike = alike eqb eqb-true (digit Ascii) (digit Ebcdic) refl (λ x h. simp past)

pub admits-alike : (t : DataType) (x : ℕ) → admits Ascii t (counterpart x) ≡ admits Ebcdic t x
admits-alike AB x = blank-alike x
admits-alike A x = alphabetic-alike x
admits-alike AN x = rw (alphabetic-alike x, numeric-alike x)
admits-alike ANS x = rw (alphabetic-alike x, numeric-alike x, special-alike x)
admits-alike Binary x = refl
admits-alike N x = numeric-alike x
admits-alike NB x = rw (numeric-alike x, blank-alike x)
admits-alike NBD x = rw (numeric-alike x, blank-alike x, dash-alike x)
admits-alike NBQ x = rw (numeric-alike x, blank-alike x, questionable-alike x)
admits-alike NBMc x = rw (numeric-alike x, blank-alike x, cannot-read-alike x)
admits-alike NBMcd x = rw (numeric-alike x, blank-alike x, cannot-read-alike x, dash-alike x)
admits-alike NBMcdo x = rw (numeric-alike x, blank-alike x, cannot-read-alike x, dash-alike x, on-us-alike x)
admits-alike NBMU x = rw (numeric-alike x, blank-alike x, amount-alike x, cannot-read-alike x, dash-alike x, on-us-alike x, transit-alike x)

pub mark-alike : (t : DataType) (x : ℕ) → is_mark Ascii t (counterpart x) ≡ is_mark Ebcdic t x
mark-alike AB x = refl
mark-alike A x = refl
mark-alike AN x = refl
mark-alike ANS x = refl
mark-alike Binary x = refl
mark-alike N x = refl
mark-alike NB x = refl
mark-alike NBD x = refl
mark-alike NBQ x = questionable-alike x
mark-alike NBMc x = cannot-read-alike x
mark-alike NBMcd x = cannot-read-alike x
mark-alike NBMcdo x = cannot-read-alike x
mark-alike NBMU x = cannot-read-alike x

-- the data types of characters
abbrev pub is_characters : DataType → Bool
is_characters AB = true
is_characters A = true
is_characters AN = true
is_characters ANS = true
is_characters Binary = false
is_characters N = true
is_characters NB = true
is_characters NBD = true
is_characters NBQ = true
is_characters NBMc = true
is_characters NBMcd = true
is_characters NBMcdo = true
is_characters NBMU = true

-- fields of such a type are translated
pub copied-as : (t : DataType) (xs : List ℕ) → is_characters t ≡ true → copied_as t xs ≡ translated xs
copied-as AB xs e = refl
copied-as A xs e = refl
copied-as AN xs e = refl
copied-as ANS xs e = refl
copied-as Binary xs e = cc
copied-as N xs e = refl
copied-as NB xs e = refl
copied-as NBD xs e = refl
copied-as NBQ xs e = refl
copied-as NBMc xs e = refl
copied-as NBMcd xs e = refl
copied-as NBMcdo xs e = refl
copied-as NBMU xs e = refl

-- any character that such a type admits is one of the 95
abbrev one_of95 : DataType → ℕ → Bool
one_of95 t x = not (is_characters t && admits Ebcdic t x) || admits Ebcdic ANS x

bytes-tested : (t : DataType) → passes_below 256 (one_of95 t) ≡ true
bytes-tested AB = refl
bytes-tested A = refl
bytes-tested AN = refl
bytes-tested ANS = refl
bytes-tested Binary = refl
bytes-tested N = refl
bytes-tested NB = refl
bytes-tested NBD = refl
bytes-tested NBQ = refl
bytes-tested NBMc = refl
bytes-tested NBMcd = refl
bytes-tested NBMcdo = refl
bytes-tested NBMU = refl

byte-has : (t : DataType) (x : ℕ) → is_characters t ≡ true → admits Ebcdic t x ≡ true → x < 256 → admits Ebcdic ANS x ≡ true
byte-has t x c e h = rw (c, e) at (passes-below 256 (one_of95 t) (bytes-tested t) x h)

-- past 256 a type admits what it admits at 0
pub admitted-has : (t : DataType) (x : ℕ) → is_characters t ≡ true → admits Ebcdic t x ≡ true → admits Ebcdic ANS x ≡ true
unfolding counterpart
admitted-has t x c e =
    everywhere (ltb x 256) x (admits Ebcdic ANS x ≡ true) refl (byte-has t x c e)
    (λ h. let none = byte-has t 0 c (sym (admits-alike t 0) ∙ ap (admits Ascii t) (sym (past-counterpart x h)) ∙ admits-alike t x ∙ e) (omega arith) in cc)

-- the byte of a character: from its counterpart back
abbrev back_in : ℕ → Run → ℕ → ℕ → ℕ
back_in zero r c rest = rest
back_in (suc k) r c rest = cond (eqb (code (char_at r.characters k)) c) (r.first + k) (back_in k r c rest)

abbrev back : List Run → ℕ → ℕ
back [] c = 0
back (r ∷ rs) c = back_in (len r.characters) r c (back rs c)

abbrev comes_back : ℕ → Bool
comes_back x = not (admits Ebcdic ANS x) || eqb (back code_page037 (counterpart x)) x

comes_back_lem : (x : ℕ) → admits Ebcdic ANS x ≡ true → back code_page037 (counterpart x) ≡ x
unfolding counterpart
comes_back_lem x e =
    everywhere (ltb x 256) x (back code_page037 (counterpart x) ≡ x) refl
    (λ h. eqb-true (back code_page037 (counterpart x)) x (rw e at (passes-below 256 comes_back refl x h)))
    (λ h. let no : admits Ebcdic ANS x ≡ false = simp past in cc)

pub one-to-one : (x y : ℕ) → admits Ebcdic ANS x ≡ true → admits Ebcdic ANS y ≡ true → counterpart x ≡ counterpart y → x ≡ y
one-to-one x y ex ey q = sym (comes_back_lem x ex) ∙ ap (back code_page037) q ∙ comes_back_lem y ey

same_test : (b : Bool) (x y : ℕ) → eqb x y ≡ b → (counterpart x ≡ counterpart y → x ≡ y) → eqb (counterpart x) (counterpart y) ≡ b
same_test true x y q back = eq-eqb (counterpart x) (counterpart y) (ap counterpart (eqb-true x y q))
same_test false x y q back = ne_eqb (counterpart x) (counterpart y) (λ e. eqb-false x y q (back e))

pub eqb-alike : (x y : ℕ) → admits Ebcdic ANS x ≡ true → admits Ebcdic ANS y ≡ true → eqb (counterpart x) (counterpart y) ≡ eqb x y
eqb-alike x y ex ey = same_test (eqb x y) x y refl (one-to-one x y ex ey)
