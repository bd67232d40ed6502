-- Rows one by one: what a row says itself, and the addenda behind it, of which the types alone are looked at. Assumes nothing.
use mathlib.Core.Path.{◌≡◌, refl, sym, ◌∙◌, ap}
use mathlib.Core.Bool.{Bool, true, false, ◌&&◌, ◌||◌, cond}
use mathlib.Core.List.{List, ◌++◌}
use Prim.Native.Nat.{ℕ, suc, ◌+◌, ◌-◌, ◌*◌, ◌/◌, ◌≤◌, ◌<◌}
use native.Mathlib.Omega.{arith}
use borrow.Author.Tests.{leb-true, leb-false, le-leb, lt-leb, ne_eqb}
use lib.Dec.{leb, eqb}
use lib.ListN.{length, get_or, drop, length-drop, length-append, get_or-append}
use lib.Seq.{drop_at}
use Rattle.text.specs.declared.character_set.CharacterSet.{CharacterSet}
use Rattle.draft.specs.Values.{values_at, values_of_row, values_of_rows}
use Rattle.draft.specs.Completed.{is_own_addendum, addenda_behind}

module _ (set : CharacterSet) (text numbers : List ℕ) where
  pub row_type : get_or numbers 0 0 ≡ (values_of_row set text numbers).type
  unfolding values_of_row values_at
  row_type = refl

  pub row-blank : eqb (get_or numbers 0 0) 70 && eqb (get_or numbers 2 0) 1 ≡ (values_of_row set text numbers).blank
  unfolding values_of_row values_at
  row-blank = refl

-- what is left of the text past a place is enough, where the place is in it
pub lies : (n start place size : ℕ) → (size ≡ 0 → ⊥) → start ≤ n → place ≤ n - start → leb size (n - start - place) ≡ (eqb size 0 || leb (start + place + size) n)
lies n start place size some s p =
    rw (ne_eqb size 0 some) (by-test (leb size (n - start - place)) refl)
  where
    by-test : (t : Bool) → leb size (n - start - place) ≡ t → t ≡ leb (start + place + size) n
    by-test true e = let h = leb-true size (n - start - place) e in sym (le-leb (start + place + size) n (omega arith))
    by-test false e = let h = leb-false size (n - start - place) e in sym (lt-leb (start + place + size) n (omega arith))

-- the addenda of an item among the rows that are left
abbrev pub behind : ℕ → List ℕ → CharacterSet → List ℕ → ℕ
behind item left set text = addenda_behind item (values_of_rows set text (length left / 10) left)

module _ (item : ℕ) (rows : List ℕ) where
  pub behind-first : 10 ≤ length rows → (set : CharacterSet) (text : List ℕ)
      → behind item (drop 10 rows) set text ≡ addenda_behind item (values_of_rows set text (length rows / 10 - 1) (drop 10 rows))
  behind-first h set text = ap (λ (n : ℕ). addenda_behind item (values_of_rows set text n (drop 10 rows))) fuel
    where
      fuel : length (drop 10 rows) / 10 ≡ length rows / 10 - 1
      fuel = omega (arith, length-drop 10 rows)

  pub behind-none : length rows < 10 → (set : CharacterSet) (text : List ℕ)
      → 0 ≡ addenda_behind item (values_of_rows set text (length rows / 10 - 1) (drop 10 rows))
  unfolding addenda_behind values_of_rows
  behind-none h set text = ap (λ (n : ℕ). addenda_behind item (values_of_rows set text n (drop 10 rows))) fuel
    where
      fuel : 0 ≡ length rows / 10 - 1
      fuel = omega arith

-- so many of them counted, and those among the rows that are left, ten numbers each
pub record Counted (item : ℕ) (rows left : List ℕ) (size count : ℕ) : Type 0 where
  pub ten : size ≡ 10
  pub within : count * 10 + length left ≤ length rows
  pub gives : (set : CharacterSet) (text : List ℕ) → count + behind item left set text ≡ behind item (drop 10 rows) set text

pub counted-first : (item : ℕ) (rows left : List ℕ) (size : ℕ) → size ≡ 10 → left ≡ drop 10 rows → Counted item rows left size 0
counted-first item rows left size e is =
    record {
      ten = e;
      within = omega (arith, ap length is, length-drop 10 rows);
      gives = λ set text. omega (arith, ap (λ (xs : List ℕ). behind item xs set text) is);
    }

module _ {item : ℕ} {rows left : List ℕ} {size count : ℕ} (c : Counted item rows left size count) where
  pub counted-end : 10 ≤ length rows → length left < size → (set : CharacterSet) (text : List ℕ)
      → count ≡ addenda_behind item (values_of_rows set text (length rows / 10 - 1) (drop 10 rows))
  unfolding addenda_behind values_of_rows
  counted-end whole h set text =
      let fuel : length left / 10 ≡ 0 = omega (arith, c.ten) in
      let none : behind item left set text ≡ 0 = ap (λ (n : ℕ). addenda_behind item (values_of_rows set text n left)) fuel in
      omega (arith, none, c.gives set text, behind-first item rows whole set text)

  module _ (row more : List ℕ) (is : left ≡ row ++ more) (long : length row ≡ size) where
    turn : (set : CharacterSet) (text : List ℕ) → behind item left set text ≡ cond (is_own_addendum item (get_or row 0 0)) (1 + behind item more set text) 0
    unfolding addenda_behind values_of_rows values_of_row values_at
    turn set text =
        let fuel : length left / 10 ≡ suc (length more / 10) = omega (arith, c.ten, ap length is, length-append row more) in
        let first : get_or left 0 0 ≡ get_or row 0 0 = ap (λ (xs : List ℕ). get_or xs 0 0) is ∙ get_or-append row more 0 0 (omega (arith, c.ten)) in
        let others : drop 10 left ≡ more = ap (drop 10) is ∙ drop_at row more 10 (long ∙ c.ten) in
        rw (fuel, first, others)

    pub counted-other : 10 ≤ length rows → is_own_addendum item (get_or row 0 0) ≡ false → (set : CharacterSet) (text : List ℕ)
        → count ≡ addenda_behind item (values_of_rows set text (length rows / 10 - 1) (drop 10 rows))
    counted-other whole e set text = let none : behind item left set text ≡ 0 = turn set text ∙ rw e in omega (arith, none, c.gives set text, behind-first item rows whole set text)

    pub counted-on : is_own_addendum item (get_or row 0 0) ≡ true → {size' : ℕ} → size' ≡ size → Counted item rows more size' (count + 1)
    counted-on e same =
        record {
          ten = same ∙ c.ten;
          within = omega (arith, c.within, c.ten, ap length is, length-append row more);
          gives = λ set text. let one : behind item left set text ≡ 1 + behind item more set text = turn set text ∙ rw e in omega (arith, one, c.gives set text);
        }
