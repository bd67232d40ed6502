-- Where the reading puts a record, by the records before it; so all the addenda and views of an item. Assumes nothing.
use Prim.Native.Nat.{ℕ}
use native.Mathlib.Nat.{zero-add}
use mathlib.Core.Path.{◌≡◌, refl, ap, sym, subst, ◌∙◌}
use mathlib.Core.Bool.{Bool, true, false, ◌||◌, cond}
use mathlib.Core.List.{List, [], ◌∷◌, ◌++◌}
use mathlib.Core.Option.{Option, none, some}
use lib.Dec.{eqb}
use Rattle.text.specs.declared.character_set.CharacterSet.{CharacterSet}
use Rattle.judge.specs.Alone.{type_of}
use Rattle.order.specs.MayFollow.{is_item}
use Rattle.passes.specs.Rows.{outside_letter}
use Rattle.file_as_records.specs.Framed.{Body}
use Rattle.file_as_records.proofs.Good.{onto, amount_after, rows_all}
use Rattle.file_as_records.proofs.Figures.{count, is, never, inside_in, letters_in, opened_in, items_since}
use Rattle.arrangement.specs.Tree.{View, Addenda, of_check, of_return, of_credit}
use Rattle.arrangement.specs.Written.{optional_then, views_then, addenda_then}
use Rattle.arrangement.specs.Sound.{All, IfAny}
use Rattle.arrangement.specs.TypesInPlace.{OfType, TypedView, TypedAddenda}
use Rattle.arrangement.specs.RowsAndTotals.{Placed, placed, alike_then, rows_from}
use Rattle.arrangement.proofs.After.{after_optional, after_views, after_addenda}
use Rattle.arrangement.proofs.Quiet.{step}
use Rattle.arrangement.proofs.Counting.{adding}

-- how a record moves on whether a bundle is open, and the ordinals of the three levels: `inside_in`, `letters_in`, `opened_in`, `items_since (is 20)`
abbrev to_inside : ℕ → Body → Bool → Bool
to_inside t b x = cond (eqb t 20) true (cond (eqb t 70) false x)

abbrev to_letters : ℕ → Body → ℕ → ℕ
to_letters = adding never (count (is 10))

abbrev to_opened : ℕ → Body → ℕ → ℕ
to_opened = adding (is 10) (count (is 20))

abbrev to_items : ℕ → Body → ℕ → ℕ
to_items = adding (is 20) (count is_item)

-- The ordinals behind past: whether a bundle is open, l cash letters, o bundles opened in the last of them, i items since the last of these.
pub record Stands (set : CharacterSet) (past : List Body) (inside : Bool) (l o i : ℕ) : Type 0 where
  pub within : inside_in set past ≡ inside
  pub letters : letters_in set past ≡ l
  pub opened : opened_in set past ≡ o
  pub items : items_since set (is 20) past ≡ i

-- where a record of a type stands, from where those before it stand
pub stands_on : (set : CharacterSet) {inside inside' : Bool} {l o i l' o' i' : ℕ} {past : List Body} (b : Body) (t : ℕ) → type_of set b ≡ t
    → Stands set past inside l o i
    → to_inside t b inside ≡ inside' → to_letters t b l ≡ l' → to_opened t b o ≡ o' → to_items t b i ≡ i'
    → Stands set (b ∷ past) inside' l' o' i'
stands_on set {past = past} b t k s within letters opened items =
    record {
      within = step set false to_inside past b t k ∙ ap (to_inside t b) s.within ∙ within;
      letters = step set 0 to_letters past b t k ∙ ap (to_letters t b) s.letters ∙ letters;
      opened = step set 0 to_opened past b t k ∙ ap (to_opened t b) s.opened ∙ opened;
      items = step set 0 to_items past b t k ∙ ap (to_items t b) s.items ∙ items;
    }

-- From any offset on, the rows of records behind those of past are the rows of places. A record, so that its arguments are found.
pub record Agree (set : CharacterSet) (past bs : List Body) (ps : List Placed) : Type 0 where
  pub rows-from : (at : ℕ) → rows_all set at past bs ≡ rows_from set at ps

-- the place that past, with a record of type t as its newest, gives to that record
record Seated (set : CharacterSet) (t : ℕ) (past : List Body) (p : Placed) : Type 0 where
  letter : cond (outside_letter t) 0 (letters_in set past) ≡ p.letter
  bundle : cond (inside_in set past || eqb t 70) (opened_in set past) 0 ≡ p.bundle
  item : cond (inside_in set past) (items_since set (is 20) past) 0 ≡ p.item
  amount : amount_after set t past p.body ≡ p.amount

-- the same, from where the record stands
pub record Seat (set : CharacterSet) (t : ℕ) (inside : Bool) (l o i : ℕ) (past : List Body) (p : Placed) : Type 0 where
  pub letter : cond (outside_letter t) 0 l ≡ p.letter
  pub bundle : cond (inside || eqb t 70) o 0 ≡ p.bundle
  pub item : cond inside i 0 ≡ p.item
  pub amount : amount_after set t past p.body ≡ p.amount

seated : (set : CharacterSet) {t : ℕ} {inside : Bool} {l o i : ℕ} {past : List Body} {p : Placed} → Stands set past inside l o i
    → Seat set t inside l o i past p → Seated set t past p
seated set s h =
    record {
      letter = rw s.letters h.letter;
      bundle = rw (s.within, s.opened) h.bundle;
      item = rw (s.within, s.items) h.item;
      amount = h.amount;
    }

same_row : (t at size l₁ l₂ o₁ o₂ i₁ i₂ n₁ n₂ : ℕ) (xs ys : List ℕ) → l₁ ≡ l₂ → o₁ ≡ o₂ → i₁ ≡ i₂ → n₁ ≡ n₂ → xs ≡ ys
    → ◌≡◌ {A = List ℕ} (t ∷ at ∷ size ∷ l₁ ∷ o₁ ∷ i₁ ∷ n₁ ∷ xs) (t ∷ at ∷ size ∷ l₂ ∷ o₂ ∷ i₂ ∷ n₂ ∷ ys)
same_row t at size l₁ l₂ o₁ o₂ i₁ i₂ n₁ n₂ xs ys a b c d e = cc

pub row-then : (set : CharacterSet) {inside : Bool} {l o i : ℕ} {past bs : List Body} {ps : List Placed} (p : Placed) (t : ℕ)
    → type_of set p.body ≡ t
    → Stands set (p.body ∷ past) inside l o i → Seat set t inside l o i (p.body ∷ past) p
    → Agree set (p.body ∷ past) bs ps → Agree set past (p.body ∷ bs) (p ∷ ps)
row-then set {past = past} p t k s h others =
    let u : Seated set (type_of set p.body) (p.body ∷ past) p = subst (λ (t : ℕ). Seated set t (p.body ∷ past) p) (sym k) (seated set s h) in
    record {
      rows-from = λ at. same_row _ _ _ _ _ _ _ _ _ _ _ _ _ u.letter u.bundle u.item u.amount (others.rows-from _);
    }

-- the bundle's ordinal in a row that is no 70's
pub bundle-ordinal : (inside : Bool) (o : ℕ) → cond (inside || false) o 0 ≡ cond inside o 0
bundle-ordinal true o = refl
bundle-ordinal false o = refl

-- a type that no rule of the rows and ordinals names, as those of addenda and views; `search` proves it of a numeral
record Inner (t : ℕ) : Type 0 where
  not-1 : eqb t 1 ≡ false
  not-10 : eqb t 10 ≡ false
  not-20 : eqb t 20 ≡ false
  not-25 : eqb t 25 ≡ false
  not-31 : eqb t 31 ≡ false
  not-61 : eqb t 61 ≡ false
  not-70 : eqb t 70 ≡ false
  not-90 : eqb t 90 ≡ false
  not-99 : eqb t 99 ≡ false

-- The addenda and views of an item, each with its item's ordinals, where what follows agrees.
module _ (set : CharacterSet) (inside : Bool) (l o i : ℕ) (ps : List Placed) where
  inner-stands : (t : ℕ) {past : List Body} (b : Body) → Inner t → type_of set b ≡ t → Stands set past inside l o i
      → Stands set (b ∷ past) inside l o i
  inner-stands t b h k s =
      stands_on set b t k s (rw (h.not-20, h.not-70)) (rw h.not-10 (zero-add l)) (rw (h.not-10, h.not-20) (zero-add o))
      (rw (h.not-20, h.not-25, h.not-31, h.not-61) (zero-add i))

  inner-seat : (t : ℕ) (past : List Body) (b : Body) → Inner t → Seat set t inside l o i past (placed l (cond inside o 0) (cond inside i 0) 0 b)
  inner-seat t past b h =
      record {
        letter = rw (h.not-1, h.not-99);
        bundle = rw h.not-70 (bundle-ordinal inside o);
        item = refl;
        amount = rw (h.not-70, h.not-90, h.not-99, h.not-25, h.not-31, h.not-61);
      }

  pub record Alike (past bs others : List Body) : Type 0 where
    pub agree : Stands set past inside l o i → Agree set past bs (alike_then l (cond inside o 0) (cond inside i 0) others ps)

  alike : {past bs others : List Body} (b : Body) (t : ℕ) → Inner t → type_of set b ≡ t → Alike (b ∷ past) bs others → Alike past (b ∷ bs) (b ∷ others)
  alike {past} b t h k then =
      record {
        agree = λ s.
            let s' : Stands set (b ∷ past) inside l o i = inner-stands t b h k s in
            row-then set (placed l (cond inside o 0) (cond inside i 0) 0 b) t k s' (inner-seat t (b ∷ past) b h) (then.agree s');
      }

  alike-run : {past bs others : List Body} (rs : List Body) (t : ℕ) → Inner t → All (OfType set t) rs → Alike (onto rs past) bs others
      → Alike past (rs ++ bs) (rs ++ others)
  alike-run [] t h k then = then
  alike-run (r ∷ rs) t h k then = alike r t h k.0 (alike-run rs t h k.1 then)

  alike-optional : {past bs others : List Body} (r : Option Body) (t : ℕ) → Inner t → IfAny (OfType set t) r → Alike (after_optional past r) bs others
      → Alike past (optional_then r bs) (optional_then r others)
  alike-optional none t h k then = then
  alike-optional (some r) t h k then = alike r t h k then

  pub alike-views : {past bs : List Body} (vs : List View) → All (TypedView set) vs → Alike (after_views past vs) bs []
      → Alike past (views_then vs bs) (views_then vs [])
  alike-views [] k then = then
  alike-views (v ∷ vs) k then =
      alike v.detail 50 (search) k.0.detail (alike v.image 52 (search) k.0.image (alike-optional v.analysis 54 (search) k.0.analysis
      (alike-views vs k.1 then)))

  pub alike-addenda : {past bs others : List Body} (a : Addenda) → TypedAddenda set a → Alike (after_addenda past a) bs others
      → Alike past (addenda_then a bs) (addenda_then a others)
  alike-addenda (of_check a b c) k then =
      alike-run a 26 (search) k.addenda-a (alike-optional b 27 (search) k.addendum-b (alike-run c 28 (search) k.addenda-c then))
  alike-addenda (of_return a b c d) k then =
      alike-run a 32 (search) k.addenda-a
      (alike b 33 (search) k.addendum-b (alike-optional c 34 (search) k.addendum-c (alike-run d 35 (search) k.addenda-d then)))
  alike-addenda of_credit k then = then
