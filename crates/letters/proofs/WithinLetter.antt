-- No record of what a cash letter holds closes a letter. Assumes nothing.
use Prim.Native.Nat.{ℕ}
use mathlib.Core.Path.{◌≡◌, refl, ap, ◌∙◌}
use mathlib.Core.List.{List, [], ◌∷◌, ◌++◌}
use mathlib.Core.Bool.{false}
use mathlib.Core.Option.{Option, none, some}
use lib.Dec.{eqb}
use Rattle.text.specs.declared.character_set.CharacterSet.{CharacterSet}
use Rattle.figures.specs.declared.Figures.{Figures}
use Rattle.file_as_records.specs.Framed.{Body}
use Rattle.file_as_records.proofs.Good.{onto}
use Rattle.file_as_records.proofs.Held.{over}
use Rattle.arrangement.specs.Tree.{View, Addenda, of_check, of_return, of_credit, Item, Content, bundled, direct}
use Rattle.arrangement.specs.Written.{optional_then, views_then, addenda_then, item_then, items_then, contents_then}
use Rattle.arrangement.specs.Sound.{All, IfAny, layout_in, layout_of}
use Rattle.arrangement.specs.TypesInPlace.{OfType, TypedView, TypedAddenda, TypedItem, TypedContent}
use Rattle.arrangement.proofs.After.{after_optional, after_views, after_addenda, after_item, after_items, after_contents, as_item}
use Rattle.arrangement.proofs.Quiet.{item_of}
use Rattle.letters.specs.Letters.{letter_then}
use Rattle.letters.proofs.Steps.{none-closed}
use Rattle.letters.proofs.OfRecords.{letters_all}

-- Records read after those of past close these letters. A record, so that its arguments are found.
pub record Close (set : CharacterSet) (past bs : List Body) (fs : List Figures) : Type 0 where
  pub letters : letters_all set past bs ≡ fs

no-90 : (a : Addenda) → eqb (layout_in a).type_number 90 ≡ false
no-90 (of_check a b c) = refl
no-90 (of_return a b c d) = refl
no-90 of_credit = refl

module _ (set : CharacterSet) {fs : List Figures} where
  pub past_one : {past rest : List Body} (b : Body) (t : ℕ) → OfType set t b → eqb t 90 ≡ false → Close set (b ∷ past) rest fs → Close set past (b ∷ rest) fs
  past_one {past} {rest} b t k x then =
      record {
        letters =
            ap (λ (u : ℕ). letter_then (over set (b ∷ past)) u (letters_all set (b ∷ past) rest)) k
            ∙ none-closed (over set (b ∷ past)) t (letters_all set (b ∷ past) rest) x
            ∙ then.letters;
      }

  past-run : {past rest : List Body} (bs : List Body) (t : ℕ) → All (OfType set t) bs → eqb t 90 ≡ false → Close set (onto bs past) rest fs
      → Close set past (bs ++ rest) fs
  past-run [] t k x then = then
  past-run (b ∷ bs) t k x then = past_one b t k.0 x (past-run bs t k.1 x then)

  past-optional : {past rest : List Body} (o : Option Body) (t : ℕ) → IfAny (OfType set t) o → eqb t 90 ≡ false → Close set (after_optional past o) rest fs
      → Close set past (optional_then o rest) fs
  past-optional none t k x then = then
  past-optional (some b) t k x then = past_one b t k x then

  past-views : {past rest : List Body} (vs : List View) → All (TypedView set) vs → Close set (after_views past vs) rest fs
      → Close set past (views_then vs rest) fs
  past-views [] k then = then
  past-views (v ∷ vs) k then =
      past_one v.detail 50 k.0.detail refl (past_one v.image 52 k.0.image refl
      (past-optional v.analysis 54 k.0.analysis refl (past-views vs k.1 then)))

  past-addenda : {past rest : List Body} (a : Addenda) → TypedAddenda set a → Close set (after_addenda past a) rest fs → Close set past (addenda_then a rest) fs
  past-addenda (of_check a b c) k then =
      past-run a 26 k.addenda-a refl (past-optional b 27 k.addendum-b refl (past-run c 28 k.addenda-c refl then))
  past-addenda (of_return a b c d) k then =
      past-run a 32 k.addenda-a refl
      (past_one b 33 k.addendum-b refl (past-optional c 34 k.addendum-c refl (past-run d 35 k.addenda-d refl then)))
  past-addenda of_credit k then = then

  past-item : {past rest : List Body} (i : Item) → TypedItem set i → Close set (after_item past i) rest fs → Close set past (item_then i rest) fs
  past-item i k then =
      past_one i.detail (layout_of i).type_number k.detail (no-90 i.addenda)
      (past-addenda i.addenda k.addenda (past-views i.views k.views then))

  past-items : {past rest : List Body} (is : List Item) → All (TypedItem set) is → Close set (after_items past is) rest fs → Close set past (items_then is rest) fs
  past-items [] k then = then
  past-items (i ∷ is) k then = past-item i k.0 (past-items is k.1 then)

  pub past-contents : {past rest : List Body} (cs : List Content) → All (TypedContent set) cs → Close set (after_contents past cs) rest fs
      → Close set past (contents_then cs rest) fs
  past-contents [] k then = then
  past-contents (bundled b ∷ cs) k then =
      past_one b.header 20 k.0.header refl
      (past-items b.items k.0.items (past_one b.control 70 k.0.control refl (past-contents cs k.1 then)))
  past-contents (direct c ∷ cs) k then = past-item (as_item c) (item_of set c k.0) (past-contents cs k.1 then)
