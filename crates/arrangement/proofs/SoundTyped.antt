-- A sound arrangement's records are of the types of their places. Assumes nothing.
use Prim.Native.Nat.{ℕ, ◌+◌}
use mathlib.Core.Option.{Option, none, some}
use mathlib.Core.List.{List, [], ◌∷◌}
use Rattle.text.specs.declared.character_set.CharacterSet.{CharacterSet}
use Rattle.layout.specs.Layout.{Layout}
use Rattle.layout.specs.Layouts.{check_detail_addendum_a, check_detail_addendum_b, check_detail_addendum_c, return_addendum_a, return_addendum_c, return_addendum_d, image_view_analysis}
use Rattle.file_as_records.specs.Framed.{Body}
use Rattle.arrangement.specs.Tree.{View, Addenda, of_check, of_return, of_credit, Item, Bundle, Credit, Content, bundled, direct, CashLetter, File}
use Rattle.arrangement.specs.Sound.{All, IfAny, Right, Numbered, Owner, in_bundle, in_letter, SoundAddenda, SoundView, SoundItem, SoundBundle, SoundCredit, SoundContent, SoundLetter, Sound}
use Rattle.arrangement.specs.TypesInPlace.{OfType, TypedView, TypedAddenda, TypedItem, TypedBundle, TypedCredit, TypedContent, TypedLetter, Typed}

-- each record that is right for a layout is of its type
all_map : {A : Type 0} (P Q : A → Type 0) → ((x : A) → P x → Q x) → (xs : List A) → All P xs → All Q xs
all_map P Q turn [] h = tt
all_map P Q turn (x ∷ xs) h = (turn x h.0, all_map P Q turn xs h.1)

module _ (set : CharacterSet) (k : Layout) where
  any-typed : (o : Option Body) → IfAny (Right set k) o → IfAny (OfType set k.type_number) o
  any-typed none h = tt
  any-typed (some b) h = h.type

  numbered-typed : (n : ℕ) (bs : List Body) → Numbered set k n bs → All (OfType set k.type_number) bs
  numbered-typed n [] h = tt
  numbered-typed n (b ∷ bs) h = (h.0.right.type, numbered-typed (n + 1) bs h.1)

pub view-typed : (set : CharacterSet) (o : Owner) (v : View) → SoundView set o v → TypedView set v
view-typed set o v s =
    record { detail = s.detail.type; image = s.image.type; analysis = any-typed set image_view_analysis v.analysis s.analysis }

pub addenda-typed : (set : CharacterSet) (a : Addenda) → SoundAddenda set a → TypedAddenda set a
addenda-typed set (of_check a b c) s =
    record {
      addenda-a = numbered-typed set check_detail_addendum_a 1 a s.addenda-a;
      addendum-b = any-typed set check_detail_addendum_b b s.addendum-b;
      addenda-c = numbered-typed set check_detail_addendum_c 1 c s.addenda-c;
    }
addenda-typed set (of_return a b c d) s =
    record {
      addenda-a = numbered-typed set return_addendum_a 1 a s.addenda-a;
      addendum-b = s.addendum-b.type;
      addendum-c = any-typed set return_addendum_c c s.addendum-c;
      addenda-d = numbered-typed set return_addendum_d 1 d s.addenda-d;
    }
addenda-typed set of_credit s = tt

pub views-typed : (set : CharacterSet) (o : Owner) (vs : List View) → All (SoundView set o) vs → All (TypedView set) vs
views-typed set o vs s = all_map (SoundView set o) (TypedView set) (view-typed set o) vs s

pub item-typed : (set : CharacterSet) (letter header : Body) (i : Item) → SoundItem set letter header i → TypedItem set i
item-typed set letter header i s =
    record {
      detail = s.detail.type;
      addenda = addenda-typed set i.addenda s.addenda;
      views = views-typed set (in_bundle header i) i.views s.views;
    }

pub bundle-typed : (set : CharacterSet) (letter : Body) (b : Bundle) → SoundBundle set letter b → TypedBundle set b
bundle-typed set letter b s =
    record {
      header = s.header.type;
      items = all_map (SoundItem set letter b.header) (TypedItem set) (item-typed set letter b.header) b.items s.items;
      control = s.control.type;
    }

pub credit-typed : (set : CharacterSet) (letter : Body) (c : Credit) → SoundCredit set letter c → TypedCredit set c
credit-typed set letter c s = record { detail = s.detail.type; views = views-typed set (in_letter letter c) c.views s.views }

pub content-typed : (set : CharacterSet) (letter : Body) (c : Content) → SoundContent set letter c → TypedContent set c
content-typed set letter (bundled b) s = bundle-typed set letter b s
content-typed set letter (direct c) s = credit-typed set letter c s

pub letter-typed : (set : CharacterSet) (l : CashLetter) → SoundLetter set l → TypedLetter set l
letter-typed set l s =
    record {
      header = s.header.type;
      contents = all_map (SoundContent set l.header) (TypedContent set) (content-typed set l.header) l.contents s.contents;
      control = s.control.type;
    }

pub sound-typed : (set : CharacterSet) (f : File) → Sound set f → Typed set f
sound-typed set f s =
    record {
      header = s.header.type;
      letters = all_map (SoundLetter set) (TypedLetter set) (letter-typed set) f.letters s.letters;
      control = s.control.type;
    }
