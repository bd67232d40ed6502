-- An arrangement whose records are of the types of their places, whatever else they hold.
use Rattle.std.specs.Prelude.{◌≡◌, List, ℕ}
use Rattle.std.proofs.Math.Option.{Option}
use Rattle.text.specs.declared.character_set.CharacterSet.{CharacterSet}
use Rattle.judge.specs.Alone.{type_of}
use Rattle.file_as_records.specs.Framed.{Body}
use Rattle.arrangement.specs.Tree.{View, Addenda, of_check, of_return, of_credit, Item, Bundle, Credit, Content, bundled, direct, CashLetter, File}
use Rattle.arrangement.specs.Sound.{All, IfAny, layout_of}

abbrev pub OfType : CharacterSet → ℕ → Body → Type 0
OfType set t b = type_of set b ≡ t

pub record TypedView (set : CharacterSet) (v : View) : Type 0 where
  pub detail : OfType set 50 v.detail
  pub image : OfType set 52 v.image
  pub analysis : IfAny (OfType set 54) v.analysis

-- the addenda of a check, and those of a return
pub record TypedOfCheck (set : CharacterSet) (a : List Body) (b : Option Body) (c : List Body) : Type 0 where
  pub addenda-a : All (OfType set 26) a
  pub addendum-b : IfAny (OfType set 27) b
  pub addenda-c : All (OfType set 28) c

pub record TypedOfReturn (set : CharacterSet) (a : List Body) (b : Body) (c : Option Body) (d : List Body) : Type 0 where
  pub addenda-a : All (OfType set 32) a
  pub addendum-b : OfType set 33 b
  pub addendum-c : IfAny (OfType set 34) c
  pub addenda-d : All (OfType set 35) d

abbrev pub TypedAddenda : CharacterSet → Addenda → Type 0
TypedAddenda set (of_check a b c) = TypedOfCheck set a b c
TypedAddenda set (of_return a b c d) = TypedOfReturn set a b c d
TypedAddenda set of_credit = Unit {0}

pub record TypedItem (set : CharacterSet) (i : Item) : Type 0 where
  pub detail : OfType set (layout_of i).type_number i.detail
  pub addenda : TypedAddenda set i.addenda
  pub views : All (TypedView set) i.views

pub record TypedBundle (set : CharacterSet) (b : Bundle) : Type 0 where
  pub header : OfType set 20 b.header
  pub items : All (TypedItem set) b.items
  pub control : OfType set 70 b.control

pub record TypedCredit (set : CharacterSet) (c : Credit) : Type 0 where
  pub detail : OfType set 61 c.detail
  pub views : All (TypedView set) c.views

abbrev pub TypedContent : CharacterSet → Content → Type 0
TypedContent set (bundled b) = TypedBundle set b
TypedContent set (direct c) = TypedCredit set c

pub record TypedLetter (set : CharacterSet) (l : CashLetter) : Type 0 where
  pub header : OfType set 10 l.header
  pub contents : All (TypedContent set) l.contents
  pub control : OfType set 90 l.control

pub record Typed (set : CharacterSet) (f : File) : Type 0 where
  pub header : OfType set 1 f.header
  pub letters : All (TypedLetter set) f.letters
  pub control : OfType set 99 f.control
