-- Good records in the places of items make them sound. Assumes nothing.
use Prim.Native.Nat.{ℕ}
use native.Mathlib.Omega.{arith}
use mathlib.Core.Logic.{◌⊎◌}
use mathlib.Core.Path.{◌≡◌, refl, sym, ◌∙◌, subst}
use mathlib.Core.List.{List, [], ◌∷◌}
use mathlib.Core.Bool.{Bool, true, false, ◌||◌}
use lib.Dec.{eqb}
use lib.ListN.{length}
use Rattle.text.specs.declared.character_set.CharacterSet.{CharacterSet}
use Rattle.layout.specs.Layout.{Layout}
use Rattle.judge.specs.Alone.{type_of}
use Rattle.order.specs.MayFollow.{is_item, is_addendum, one_item_type}
use Rattle.file_as_records.specs.Framed.{Body}
use Rattle.file_as_records.proofs.Figures.{present_in}
use Rattle.file_as_records.proofs.Good.{Good, GoodTo}
use Rattle.arrangement.specs.Tree.{Addenda, of_check, of_return, of_credit, Item}
use Rattle.arrangement.specs.Written.{views_then, item_then, items_then}
use Rattle.arrangement.specs.Sound.{All, Right, layout_in, indicator, E, I, F, Owner, in_bundle, item_types, AllTheFirst, SoundAddenda, SoundView, SoundItem}
use Rattle.arrangement.specs.TypesInPlace.{OfType, TypedItem}
use Rattle.arrangement.proofs.Rightness.{right-in, known-25, known-31, known-61, Known}
use Rattle.arrangement.proofs.After.{after_addenda, after_item, after_items}
use Rattle.arrangement.proofs.Quiet.{quiet-views}
use Rattle.arrangement.proofs.Turns.{as-type, settled-in, Settled, Viewed, item-type-in, viewed-in}
use Rattle.arrangement.proofs.InItem.{Around, InItem, in-addenda, indicator-is}
use Rattle.arrangement.proofs.OwnAddenda.{next_addenda, next_stated, Short}
use Rattle.arrangement.proofs.ItemFigures.{fresh, in-bundle, around-item, item-figures}
use Rattle.arrangement.proofs.ItemTypes.{types_from, one-type-in, none-to-come}
use Rattle.arrangement.proofs.AddendaSound.{addenda-sound}
use Rattle.arrangement.proofs.ViewsSound.{views-sound}

-- an item's first record: what it says of itself, and of the item before it
pub record First (set : CharacterSet) (a : Addenda) (d : Body) (past : List Body) : Type 0 where
  pub right : Right set (layout_in a) d
  pub settled : Settled set past
  pub viewed : Viewed set past
  pub item-type : one_item_type (present_in set past) (layout_in a).type_number ≡ true

-- what the law below asks of the layout of a first record; at a layout written out each fact but the first is `refl`
record Begins (set : CharacterSet) (k : Layout) : Type 0 where
  known : Known set k
  no-addendum : is_addendum k.type_number ≡ false
  no-bundle : eqb k.type_number 20 ≡ false
  no-view : eqb k.type_number 50 ≡ false
  closes : is_item k.type_number || eqb k.type_number 70 ≡ true

begins : (set : CharacterSet) (a : Addenda) → Begins set (layout_in a)
begins set (of_check a b c) = record { known = known-25 set; no-addendum = refl; no-bundle = refl; no-view = refl; closes = refl }
begins set (of_return a b c d) = record { known = known-31 set; no-addendum = refl; no-bundle = refl; no-view = refl; closes = refl }
begins set of_credit = record { known = known-61 set; no-addendum = refl; no-bundle = refl; no-view = refl; closes = refl }

first-sound : (set : CharacterSet) (a : Addenda) (d : Body) (past : List Body) → OfType set (layout_in a).type_number d → Good set past d
    → First set a d past
first-sound set a d past typed good =
    let t = (layout_in a).type_number in
    let g = as-type set t past d typed good in
    let own = begins set a in
    record {
      right = right-in set (layout_in a) d own.known typed g.alone;
      settled = settled-in set t past d g own.no-addendum;
      viewed = viewed-in set past d t own.no-bundle own.no-view own.closes g;
      item-type = item-type-in set t past d g;
    }

-- an item: all of it but what only the record behind it shows
pub record ItemFound (End : List Body → Type 0) (set : CharacterSet) (letter : Body) (o : Owner) (i : Item) (past rest : List Body) : Type 0 where
  pub first : First set i.addenda i.detail past
  pub addenda : SoundAddenda set i.addenda
  pub short : Short set (after_item past i)
  pub views : All (SoundView set o) i.views
  pub unseen : indicator set letter ≡ E → length i.views ≡ 0
  pub behind : GoodTo End set (after_item past i) rest

pub item-sound : {End : List Body → Type 0} (set : CharacterSet) (inside : Bool) (letter : Body) (o : Owner) (i : Item) (past rest : List Body) → TypedItem set i
    → InItem set inside letter o (i.detail ∷ past) → GoodTo End set past (item_then i rest) → ItemFound End set letter o i past rest
item-sound set inside letter o i past rest typed within good =
    let d = i.detail ∷ past in
    let new = fresh set i.addenda i.detail past typed.detail in
    let a =
    addenda-sound set d i.addenda (views_then i.views rest) typed.addenda new.bofd new.endorser (omega (arith, new.addenda)) good.rest in
    let before = after_addenda d i.addenda in
    let v =
    views-sound set inside letter o before i.views rest typed.views
    (in-addenda set inside letter o d i.addenda typed.addenda within) a.behind in
    let still-addenda = quiet-views set 0 next_addenda (omega arith) before i.views typed.views in
    let still-stated = quiet-views set 0 (next_stated set) (search) before i.views typed.views in
    record {
      first = first-sound set i.addenda i.detail past typed.detail good.first;
      addenda = a.sound;
      short = omega (arith, still-addenda, still-stated, a.short);
      views = v.sound;
      unseen = v.unseen;
      behind = v.behind;
    }

-- items of a bundle, up to its control, behind those of `past`
pub record ItemsFound (End : List Body → Type 0) (set : CharacterSet) (letter header : Body) (its : List Item) (past rest : List Body) : Type 0 where
  pub settled : Settled set past
  pub viewed : Viewed set past
  pub items : All (SoundItem set letter header) its
  pub one-item-type : AllTheFirst (types_from (present_in set past) (item_types its))
  pub behind : GoodTo End set (after_items past its) rest

module _ (set : CharacterSet) (letter header : Body) where
  -- and with that
  item-whole : {End : List Body → Type 0} (i : Item) (past rest : List Body) → TypedItem set i → Around set true letter header (after_item past i)
      → ItemFound End set letter (in_bundle header i) i past rest → Settled set (after_item past i) → Viewed set (after_item past i)
      → SoundItem set letter header i
  item-whole i past rest typed behind found settled viewed =
      let f = item-figures set i past typed in
      let letter-is = indicator-is set (after_item past i) behind.letter-is in
      record {
        detail = found.first.right;
        addenda = found.addenda;
        number = omega (arith, f.addenda, f.stated-is, found.short, settled);
        views = found.views;
        unseen = found.unseen;
        seen = λ d e. omega (arith, f.shown, viewed (f.demands ∙ d) (subst (λ (n : ℕ). (n ≡ I) ⊎ (n ≡ F)) (sym letter-is) e));
      }

  pub items-sound : {End : List Body → Type 0} (its : List Item) (past : List Body) (c : Body) (rest : List Body) → All (TypedItem set) its → type_of set c ≡ 70
      → Around set true letter header past → GoodTo End set past (items_then its (c ∷ rest)) → ItemsFound End set letter header its past (c ∷ rest)
  items-sound [] past c rest typed ends around good =
      let g = as-type set 70 past c ends good.first in
      record {
        settled = settled-in set 70 past c g refl;
        viewed = viewed-in set past c 70 refl refl refl g;
        items = tt;
        one-item-type = none-to-come (present_in set past);
        behind = good;
      }
  items-sound (i ∷ its) past c rest typed ends around good =
      let within = in-bundle set letter header i past typed.0 around in
      let here = item-sound set true letter (in_bundle header i) i past (items_then its (c ∷ rest)) typed.0 within good in
      let behind = around-item set true letter header i past typed.0 around in
      let others = items-sound its (after_item past i) c rest typed.1 ends behind here.behind in
      let same = rw (item-figures set i past typed.0).present at others.one-item-type in
      record {
        settled = here.first.settled;
        viewed = here.first.viewed;
        items = (
          item-whole i past (items_then its (c ∷ rest)) typed.0 behind here others.settled others.viewed,
          others.items,
        );
        one-item-type = one-type-in i.addenda (present_in set past) (item_types its) here.first.item-type same;
        behind = others.behind;
      }
