-- The figures at an item's first record, and those that the item leaves. Assumes nothing.
use Prim.Native.Nat.{ℕ}
use native.Mathlib.Omega.{arith}
use mathlib.Core.Bool.{Bool, true, false, ◌||◌, cond}
use mathlib.Core.Path.{◌≡◌, refl, sym, ap, ◌∙◌}
use mathlib.Core.List.{List, [], ◌∷◌}
use lib.Dec.{eqb}
use lib.ListN.{length}
use Rattle.text.specs.declared.character_set.CharacterSet.{CharacterSet}
use Rattle.judge.specs.Alone.{type_of}
use Rattle.order.specs.MayFollow.{is_check_or_return, is_item}
use Rattle.file_as_records.specs.Framed.{Body}
use Rattle.file_as_records.proofs.Figures.{value, is, newest, count, sequence_of, stated_as, holder_in, present_in, stated_in, addenda_in, bofd_in, endorser_in, shown_in}
use Rattle.arrangement.specs.Tree.{Addenda, of_check, of_return, of_credit, Item, Credit}
use Rattle.arrangement.specs.Written.{addenda_then}
use Rattle.arrangement.specs.Sound.{layout_in, layout_of, sequence_in, demands_view, Owner, in_bundle, in_letter}
use Rattle.arrangement.specs.TypesInPlace.{OfType, TypedItem, TypedCredit}
use Rattle.arrangement.proofs.Quiet.{QuietAddenda, QuietItems, QuietContents, quiet-views, quiet-addenda, quiet-item, QuietViews, quiet-first, item_of, step}
use Rattle.arrangement.proofs.Counting.{count-views, adding}
use Rattle.arrangement.proofs.After.{after_addenda, after_item, as_item}
use Rattle.arrangement.proofs.InItem.{Around, InItem, owner_of, next_detail, next_header, next_holder, next_inside, next_letter}
use Rattle.arrangement.proofs.OwnAddenda.{addenda-count, next_addenda, next_bofd, next_endorser, next_stated}
use Rattle.arrangement.specs.Sound as sound

-- at an item's first record the figures of the item begin anew
pub record Fresh (set : CharacterSet) (a : Addenda) (d : Body) (past : List Body) : Type 0 where
  pub bofd : bofd_in set (d ∷ past) ≡ 0
  pub endorser : endorser_in set (d ∷ past) ≡ 0
  pub addenda : addenda_in set (d ∷ past) ≡ 0
  pub shown : shown_in set (d ∷ past) ≡ 0
  pub stated-is : stated_in set (d ∷ past) ≡ sound.stated_in set a d
  pub detail-is : newest set is_item (d ∷ past) ≡ d
  pub holder : holder_in set (d ∷ past) ≡ (layout_in a).type_number

abbrev pub next_shown : ℕ → Body → ℕ → ℕ
next_shown t b x = adding is_item (count (is 50)) t b x

abbrev pub next_present : ℕ → Body → ℕ → ℕ
next_present t b x = cond (eqb t 20) 0 (cond (is_check_or_return t) t x)

fresh-of : (set : CharacterSet) (t : ℕ) (a : Addenda) (d : Body) (past : List Body) → type_of set d ≡ t → is_item t ≡ true
    → eqb t 10 || (eqb t 20 || eqb t 70) ≡ false
    → stated_as set t d ≡ sound.stated_in set a d → (layout_in a).type_number ≡ t → Fresh set a d past
fresh-of set t a d past k i n s q =
    record {
      bofd = step set 0 next_bofd past d t k ∙ simp i;
      endorser = step set 0 next_endorser past d t k ∙ simp i;
      addenda = step set 0 next_addenda past d t k ∙ simp i;
      shown = step set 0 next_shown past d t k ∙ simp i;
      stated-is = step set 0 (next_stated set) past d t k ∙ simp i s;
      detail-is = step set [] next_detail past d t k ∙ simp i;
      holder = step set 0 next_holder past d t k ∙ simp (i, n) (sym q);
    }

pub fresh : (set : CharacterSet) (a : Addenda) (d : Body) (past : List Body) → OfType set (layout_in a).type_number d → Fresh set a d past
fresh set (of_check a b c) d past k = fresh-of set 25 (of_check a b c) d past k refl refl refl refl
fresh set (of_return a b c e) d past k = fresh-of set 31 (of_return a b c e) d past k refl refl refl refl
fresh set of_credit d past k = fresh-of set 61 of_credit d past k refl refl refl refl

-- the type of a bundle's checks or returns behind an item, where it was `present` before: a 61 does not set it
abbrev pub present_with : Addenda → ℕ → ℕ
present_with (of_check a b c) present = 25
present_with (of_return a b c d) present = 31
present_with of_credit present = present

present-step : (set : CharacterSet) (a : Addenda) (d : Body) (past : List Body) → OfType set (layout_in a).type_number d
    → present_in set (d ∷ past) ≡ present_with a (present_in set past)
present-step set (of_check a b c) d past k = step set 0 next_present past d 25 k
present-step set (of_return a b c e) d past k = step set 0 next_present past d 31 k
present-step set of_credit d past k = step set 0 next_present past d 61 k

-- views are demanded of checks and returns
demanded : (a : Addenda) → is_check_or_return (layout_in a).type_number ≡ demands_view a
demanded (of_check a b c) = refl
demanded (of_return a b c d) = refl
demanded of_credit = refl

-- what an item with all its records leaves
pub record ItemFigures (set : CharacterSet) (i : Item) (past : List Body) : Type 0 where
  pub addenda : addenda_in set (after_item past i) ≡ length (addenda_then i.addenda [])
  pub stated-is : stated_in set (after_item past i) ≡ sound.stated_in set i.addenda i.detail
  pub shown : shown_in set (after_item past i) ≡ length i.views
  pub demands : is_check_or_return (holder_in set (after_item past i)) ≡ demands_view i.addenda
  pub present : present_in set (after_item past i) ≡ present_with i.addenda (present_in set past)

-- a figure that no record of an item moves on but the first
module _ (set : CharacterSet) {X : Type 0} (first : X) (next : ℕ → Body → X → X) (qa : QuietAddenda next) (qv : QuietViews next) where
  pub to-detail : (past : List Body) (i : Item) → TypedItem set i → value set first next (after_item past i) ≡ value set first next (i.detail ∷ past)
  to-detail past i k =
      quiet-views set first next qv (after_addenda (i.detail ∷ past) i.addenda) i.views k.views
      ∙ quiet-addenda set first next qa (i.detail ∷ past) i.addenda k.addenda

pub item-figures : (set : CharacterSet) (i : Item) (past : List Body) → TypedItem set i → ItemFigures set i past
item-figures set i past k =
    let f = fresh set i.addenda i.detail past k.detail in
    let before = after_addenda (i.detail ∷ past) i.addenda in
    record {
      addenda =
          quiet-views set 0 next_addenda (omega arith) before i.views k.views
          ∙ addenda-count set (i.detail ∷ past) i.addenda k.addenda
          ∙ omega (arith, f.addenda);
      stated-is = to-detail set 0 (next_stated set) (search) (search) past i k ∙ f.stated-is;
      shown =
          count-views set 0 next_shown (λ b x. refl) (λ b x. omega arith) (λ b x. omega arith) before i.views k.views
          ∙ omega (arith, quiet-addenda set 0 next_shown (omega arith) (i.detail ∷ past) i.addenda k.addenda, f.shown);
      demands = ap is_check_or_return (to-detail set 0 next_holder (search) (search) past i k ∙ f.holder) ∙ demanded i.addenda;
      present = to-detail set 0 next_present (search) (search) past i k ∙ present-step set i.addenda i.detail past k.detail;
    }

-- what surrounds an item is as it was at its first record, and behind it
inside-stays : QuietItems next_inside
inside-stays = search

header-stays : QuietItems next_header
header-stays = search

pub letter-stays : QuietContents next_letter
letter-stays = search

module _ (set : CharacterSet) (inside : Bool) (letter header : Body) (i : Item) (past : List Body) (typed : TypedItem set i)
    (around : Around set inside letter header past) where
  pub around-item : Around set inside letter header (after_item past i)
  around-item =
      record {
        inside_is = quiet-item set false next_inside inside-stays past i typed ∙ around.inside_is;
        letter-is = quiet-item set [] next_letter letter-stays.items past i typed ∙ around.letter-is;
        header_is = quiet-item set [] next_header header-stays past i typed ∙ around.header_is;
      }

  in-first : (o : Owner) → owner_of inside letter header (layout_of i).type_number i.detail ≡ o → InItem set inside letter o (i.detail ∷ past)
  in-first o e =
      let f = fresh set i.addenda i.detail past typed.detail in
      let insides = quiet-first set false next_inside inside-stays.details past i typed ∙ around.inside_is in
      let letters = quiet-first set [] next_letter letter-stays.items.details past i typed ∙ around.letter-is in
      let heads = quiet-first set [] next_header header-stays.details past i typed ∙ around.header_is in
      record {
        inside_is = insides;
        letter-is = letters;
        owner-is = rw (insides, letters, heads, f.holder, f.detail-is) e;
      }

-- an item's first record, in a bundle, and directly in a cash letter
sequence-of : (a : Addenda) (d : Body) → sequence_of (layout_in a).type_number d ≡ sequence_in a d
sequence-of (of_check a b c) d = refl
sequence-of (of_return a b c e) d = refl
sequence-of of_credit d = refl

pub in-bundle : (set : CharacterSet) (letter header : Body) (i : Item) (past : List Body) → TypedItem set i → Around set true letter header past
    → InItem set true letter (in_bundle header i) (i.detail ∷ past)
in-bundle set letter header i past typed around =
    in-first set true letter header i past typed around (in_bundle header i) (rw (sequence-of i.addenda i.detail))

pub in-letter : (set : CharacterSet) (letter header : Body) (c : Credit) (past : List Body) → TypedCredit set c → Around set false letter header past
    → InItem set false letter (in_letter letter c) (c.detail ∷ past)
in-letter set letter header c past typed around =
    in-first set false letter header (as_item c) past (item_of set c typed) around (in_letter letter c) refl
