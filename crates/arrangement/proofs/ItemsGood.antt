-- The records of a bundle's sound items are good, one after the other. Assumes nothing.
use Prim.Native.Nat.{ℕ}
use native.Mathlib.Omega.{arith}
use mathlib.Core.Bool.{true}
use mathlib.Core.Logic.{◌⊎◌}
use mathlib.Core.Path.{◌≡◌, refl, sym, ◌∙◌, subst}
use mathlib.Core.List.{List, [], ◌∷◌}
use lib.ListN.{length}
use Rattle.text.specs.declared.character_set.CharacterSet.{CharacterSet}
use Rattle.order.specs.MayFollow.{is_one_of, follows, one_item_type}
use Rattle.file_as_records.specs.Framed.{Body}
use Rattle.file_as_records.proofs.Figures.{present_in}
use Rattle.file_as_records.proofs.Good.{GoodTo}
use Rattle.arrangement.specs.Tree.{Addenda, of_check, of_return, of_credit, Item}
use Rattle.arrangement.specs.Written.{views_then, item_then, items_then}
use Rattle.arrangement.specs.Sound.{All, layout_in, layout_of, I, F, in_bundle, item_types, AllTheFirst, SoundItem}
use Rattle.arrangement.proofs.After.{after_addenda, after_item, after_items}
use Rattle.arrangement.proofs.Turns.{Settled, Viewed}
use Rattle.arrangement.proofs.InItem.{Around, in-addenda, indicator-is}
use Rattle.arrangement.proofs.ItemFigures.{present_with, fresh, item-figures, in-bundle, around-item}
use Rattle.arrangement.proofs.ItemTypes.{types_from, one-type-out}
use Rattle.arrangement.proofs.Making.{Follows, allow-rest, made-item}
use Rattle.arrangement.proofs.AddendaGood.{addenda-good, ends_of}
use Rattle.arrangement.proofs.SoundTyped.{item-typed}
use Rattle.arrangement.proofs.ViewsGood.{Ends, views-good}

-- before an item of a bundle, and behind one: one may come whose type goes with those before it
pub record Between (set : CharacterSet) (letter header : Body) (past : List Body) : Type 0 where
  pub around : Around set true letter header past
  pub settled : Settled set past
  pub viewed : Viewed set past
  pub next : (a : Addenda) → one_item_type (present_in set past) (layout_in a).type_number ≡ true → Follows set past (layout_in a).type_number

views-end : (a : Addenda) → Ends true (ends_of a)
unfolding follows
views-end (of_check a b c) = record { behind-50 = refl; behind-52 = refl; behind-54 = refl }
views-end (of_return a b c d) = record { behind-50 = refl; behind-52 = refl; behind-54 = refl }
views-end of_credit = record { behind-50 = refl; behind-52 = refl; behind-54 = refl }

control-ends : (a : Addenda) → is_one_of 70 (ends_of a) ≡ true
control-ends (of_check a b c) = refl
control-ends (of_return a b c d) = refl
control-ends of_credit = refl

-- the types that go with an item are among those that may come behind it; where both tests fail, one is the other
item-ends : (a b : Addenda) (present : ℕ) → one_item_type (present_with a present) (layout_in b).type_number ≡ true
    → is_one_of (layout_in b).type_number (ends_of a) ≡ true
item-ends (of_check a b c) (of_check d e f) present h = h
item-ends (of_check a b c) (of_return d e f g) present h = h
item-ends (of_check a b c) of_credit present h = h
item-ends (of_return a b c d) (of_check e f g) present h = h
item-ends (of_return a b c d) (of_return e f g i) present h = h
item-ends (of_return a b c d) of_credit present h = h
item-ends of_credit (of_check d e f) present h = refl
item-ends of_credit (of_return d e f g) present h = refl
item-ends of_credit of_credit present h = refl

module _ (End : List Body → Type 0) (set : CharacterSet) (letter header : Body) where
  item-good : (i : Item) (past rest : List Body) → SoundItem set letter header i → Between set letter header past
      → one_item_type (present_in set past) (layout_of i).type_number ≡ true
      → (Between set letter header (after_item past i) → Follows set (after_item past i) 70 → GoodTo End set (after_item past i) rest)
      → GoodTo End set past (item_then i rest)
  item-good i past rest sound b same on =
      let d = i.detail ∷ past in
      let before = after_addenda d i.addenda in
      let after = after_item past i in
      let typed = item-typed set letter header i sound in
      let new = fresh set i.addenda i.detail past typed.detail in
      let f = item-figures set i past typed in
      let within = in-bundle set letter header i past typed b.around in
      let inside = in-addenda set true letter (in_bundle header i) d i.addenda typed.addenda within in
      let around = around-item set true letter header i past typed b.around in
      let letter-is = indicator-is set after around.letter-is in
      let seen : Viewed set after =
      λ k h. omega (arith, f.shown, sound.seen (sym f.demands ∙ k) (subst (λ (y : ℕ). (y ≡ I) ⊎ (y ≡ F)) letter-is h)) in
      record {
        first = made-item set i.addenda i.detail past sound.detail (b.next i.addenda same) b.settled b.viewed same;
        rest =
            addenda-good End set d i.addenda (views_then i.views rest) sound.addenda typed.detail new.bofd new.endorser
            (record { count = omega (arith, sound.number, new.addenda, new.stated-is); inside = within.inside_is })
            (λ begins owes. views-good End set true (ends_of i.addenda) (views-end i.addenda) letter (in_bundle header i) before i.views rest
            sound.views inside sound.unseen (omega (arith, owes.count)) begins
            (λ settled ends. on
            (record {
              around = around;
              settled = settled;
              viewed = seen;
              next = λ a h. (allow-rest set ends).may (layout_in a).type_number (item-ends i.addenda a (present_in set past) (rw f.present at h));
            })
            ((allow-rest set ends).may 70 (control-ends i.addenda))));
      }

  -- the 70 may come behind an item: where there is none, that it may come is asked for
  pub items-good : (its : List Item) (past rest : List Body) → All (SoundItem set letter header) its
      → AllTheFirst (types_from (present_in set past) (item_types its)) → Between set letter header past → (length its ≡ 0 → Follows set past 70)
      → (Between set letter header (after_items past its) → Follows set (after_items past its) 70 → GoodTo End set (after_items past its) rest)
      → GoodTo End set past (items_then its rest)
  items-good [] past rest sound same b ends on = on b (ends refl)
  items-good (i ∷ its) past rest sound same b ends on =
      let kinds = one-type-out i.addenda (present_in set past) (item_types its) same in
      let present = (item-figures set i past (item-typed set letter header i sound.0)).present in
      item-good i past (items_then its rest) sound.0 b kinds.0
      (λ b₁ ends₁. items-good its (after_item past i) rest sound.1 (rw present kinds.1) b₁ (λ e. ends₁) on)
