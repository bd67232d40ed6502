-- What a good record of each type says, in figures of the records before it, and the other way round. Assumes nothing.
use Prim.Native.Nat.{ℕ, ◌≤◌, ◌<◌}
use native.Mathlib.Omega.{arith}
use mathlib.Core.Bool.{Bool, true, false, ◌&&◌, ◌||◌, not}
use mathlib.Core.Logic.{◌⊎◌, inl, inr}
use mathlib.Core.Path.{ap, ◌∙◌, ◌≡◌, refl, sym, subst}
use mathlib.Core.List.{List, ◌∷◌}
use lib.Dec.{eqb}
use borrow.Author.Tests.{leb-true, ltb-true, eqb-true, eq-eqb, ne_eqb, eqb-false}
use Rattle.text.specs.declared.character_set.CharacterSet.{CharacterSet}
use Rattle.judge.specs.Alone.{type_of}
use Rattle.order.specs.MayFollow.{is_check_or_return, is_item, is_addendum, may_follow, follows, one_item_type}
use Rattle.agree.specs.Links.{addenda_kept, annex_b}
use Rattle.file_as_records.specs.Framed.{Body}
use Rattle.file_as_records.proofs.Good.{Good, GoodAs, GoodTo}
use Rattle.file_as_records.proofs.Figures.{stated_in, addenda_in, shown_in, opened_in, indicator_in, inside_in, holder_in, last_in, present_in}
use Rattle.file_as_records.proofs.Tests.{both, not-both}
use Rattle.arrangement.specs.Sound.{N, E, I, F}

-- tests of Annex B
pub unequal : (x y : ℕ) → not (eqb x y) ≡ true → x ≡ y → ⊥
unequal x y e h = not-both (rw (eq-eqb x y h) at e)

pub differs : (x y : ℕ) → (x ≡ y → ⊥) → not (eqb x y) ≡ true
differs x y h = rw (ne_eqb x y h)

-- of a newest item of type `holder`: views are demanded of checks and returns
abbrev pub Seen : ℕ → ℕ → ℕ → Type 0
Seen indicator holder shown = is_check_or_return holder ≡ true → (indicator ≡ I) ⊎ (indicator ≡ F) → 1 ≤ shown

seen-bools : (a b c d : Bool) → not ((a || b) && (c && d)) ≡ true → (a ≡ true) ⊎ (b ≡ true) → c ≡ true → d ≡ false
seen-bools true b true true e h k = sym e
seen-bools true b true false e h k = refl
seen-bools true b false d e h k = cc
seen-bools false true true true e h k = sym e
seen-bools false true true false e h k = refl
seen-bools false true false d e h k = cc
seen-bools false false c d e (inl h) k = cc
seen-bools false false c d e (inr h) k = cc

zero_or : (n : ℕ) → eqb n 0 ≡ false → 1 ≤ n
zero_or n e = omega (arith, eqb-false n 0 e)

either-tests : (i : ℕ) → (i ≡ I) ⊎ (i ≡ F) → (eqb i I ≡ true) ⊎ (eqb i F ≡ true)
either-tests i (inl e) = inl (eq-eqb i I e)
either-tests i (inr e) = inr (eq-eqb i F e)

seen-in : (i holder shown : ℕ) → not ((eqb i I || eqb i F) && (is_check_or_return holder && eqb shown 0)) ≡ true → Seen i holder shown
seen-in i holder shown e =
    λ k h. zero_or shown (seen-bools (eqb i I) (eqb i F) (is_check_or_return holder) (eqb shown 0) e (either-tests i h) k)

seen-cases : (a b c d : Bool) → ((a ≡ true) ⊎ (b ≡ true) → c ≡ true → d ≡ false) → not ((a || b) && (c && d)) ≡ true
seen-cases true b true d h = rw (h (inl refl) refl)
seen-cases true b false d h = refl
seen-cases false true true d h = rw (h (inr refl) refl)
seen-cases false true false d h = refl
seen-cases false false c d h = refl

tests-either : (i : ℕ) → (eqb i I ≡ true) ⊎ (eqb i F ≡ true) → (i ≡ I) ⊎ (i ≡ F)
tests-either i (inl e) = inl (eqb-true i I e)
tests-either i (inr e) = inr (eqb-true i F e)

not-zero : (n : ℕ) → 1 ≤ n → eqb n 0 ≡ false
not-zero n h = ne_eqb n 0 (λ e. omega (arith, h, e))

pub seen-out : (i holder shown : ℕ) → Seen i holder shown → not ((eqb i I || eqb i F) && (is_check_or_return holder && eqb shown 0)) ≡ true
seen-out i holder shown s =
    seen-cases (eqb i I) (eqb i F) (is_check_or_return holder) (eqb shown 0) (λ h k. not-zero shown (s k (tests-either i h)))

filled-bools : (a b : Bool) → not (not a && b) ≡ true → (a ≡ true) ⊎ (b ≡ false)
filled-bools true b e = inl refl
filled-bools false true e = inr (sym e)
filled-bools false false e = inr refl

filled_in : (i opened : ℕ) → not (not (eqb i N) && eqb opened 0) ≡ true → (i ≡ N) ⊎ (1 ≤ opened)
filled_in i opened e = turn (filled-bools (eqb i N) (eqb opened 0) e)
  where
    turn : (eqb i N ≡ true) ⊎ (eqb opened 0 ≡ false) → (i ≡ N) ⊎ (1 ≤ opened)
    turn (inl h) = inl (eqb-true i N h)
    turn (inr h) = inr (zero_or opened h)

pub filled-out : (i opened : ℕ) → (i ≡ N) ⊎ (1 ≤ opened) → not (not (eqb i N) && eqb opened 0) ≡ true
filled-out i opened (inl h) = rw (eq-eqb i N h)
filled-out i opened (inr h) = rw (not-zero opened h) (either-false (eqb i N))
  where
    either-false : (a : Bool) → not (not a && false) ≡ true
    either-false true = refl
    either-false false = refl

-- what stands of the item before a record that is no addendum of it
abbrev pub Settled : CharacterSet → List Body → Type 0
Settled set past = stated_in set past ≤ addenda_in set past

abbrev pub Viewed : CharacterSet → List Body → Type 0
Viewed set past = Seen (indicator_in set past) (holder_in set past) (shown_in set past)

pub as-type : (set : CharacterSet) (t : ℕ) (past : List Body) (b : Body) → type_of set b ≡ t → Good set past b → GoodAs set t past b
as-type set t past b e g = subst (λ (u : ℕ). GoodAs set u past b) e g

pub of-type : (set : CharacterSet) (t : ℕ) (past : List Body) (b : Body) → type_of set b ≡ t → GoodAs set t past b → Good set past b
of-type set t past b e g = subst (λ (u : ℕ). GoodAs set u past b) (sym e) g

module _ (set : CharacterSet) (t : ℕ) (past : List Body) (b : Body) (g : GoodAs set t past b) where
  pub settled-in : is_addendum t ≡ false → Settled set past
  unfolding addenda_kept
  settled-in h = leb-true (stated_in set past) (addenda_in set past) (rw h at g.linked.addenda)

  pub short-in : is_addendum t ≡ true → addenda_in set past < stated_in set past
  unfolding addenda_kept
  short-in h = ltb-true (addenda_in set past) (stated_in set past) (rw h at g.linked.addenda)

  pub follows-in : follows (inside_in set past) (last_in set past) t ≡ true
  unfolding may_follow
  follows-in = (both (follows (inside_in set past) (last_in set past) t) (one_item_type (present_in set past) t) g.follows).0

  -- "as the first"
  pub item-type-in : one_item_type (present_in set past) t ≡ true
  unfolding may_follow
  item-type-in = (both (follows (inside_in set past) (last_in set past) t) (one_item_type (present_in set past) t) g.follows).1

module _ (set : CharacterSet) (past : List Body) (b : Body) where
  pub bundle-in : GoodAs set 20 past b → indicator_in set past ≡ N → ⊥
  unfolding annex_b
  bundle-in g = unequal (indicator_in set past) N (both (not (eqb (indicator_in set past) N)) true g.linked.annex-b).0

  pub view_in : GoodAs set 50 past b → indicator_in set past ≡ E → ⊥
  unfolding annex_b
  view_in g = unequal (indicator_in set past) E (both (not (eqb (indicator_in set past) E)) true g.linked.annex-b).0

  -- at an item, and at a 70
  pub viewed-in : (t : ℕ) → eqb t 20 ≡ false → eqb t 50 ≡ false → is_item t || eqb t 70 ≡ true → GoodAs set t past b → Viewed set past
  unfolding annex_b
  viewed-in t not-20 not-50 closes g =
      seen-in (indicator_in set past) (holder_in set past) (shown_in set past) (both _ _ (rw (not-20, not-50, closes) at g.linked.annex-b)).0

  pub letter-in : GoodAs set 90 past b → (indicator_in set past ≡ N) ⊎ (1 ≤ opened_in set past)
  unfolding annex_b
  letter-in g = filled_in (indicator_in set past) (opened_in set past) g.linked.annex-b

-- a type that does not follow the one before it, in a bundle or outside
pub not_after : (set : CharacterSet) (t n : ℕ) (past : List Body) (b c : Body) → type_of set b ≡ n → type_of set c ≡ t
    → ((opened : Bool) → follows opened n t ≡ false)
    → Good set (b ∷ past) c → ⊥
not_after set t n past b c e k f g =
    let opened = inside_in set (b ∷ past) in
    not-both (sym (f opened) ∙ ap (λ (l : ℕ). follows opened l t) (sym e) ∙ follows-in set t (b ∷ past) c (as-type set t (b ∷ past) c k g))

-- a part of an arrangement found sound, and the records behind it good
pub record Found (End : List Body → Type 0) (set : CharacterSet) (Part : Type 0) (past rest : List Body) : Type 0 where
  pub sound : Part
  pub behind : GoodTo End set past rest
