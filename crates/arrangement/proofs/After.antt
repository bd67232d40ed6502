-- The records read after a part of an arrangement, and from one part to a list of them. Assumes nothing.
use Prim.Native.Nat.{ℕ, ◌+◌}
use native.Mathlib.Omega.{arith}
use mathlib.Core.Path.{◌≡◌, refl, ◌∙◌}
use mathlib.Core.List.{List, [], ◌∷◌, ◌++◌}
use mathlib.Core.Option.{Option, none, some}
use lib.ListN.{length}
use Rattle.file_as_records.specs.Framed.{Body}
use Rattle.file_as_records.proofs.Good.{onto}
use Rattle.arrangement.specs.Tree.{View, Addenda, of_check, of_return, of_credit, Item, Bundle, Credit, Content, bundled, direct, CashLetter}
use Rattle.arrangement.specs.Written.{optional_then, views_then, addenda_then, item_then, items_then, bundle_then, content_then, contents_then, letters_then}
use Rattle.arrangement.specs.Sound.{All, total}

-- the records read after those of past, part by part
abbrev pub after_optional : List Body → Option Body → List Body
after_optional past none = past
after_optional past (some b) = b ∷ past

-- one part after the other; said once, so that what holds of a part is lifted to a list of them by one law
abbrev pub after_each : {A : Type 0} → (List Body → A → List Body) → List Body → List A → List Body
after_each after past [] = past
after_each after past (x ∷ xs) = after_each after (after past x) xs

abbrev pub after_view : List Body → View → List Body
after_view past v = after_optional (v.image ∷ v.detail ∷ past) v.analysis

abbrev pub after_views : List Body → List View → List Body
after_views past vs = after_each after_view past vs

abbrev pub after_addenda : List Body → Addenda → List Body
after_addenda past (of_check a b c) = onto c (after_optional (onto a past) b)
after_addenda past (of_return a b c d) = onto d (after_optional (b ∷ onto a past) c)
after_addenda past of_credit = past

abbrev pub after_item : List Body → Item → List Body
after_item past i = after_views (after_addenda (i.detail ∷ past) i.addenda) i.views

abbrev pub after_items : List Body → List Item → List Body
after_items past is = after_each after_item past is

abbrev pub after_bundle : List Body → Bundle → List Body
after_bundle past b = b.control ∷ after_items (b.header ∷ past) b.items

-- A credit directly in a cash letter is an item without addenda: what holds behind any item holds behind it.
abbrev pub as_item : Credit → Item
as_item c = record { detail = c.detail; addenda = of_credit; views = c.views }

abbrev pub after_credit : List Body → Credit → List Body
after_credit past c = after_item past (as_item c)

abbrev pub after_content : List Body → Content → List Body
after_content past (bundled b) = after_bundle past b
after_content past (direct c) = after_credit past c

abbrev pub after_contents : List Body → List Content → List Body
after_contents past cs = after_each after_content past cs

abbrev pub after_letter : List Body → CashLetter → List Body
after_letter past l = l.control ∷ after_contents (l.header ∷ past) l.contents

abbrev pub after_letters : List Body → List CashLetter → List Body
after_letters past ls = after_each after_letter past ls

-- reading the records of a part and then others, is reading the others after it
pub onto-run : (past bs rest : List Body) → onto (bs ++ rest) past ≡ onto rest (onto bs past)
onto-run past [] rest = refl
onto-run past (b ∷ bs) rest = onto-run (b ∷ past) bs rest

pub onto-optional : (past : List Body) (o : Option Body) (rest : List Body) → onto (optional_then o rest) past ≡ onto rest (after_optional past o)
onto-optional past none rest = refl
onto-optional past (some b) rest = refl

pub onto-views : (past : List Body) (vs : List View) (rest : List Body) → onto (views_then vs rest) past ≡ onto rest (after_views past vs)
onto-views past [] rest = refl
onto-views past (v ∷ vs) rest =
    onto-optional (v.image ∷ v.detail ∷ past) v.analysis (views_then vs rest) ∙ onto-views (after_view past v) vs rest

pub onto-addenda : (past : List Body) (a : Addenda) (rest : List Body) → onto (addenda_then a rest) past ≡ onto rest (after_addenda past a)
onto-addenda past (of_check a b c) rest =
    onto-run past a (optional_then b (c ++ rest)) ∙ onto-optional (onto a past) b (c ++ rest) ∙ onto-run (after_optional (onto a past) b) c rest
onto-addenda past (of_return a b c d) rest =
    onto-run past a (b ∷ optional_then c (d ++ rest)) ∙ onto-optional (b ∷ onto a past) c (d ++ rest)
    ∙ onto-run (after_optional (b ∷ onto a past) c) d rest
onto-addenda past of_credit rest = refl

pub onto-item : (past : List Body) (i : Item) (rest : List Body) → onto (item_then i rest) past ≡ onto rest (after_item past i)
onto-item past i rest =
    onto-addenda (i.detail ∷ past) i.addenda (views_then i.views rest)
    ∙ onto-views (after_addenda (i.detail ∷ past) i.addenda) i.views rest

pub onto-items : (past : List Body) (is : List Item) (rest : List Body) → onto (items_then is rest) past ≡ onto rest (after_items past is)
onto-items past [] rest = refl
onto-items past (i ∷ is) rest = onto-item past i (items_then is rest) ∙ onto-items (after_item past i) is rest

pub onto-bundle : (past : List Body) (b : Bundle) (rest : List Body) → onto (bundle_then b rest) past ≡ onto rest (after_bundle past b)
onto-bundle past b rest = onto-items (b.header ∷ past) b.items (b.control ∷ rest)

pub onto-content : (past : List Body) (c : Content) (rest : List Body) → onto (content_then c rest) past ≡ onto rest (after_content past c)
onto-content past (bundled b) rest = onto-bundle past b rest
onto-content past (direct c) rest = onto-item past (as_item c) rest

pub onto-contents : (past : List Body) (cs : List Content) (rest : List Body)
    → onto (contents_then cs rest) past ≡ onto rest (after_contents past cs)
onto-contents past [] rest = refl
onto-contents past (c ∷ cs) rest = onto-content past c (contents_then cs rest) ∙ onto-contents (after_content past c) cs rest

pub onto-letters : (past : List Body) (ls : List CashLetter) (rest : List Body) → onto (letters_then ls rest) past ≡ onto rest (after_letters past ls)
onto-letters past [] rest = refl
onto-letters past (l ∷ ls) rest =
    onto-contents (l.header ∷ past) l.contents (l.control ∷ letters_then ls rest) ∙ onto-letters (after_letter past l) ls rest

pub length-onto : (past bs : List Body) → length (onto bs past) ≡ length bs + length past
length-onto past [] = omega arith
length-onto past (b ∷ bs) = omega (arith, length-onto (b ∷ past) bs)

-- From one part to a list of them. `Holds` is TypedView, TypedItem, TypedContent or TypedLetter.
module _ {A : Type 0} (after : List Body → A → List Body) (Holds : A → Type 0) where
  pub quiet_each : {X : Type 0} (figure : List Body → X) → ((past : List Body) (x : A) → Holds x → figure (after past x) ≡ figure past)
      → (past : List Body) (xs : List A) → All Holds xs → figure (after_each after past xs) ≡ figure past
  quiet_each figure one past [] k = refl
  quiet_each figure one past (x ∷ xs) k = quiet_each figure one (after past x) xs k.1 ∙ one past x k.0

  pub sum-each : (sum : List Body → ℕ) (part : A → ℕ) → ((past : List Body) (x : A) → Holds x → sum (after past x) ≡ part x + sum past)
      → (past : List Body) (xs : List A) → All Holds xs → sum (after_each after past xs) ≡ total part xs + sum past
  sum-each sum part one past [] k = omega arith
  sum-each sum part one past (x ∷ xs) k =
      omega (arith, sum-each sum part one (after past x) xs k.1, one past x k.0)

  pub count-each : (sum : List Body → ℕ) → ((past : List Body) (x : A) → Holds x → sum (after past x) ≡ 1 + sum past)
      → (past : List Body) (xs : List A) → All Holds xs → sum (after_each after past xs) ≡ length xs + sum past
  count-each sum one past [] k = omega arith
  count-each sum one past (x ∷ xs) k =
      omega (arith, count-each sum one (after past x) xs k.1, one past x k.0)
