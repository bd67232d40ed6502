-- What a file consists of, as sections and groups: each cash letter one section, and each bundle and each credit under its header one run. Assumes nothing.
use Prim.Native.Nat.{ℕ}
use mathlib.Core.Bool.{false}
use mathlib.Core.Option.{Option, none, some}
use mathlib.Core.Path.{◌≡◌, refl, sym, ap, ◌∙◌}
use mathlib.Core.List.{List, [], ◌∷◌, ◌++◌, map, append_assoc, append-nil}
use Rattle.text.specs.declared.character_set.CharacterSet.{CharacterSet}
use Rattle.judge.specs.Alone.{type_of}
use Rattle.order.specs.MayFollow.{is_one_of}
use Rattle.file_as_records.specs.Framed.{Body}
use Rattle.arrangement.specs.Tree.{View, Addenda, of_check, of_return, of_credit, Item, Content, bundled, direct}
use Rattle.arrangement.specs.Written.{optional_then, views_then, addenda_then, item_then, items_then, content_then, contents_then}
use Rattle.arrangement.specs.Sound.{All, IfAny}
use Rattle.arrangement.specs.TypesInPlace.{OfType, TypedView, TypedAddenda, TypedItem, TypedContent}
use Rattle.salvage_written.proofs.Run.{BundleRest, closes, goes, AllViews, IsRun, bundle, credit}
use Rattle.arrangement.specs.Sound as sound

-- parts written out, and what follows them
views-then : (vs : List View) (rest : List Body) → views_then vs rest ≡ views_then vs [] ++ rest
views-then [] rest = refl
views-then (v ∷ vs) rest = by v.analysis (views-then vs rest)
  where
    by : (o : Option Body) → views_then vs rest ≡ views_then vs [] ++ rest
        → v.detail ∷ v.image ∷ optional_then o (views_then vs rest) ≡ (v.detail ∷ v.image ∷ optional_then o (views_then vs [])) ++ rest
    by none e = ap (λ (x : List Body). v.detail ∷ v.image ∷ x) e
    by (some b) e = ap (λ (x : List Body). v.detail ∷ v.image ∷ b ∷ x) e

addenda-then : (a : Addenda) (rest : List Body) → addenda_then a rest ≡ addenda_then a [] ++ rest
addenda-then (of_check a none c) rest = ap (λ (x : List Body). a ++ (x ++ rest)) (sym (append-nil c)) ∙ sym (append_assoc a (c ++ []) rest)
addenda-then (of_check a (some b) c) rest = ap (λ (x : List Body). a ++ (b ∷ (x ++ rest))) (sym (append-nil c)) ∙ sym (append_assoc a (b ∷ (c ++ [])) rest)
addenda-then (of_return a b none d) rest = ap (λ (x : List Body). a ++ (b ∷ (x ++ rest))) (sym (append-nil d)) ∙ sym (append_assoc a (b ∷ (d ++ [])) rest)
addenda-then (of_return a b (some c) d) rest =
    ap (λ (x : List Body). a ++ (b ∷ c ∷ (x ++ rest))) (sym (append-nil d)) ∙ sym (append_assoc a (b ∷ c ∷ (d ++ [])) rest)
addenda-then of_credit rest = refl

item-then : (i : Item) (rest : List Body) → item_then i rest ≡ item_then i [] ++ rest
item-then i rest =
    ap (λ (x : List Body). i.detail ∷ addenda_then i.addenda x) (views-then i.views rest)
    ∙ ap (λ (x : List Body). i.detail ∷ x)
    (addenda-then i.addenda (views_then i.views [] ++ rest)
    ∙ sym (append_assoc (addenda_then i.addenda []) (views_then i.views []) rest)
    ∙ ap (λ (x : List Body). x ++ rest) (sym (addenda-then i.addenda (views_then i.views []))))

items-then : (is : List Item) (own rest : List Body) → items_then is (own ++ rest) ≡ items_then is own ++ rest
items-then [] own rest = refl
items-then (i ∷ is) own rest =
    ap (item_then i) (items-then is own rest)
    ∙ item-then i (items_then is own ++ rest)
    ∙ sym (append_assoc (item_then i []) (items_then is own) rest)
    ∙ ap (λ (x : List Body). x ++ rest) (sym (item-then i (items_then is own)))

-- the run of a bundle or a credit
abbrev pub run_of : Content → List Body
run_of c = content_then c []

abbrev pub joined : List (List Body) → List Body
joined [] = []
joined (r ∷ rs) = r ++ joined rs

content-then : (c : Content) (rest : List Body) → content_then c rest ≡ run_of c ++ rest
content-then (bundled b) rest = ap (λ (x : List Body). b.header ∷ x) (items-then b.items (b.control ∷ []) rest)
content-then (direct c) rest = ap (λ (x : List Body). c.detail ∷ x) (views-then c.views rest)

pub contents-then : (cs : List Content) (rest : List Body) → contents_then cs rest ≡ joined (map run_of cs) ++ rest
contents-then [] rest = refl
contents-then (c ∷ cs) rest =
    ap (content_then c) (contents-then cs rest)
    ∙ content-then c (joined (map run_of cs) ++ rest)
    ∙ sym (append_assoc (run_of c) (joined (map run_of cs)) rest)

-- each is a run
module _ (set : CharacterSet) where
  inner : (t : ℕ) {b : Body} {bs : List Body} → is_one_of t (10 ∷ 20 ∷ 70 ∷ 90 ∷ 99 ∷ []) ≡ false → type_of set b ≡ t → BundleRest set bs → BundleRest set (b ∷ bs)
  inner t h e r = goes (ap (λ (n : ℕ). is_one_of n (10 ∷ 20 ∷ 70 ∷ 90 ∷ 99 ∷ [])) e ∙ h) r

  views-rest : (vs : List View) {rest : List Body} → All (TypedView set) vs → BundleRest set rest → BundleRest set (views_then vs rest)
  views-rest [] t r = r
  views-rest (v ∷ vs) t r = inner 50 refl t.0.detail (inner 52 refl t.0.image (by v.analysis t.0.analysis (views-rest vs t.1 r)))
    where
      by : (o : Option Body) → IfAny (OfType set 54) o → {rest : List Body} → BundleRest set rest → BundleRest set (optional_then o rest)
      by none t r = r
      by (some b) t r = inner 54 refl t r

  several-rest : (k : ℕ) → is_one_of k (10 ∷ 20 ∷ 70 ∷ 90 ∷ 99 ∷ []) ≡ false → (bs : List Body) {rest : List Body} → All (OfType set k) bs → BundleRest set rest
      → BundleRest set (bs ++ rest)
  several-rest k h [] t r = r
  several-rest k h (b ∷ bs) t r = inner k h t.0 (several-rest k h bs t.1 r)

  optional-rest : (k : ℕ) → is_one_of k (10 ∷ 20 ∷ 70 ∷ 90 ∷ 99 ∷ []) ≡ false → (o : Option Body) {rest : List Body} → IfAny (OfType set k) o
      → BundleRest set rest → BundleRest set (optional_then o rest)
  optional-rest k h none t r = r
  optional-rest k h (some b) t r = inner k h t r

  item-rest : (i : Item) {rest : List Body} → TypedItem set i → BundleRest set rest → BundleRest set (item_then i rest)
  item-rest i t r = by i.addenda i.detail t.addenda t.detail (views-rest i.views t.views r)
    where
      by : (a : Addenda) (d : Body) → TypedAddenda set a → OfType set (sound.layout_in a).type_number d → {rest : List Body} → BundleRest set rest
          → BundleRest set (d ∷ addenda_then a rest)
      by (of_check a b c) d t e r =
          inner 25 refl e (several-rest 26 refl a t.addenda-a (optional-rest 27 refl b t.addendum-b (several-rest 28 refl c t.addenda-c r)))
      by (of_return a b c f) d t e r =
          inner 31 refl e
          (several-rest 32 refl a t.addenda-a
          (inner 33 refl t.addendum-b (optional-rest 34 refl c t.addendum-c (several-rest 35 refl f t.addenda-d r))))
      by of_credit d t e r = inner 61 refl e r

  items-rest : (is : List Item) {rest : List Body} → All (TypedItem set) is → BundleRest set rest → BundleRest set (items_then is rest)
  items-rest [] t r = r
  items-rest (i ∷ is) t r = item-rest i t.0 (items-rest is t.1 r)

  all-views : (vs : List View) → All (TypedView set) vs → AllViews set (views_then vs [])
  all-views [] t = tt
  all-views (v ∷ vs) t = (rw t.0.detail, (rw t.0.image, by v.analysis t.0.analysis (all-views vs t.1)))
    where
      by : (o : Option Body) → IfAny (OfType set 54) o → AllViews set (views_then vs []) → AllViews set (optional_then o (views_then vs []))
      by none e later = later
      by (some b) e later = (rw e, later)

  pub content-run : (c : Content) → TypedContent set c → IsRun set (run_of c)
  content-run (bundled b) t = bundle t.header (items-rest b.items t.items (closes t.control))
  content-run (direct c) t = credit t.detail (all-views c.views t.views)

  pub contents-run : (cs : List Content) → All (TypedContent set) cs → All (IsRun set) (map run_of cs)
  contents-run [] t = tt
  contents-run (c ∷ cs) t = (content-run c t.0, contents-run cs t.1)
