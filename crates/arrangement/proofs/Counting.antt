-- Parts of an arrangement each of which adds one to a figure of the records before. Assumes nothing.
use Prim.Native.Nat.{ℕ, ◌+◌}
use native.Mathlib.Omega.{arith}
use mathlib.Core.Path.{◌≡◌, ◌∙◌}
use mathlib.Core.Bool.{Bool, cond}
use mathlib.Core.List.{List, [], ◌∷◌}
use lib.ListN.{length}
use Rattle.text.specs.declared.character_set.CharacterSet.{CharacterSet}
use Rattle.file_as_records.specs.Framed.{Body}
use Rattle.file_as_records.proofs.Figures.{value}
use Rattle.file_as_records.proofs.Good.{onto}
use Rattle.arrangement.specs.Tree.{View, Bundle, Content, bundled, direct, CashLetter}
use Rattle.arrangement.specs.Sound.{All, is_bundle}
use Rattle.arrangement.specs.TypesInPlace.{OfType, TypedView, TypedBundle, TypedContent, TypedLetter}
use Rattle.arrangement.proofs.Quiet.{Quiet, QuietContents, QuietItems, item_of, quiet-contents, quiet-item, quiet-items, quiet-optional, quiet_step, step}
use Rattle.arrangement.proofs.After.{after_bundle, after_content, after_contents, after_items, after_letter, after_view, after_views, as_item, count-each}

-- how `sum_since set begins measure` goes on: `sum_since set begins measure past` is `value set 0 (adding begins measure) past`
abbrev pub adding : (ℕ → Bool) → (ℕ → Body → ℕ) → ℕ → Body → ℕ → ℕ
adding begins measure t b x = cond (begins t) 0 (measure t b + x)

-- a type of which each record adds one
abbrev pub Counts : (ℕ → Body → ℕ → ℕ) → ℕ → Type 0
Counts next t = (b : Body) (x : ℕ) → next t b x ≡ 1 + x

module _ (set : CharacterSet) (first : ℕ) (next : ℕ → Body → ℕ → ℕ) where
  pub count-run : (past bs : List Body) (t : ℕ) → All (OfType set t) bs → Counts next t
      → value set first next (onto bs past) ≡ length bs + value set first next past
  count-run past [] t k c = omega arith
  count-run past (b ∷ bs) t k c =
      omega (arith, count-run (b ∷ past) bs t k.1 c, step set first next past b t k.0, c b (value set first next past))

  pub count-view : Counts next 50 → Quiet next 52 → Quiet next 54 → (past : List Body) (v : View) → TypedView set v
      → value set first next (after_view past v) ≡ 1 + value set first next past
  count-view c q52 q54 past v k =
      quiet-optional set first next (v.image ∷ v.detail ∷ past) v.analysis 54 k.analysis q54
      ∙ quiet_step set first next (v.detail ∷ past) v.image 52 k.image q52
      ∙ step set first next past v.detail 50 k.detail ∙ c v.detail (value set first next past)

  pub count-views : Counts next 50 → Quiet next 52 → Quiet next 54 → (past : List Body) (vs : List View) → All (TypedView set) vs
      → value set first next (after_views past vs) ≡ length vs + value set first next past
  count-views c q52 q54 past vs k = count-each after_view (TypedView set) (value set first next) (count-view c q52 q54) past vs k

  count-bundle : Counts next 20 → QuietItems next → Quiet next 70 → (past : List Body) (b : Bundle) → TypedBundle set b
      → value set first next (after_bundle past b) ≡ 1 + value set first next past
  count-bundle c q q70 past b k =
      quiet_step set first next (after_items (b.header ∷ past) b.items) b.control 70 k.control q70
      ∙ quiet-items set first next q (b.header ∷ past) b.items k.items
      ∙ step set first next past b.header 20 k.header ∙ c b.header (value set first next past)

  -- a bundle counts, and a credit directly in a cash letter does not
  pub count-content : Counts next 20 → QuietItems next → Quiet next 70 → (past : List Body) (c : Content) → TypedContent set c
      → value set first next (after_content past c) ≡ is_bundle c + value set first next past
  count-content counts q q70 past (bundled b) k = count-bundle counts q q70 past b k
  count-content counts q q70 past (direct c) k = omega (arith, quiet-item set first next q past (as_item c) (item_of set c k))

  pub count-letter : Counts next 10 → QuietContents next → Quiet next 90 → (past : List Body) (l : CashLetter) → TypedLetter set l
      → value set first next (after_letter past l) ≡ 1 + value set first next past
  count-letter c q q90 past l k =
      quiet_step set first next (after_contents (l.header ∷ past) l.contents) l.control 90 k.control q90
      ∙ quiet-contents set first next q (l.header ∷ past) l.contents k.contents
      ∙ step set first next past l.header 10 k.header ∙ c l.header (value set first next past)
