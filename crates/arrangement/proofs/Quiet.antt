-- Parts of an arrangement over which a figure of the records before stays as it is. Assumes nothing.
use Prim.Native.Nat.{ℕ}
use mathlib.Core.Path.{◌≡◌, refl, ap, ◌∙◌}
use mathlib.Core.List.{List, [], ◌∷◌}
use mathlib.Core.Option.{Option, none, some}
use Rattle.text.specs.declared.character_set.CharacterSet.{CharacterSet}
use Rattle.judge.specs.Alone.{type_of}
use Rattle.file_as_records.specs.Framed.{Body}
use Rattle.file_as_records.proofs.Figures.{value}
use Rattle.file_as_records.proofs.Good.{onto}
use Rattle.arrangement.specs.Tree.{View, Addenda, of_check, of_return, of_credit, Item, Bundle, Credit, Content, bundled, direct, CashLetter}
use Rattle.arrangement.specs.Sound.{All, IfAny, layout_in, layout_of}
use Rattle.arrangement.specs.TypesInPlace.{OfType, TypedView, TypedAddenda, TypedItem, TypedBundle, TypedCredit, TypedContent, TypedLetter}
use Rattle.arrangement.proofs.After.{after_addenda, after_bundle, after_content, after_contents, after_item, after_items, after_letter, after_letters, after_optional, after_view, after_views, as_item, quiet_each}

-- A type at which a figure stays as it is; and the types of each part, all such. One `omega arith` proves any of these of a sum.
abbrev pub Quiet : {X : Type 0} → (ℕ → Body → X → X) → ℕ → Type 0
Quiet {X} next t = (b : Body) (x : X) → next t b x ≡ x

module _ {X : Type 0} (next : ℕ → Body → X → X) where
  pub record QuietViews : Type 0 where
    pub detail : Quiet next 50
    pub image : Quiet next 52
    pub analysis : Quiet next 54

  pub record QuietAddenda : Type 0 where
    pub check-a : Quiet next 26
    pub check-b : Quiet next 27
    pub check-c : Quiet next 28
    pub return-a : Quiet next 32
    pub return-b : Quiet next 33
    pub return-c : Quiet next 34
    pub return-d : Quiet next 35

  pub record QuietDetails : Type 0 where
    pub check : Quiet next 25
    pub return : Quiet next 31
    pub credit : Quiet next 61

  pub record QuietItems : Type 0 where
    pub details : QuietDetails
    pub addenda : QuietAddenda
    pub views : QuietViews

  -- with the items, a credit directly in a cash letter is quiet: so this is said of all that a cash letter holds
  pub record QuietContents : Type 0 where
    pub header : Quiet next 20
    pub items : QuietItems
    pub control : Quiet next 70

  pub record QuietLetters : Type 0 where
    pub header : Quiet next 10
    pub contents : QuietContents
    pub control : Quiet next 90

-- a credit directly in a cash letter, as an item
pub item_of : (set : CharacterSet) (c : Credit) → TypedCredit set c → TypedItem set (as_item c)
item_of set c k = record { detail = k.detail; addenda = tt; views = k.views }

module _ (set : CharacterSet) {X : Type 0} (first : X) (next : ℕ → Body → X → X) where
  pub step : (past : List Body) (b : Body) (t : ℕ) → type_of set b ≡ t → value set first next (b ∷ past) ≡ next t b (value set first next past)
  step past b t k = ap (λ (u : ℕ). next u b (value set first next past)) k

  pub quiet_step : (past : List Body) (b : Body) (t : ℕ) → type_of set b ≡ t → Quiet next t
      → value set first next (b ∷ past) ≡ value set first next past
  quiet_step past b t k q = step past b t k ∙ q b (value set first next past)

  pub quiet-run : (past bs : List Body) (t : ℕ) → All (OfType set t) bs → Quiet next t
      → value set first next (onto bs past) ≡ value set first next past
  quiet-run past [] t k q = refl
  quiet-run past (b ∷ bs) t k q = quiet-run (b ∷ past) bs t k.1 q ∙ quiet_step past b t k.0 q

  pub quiet-optional : (past : List Body) (o : Option Body) (t : ℕ) → IfAny (OfType set t) o → Quiet next t
      → value set first next (after_optional past o) ≡ value set first next past
  quiet-optional past none t k q = refl
  quiet-optional past (some b) t k q = quiet_step past b t k q

  pub quiet-view : QuietViews next → (past : List Body) (v : View) → TypedView set v
      → value set first next (after_view past v) ≡ value set first next past
  quiet-view q past v k =
      quiet-optional (v.image ∷ v.detail ∷ past) v.analysis 54 k.analysis q.analysis
      ∙ quiet_step (v.detail ∷ past) v.image 52 k.image q.image ∙ quiet_step past v.detail 50 k.detail q.detail

  pub quiet-views : QuietViews next → (past : List Body) (vs : List View) → All (TypedView set) vs
      → value set first next (after_views past vs) ≡ value set first next past
  quiet-views q past vs k = quiet_each after_view (TypedView set) (value set first next) (quiet-view q) past vs k

  pub quiet-addenda : QuietAddenda next → (past : List Body) (a : Addenda) → TypedAddenda set a
      → value set first next (after_addenda past a) ≡ value set first next past
  quiet-addenda q past (of_check a b c) k =
      quiet-run (after_optional (onto a past) b) c 28 k.addenda-c q.check-c ∙ quiet-optional (onto a past) b 27 k.addendum-b q.check-b
      ∙ quiet-run past a 26 k.addenda-a q.check-a
  quiet-addenda q past (of_return a b c d) k =
      quiet-run (after_optional (b ∷ onto a past) c) d 35 k.addenda-d q.return-d ∙ quiet-optional (b ∷ onto a past) c 34 k.addendum-c q.return-c
      ∙ quiet_step (onto a past) b 33 k.addendum-b q.return-b ∙ quiet-run past a 32 k.addenda-a q.return-a
  quiet-addenda q past of_credit k = refl

  quiet-detail : QuietDetails next → (a : Addenda) → Quiet next (layout_in a).type_number
  quiet-detail q (of_check a b c) = q.check
  quiet-detail q (of_return a b c d) = q.return
  quiet-detail q of_credit = q.credit

  pub quiet-first : QuietDetails next → (past : List Body) (i : Item) → TypedItem set i
      → value set first next (i.detail ∷ past) ≡ value set first next past
  quiet-first q past i k = quiet_step past i.detail (layout_of i).type_number k.detail (quiet-detail q i.addenda)

  -- of an item whose addenda and views are quiet, the figure takes the 25, 31 or 61
  pub at_item : QuietAddenda next → QuietViews next → (past : List Body) (i : Item) → TypedItem set i
      → value set first next (after_item past i) ≡ next (layout_of i).type_number i.detail (value set first next past)
  at_item qa qv past i k =
      quiet-views qv (after_addenda (i.detail ∷ past) i.addenda) i.views k.views
      ∙ quiet-addenda qa (i.detail ∷ past) i.addenda k.addenda ∙ step past i.detail (layout_of i).type_number k.detail

  pub quiet-item : QuietItems next → (past : List Body) (i : Item) → TypedItem set i
      → value set first next (after_item past i) ≡ value set first next past
  quiet-item q past i k = at_item q.addenda q.views past i k ∙ quiet-detail q.details i.addenda i.detail (value set first next past)

  -- of an item whose 25, 31 or 61 and addenda are quiet, the figure takes the views
  pub to-views : QuietDetails next → QuietAddenda next → (past : List Body) (i : Item) → TypedItem set i
      → value set first next (after_addenda (i.detail ∷ past) i.addenda) ≡ value set first next past
  to-views qd qa past i k =
      quiet-addenda qa (i.detail ∷ past) i.addenda k.addenda ∙ quiet-first qd past i k

  pub quiet-items : QuietItems next → (past : List Body) (is : List Item) → All (TypedItem set) is
      → value set first next (after_items past is) ≡ value set first next past
  quiet-items q past is k = quiet_each after_item (TypedItem set) (value set first next) (quiet-item q) past is k

  pub quiet-bundle : QuietContents next → (past : List Body) (b : Bundle) → TypedBundle set b
      → value set first next (after_bundle past b) ≡ value set first next past
  quiet-bundle q past b k =
      quiet_step (after_items (b.header ∷ past) b.items) b.control 70 k.control q.control
      ∙ quiet-items q.items (b.header ∷ past) b.items k.items ∙ quiet_step past b.header 20 k.header q.header

  pub quiet-content : QuietContents next → (past : List Body) (c : Content) → TypedContent set c
      → value set first next (after_content past c) ≡ value set first next past
  quiet-content q past (bundled b) k = quiet-bundle q past b k
  quiet-content q past (direct c) k = quiet-item q.items past (as_item c) (item_of set c k)

  pub quiet-contents : QuietContents next → (past : List Body) (cs : List Content) → All (TypedContent set) cs
      → value set first next (after_contents past cs) ≡ value set first next past
  quiet-contents q past cs k = quiet_each after_content (TypedContent set) (value set first next) (quiet-content q) past cs k

  pub quiet-letter : QuietLetters next → (past : List Body) (l : CashLetter) → TypedLetter set l
      → value set first next (after_letter past l) ≡ value set first next past
  quiet-letter q past l k =
      quiet_step (after_contents (l.header ∷ past) l.contents) l.control 90 k.control q.control
      ∙ quiet-contents q.contents (l.header ∷ past) l.contents k.contents ∙ quiet_step past l.header 10 k.header q.header

  pub quiet-letters : QuietLetters next → (past : List Body) (ls : List CashLetter) → All (TypedLetter set) ls
      → value set first next (after_letters past ls) ≡ value set first next past
  quiet-letters q past ls k = quiet_each after_letter (TypedLetter set) (value set first next) (quiet-letter q) past ls k
