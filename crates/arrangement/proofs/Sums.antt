-- The sums of the reading over items, bundles, cash letters and a file: each is that of the arrangement. Assumes nothing.
use Prim.Native.Nat.{ℕ, ◌+◌}
use native.Mathlib.Omega.{arith}
use mathlib.Core.Path.{◌≡◌, ap, ◌∙◌}
use mathlib.Core.List.{List, [], ◌∷◌}
use mathlib.Core.Option.{Option}
use mathlib.Core.Bool.{Bool, true, false, not, cond}
use lib.ListN.{length}
use Rattle.text.specs.declared.character_set.CharacterSet.{CharacterSet}
use Rattle.file_as_records.specs.Framed.{Body}
use Rattle.file_as_records.proofs.Figures.{value, sum_since, is, never}
use Rattle.arrangement.specs.Tree.{View, Addenda, of_check, of_return, of_credit, Item, Bundle, Content, bundled, direct, CashLetter, File}
use Rattle.arrangement.specs.Sound.{All, total, layout_in, amount_in, is_debit_in, is_bundle, Figure, of_item, of_bundle, of_content, view_count, credit_cents}
use Rattle.arrangement.specs.TypesInPlace.{TypedItem, TypedBundle, TypedContent, TypedLetter, Typed}
use Rattle.arrangement.proofs.Quiet.{Quiet, QuietItems, QuietDetails, QuietAddenda, QuietViews, at_item, item_of, to-views, step, quiet_step}
use Rattle.arrangement.proofs.Counting.{adding, count-content, Counts, count-views}
use Rattle.arrangement.proofs.After.{after_addenda, after_item, after_items, after_content, after_contents, after_letter, after_letters, as_item, sum-each}

-- What each item adds to a sum: a figure. Records, here and below, so that their arguments are found; one `omega arith` proves any of those
-- that speak of types alone.
pub record ItemAdds (set : CharacterSet) (next : ℕ → Body → ℕ → ℕ) (figure : Figure) : Type 0 where
  pub item : (past : List Body) (i : Item) → TypedItem set i → value set 0 next (after_item past i) ≡ of_item figure i + value set 0 next past

-- A sum to which each item adds by its 25, 31 or 61 alone.
pub record DetailsAdd (next : ℕ → Body → ℕ → ℕ) (figure : Figure) : Type 0 where
  pub check : (a : List Body) (b : Option Body) (c : List Body) (d : Body) (vs : List View) (x : ℕ) → next 25 d x ≡ figure (of_check a b c) d vs + x
  pub return : (a : List Body) (b : Body) (c : Option Body) (d : List Body) (e : Body) (vs : List View) (x : ℕ)
      → next 31 e x ≡ figure (of_return a b c d) e vs + x
  pub credit : (d : Body) (vs : List View) (x : ℕ) → next 61 d x ≡ figure of_credit d vs + x
  pub addenda : QuietAddenda next
  pub views : QuietViews next

-- A sum to which each item adds its views.
pub record ViewsAdd (next : ℕ → Body → ℕ → ℕ) : Type 0 where
  pub details : QuietDetails next
  pub addenda : QuietAddenda next
  pub counted : Counts next 50
  pub image : Quiet next 52
  pub analysis : Quiet next 54

module _ (set : CharacterSet) {next : ℕ → Body → ℕ → ℕ} where
  -- what one 25, 31 or 61 adds, whichever it is
  detail-adds : {figure : Figure} → DetailsAdd next figure → (a : Addenda) (d : Body) (vs : List View) (x : ℕ)
      → next (layout_in a).type_number d x ≡ figure a d vs + x
  detail-adds q (of_check a b c) d vs x = q.check a b c d vs x
  detail-adds q (of_return a b c d) e vs x = q.return a b c d e vs x
  detail-adds q of_credit d vs x = q.credit d vs x

  pub by-details : {figure : Figure} → DetailsAdd next figure → ItemAdds set next figure
  by-details q =
      record {
        item = λ past i k.
            at_item set 0 next q.addenda q.views past i k ∙ detail-adds q i.addenda i.detail i.views (value set 0 next past);
      }

  pub by_views : ViewsAdd next → ItemAdds set next view_count
  by_views q =
      record {
        item = λ past i k.
            count-views set 0 next q.counted q.image q.analysis (after_addenda (i.detail ∷ past) i.addenda) i.views k.views
            ∙ ap (λ (n : ℕ). length i.views + n) (to-views set 0 next q.details q.addenda past i k);
      }

-- the cents of the credits, as the reading tells a credit
abbrev pub not_debit_cents : CharacterSet → Figure
not_debit_cents set a detail vs = cond (not (is_debit_in set a detail)) (amount_in set a detail) 0

otherwise : (b : Bool) (n : ℕ) → cond (not b) n 0 ≡ cond b 0 n
otherwise true n = omega arith
otherwise false n = omega arith

pub by-credits : (set : CharacterSet) {next : ℕ → Body → ℕ → ℕ} → DetailsAdd next (not_debit_cents set) → ItemAdds set next (credit_cents set)
by-credits set q =
    record {
      item = λ past i k.
          omega (arith, (by-details set q).item past i k, otherwise (is_debit_in set i.addenda i.detail) (amount_in set i.addenda i.detail));
    }

-- What each content of a cash letter adds to a sum, and each cash letter.
pub record ContentAdds (set : CharacterSet) (next : ℕ → Body → ℕ → ℕ) (part : Content → ℕ) : Type 0 where
  pub content : (past : List Body) (c : Content) → TypedContent set c → value set 0 next (after_content past c) ≡ part c + value set 0 next past

pub record LetterAdds (set : CharacterSet) (next : ℕ → Body → ℕ → ℕ) (part : CashLetter → ℕ) : Type 0 where
  pub letter : (past : List Body) (l : CashLetter) → TypedLetter set l → value set 0 next (after_letter past l) ≡ part l + value set 0 next past

module _ (set : CharacterSet) {next : ℕ → Body → ℕ → ℕ} where
  items-add : {figure : Figure} → ItemAdds set next figure → (past : List Body) (b : Bundle) → All (TypedItem set) b.items
      → value set 0 next (after_items past b.items) ≡ of_bundle figure b + value set 0 next past
  items-add {figure} each past b k = sum-each after_item (TypedItem set) (value set 0 next) (of_item figure) each.item past b.items k

  contents-add : {part : Content → ℕ} → ContentAdds set next part → (past : List Body) (l : CashLetter) → All (TypedContent set) l.contents
      → value set 0 next (after_contents past l.contents) ≡ total part l.contents + value set 0 next past
  contents-add {part} each past l k = sum-each after_content (TypedContent set) (value set 0 next) part each.content past l.contents k

-- A header and a control that add nothing: of a bundle, and of a cash letter.
pub record QuietBundle (next : ℕ → Body → ℕ → ℕ) : Type 0 where
  pub header : Quiet next 20
  pub control : Quiet next 70

pub record QuietLetter (next : ℕ → Body → ℕ → ℕ) : Type 0 where
  pub header : Quiet next 10
  pub control : Quiet next 90

module _ (set : CharacterSet) {next : ℕ → Body → ℕ → ℕ} where
  pub by-items : {figure : Figure} → QuietBundle next → ItemAdds set next figure → ContentAdds set next (of_content figure)
  by-items {figure} q each = record { content = adds } where
    adds : (past : List Body) (c : Content) → TypedContent set c → value set 0 next (after_content past c) ≡ of_content figure c + value set 0 next past
    adds past (bundled b) k =
        omega (
          arith,
          quiet_step set 0 next (after_items (b.header ∷ past) b.items) b.control 70 k.control q.control,
          items-add set each (b.header ∷ past) b k.items,
          quiet_step set 0 next past b.header 20 k.header q.header,
        )
    adds past (direct c) k = each.item past (as_item c) (item_of set c k)

  pub by_count : Counts next 20 → QuietItems next → Quiet next 70 → ContentAdds set next is_bundle
  by_count counts q q70 = record { content = count-content set 0 next counts q q70 }

  pub by-contents : {part : Content → ℕ} → QuietLetter next → ContentAdds set next part → LetterAdds set next (λ l. total part l.contents)
  by-contents q each =
      record {
        letter = λ past l k.
            omega (
              arith,
              quiet_step set 0 next (after_contents (l.header ∷ past) l.contents) l.control 90 k.control q.control,
              contents-add set each (l.header ∷ past) l k.contents,
              quiet_step set 0 next past l.header 10 k.header q.header,
            );
      }

-- The sum of a measure of the records, at the control of a level, before it, where it begins at the level's header.
module _ (set : CharacterSet) (measure : ℕ → Body → ℕ) where
  pub bundle-sum : {figure : Figure} → ItemAdds set (adding (is 20) measure) figure → (past : List Body) (b : Bundle) → TypedBundle set b
      → sum_since set (is 20) measure (after_items (b.header ∷ past) b.items) ≡ of_bundle figure b
  bundle-sum each past b k =
      omega (arith, items-add set each (b.header ∷ past) b k.items, step set 0 (adding (is 20) measure) past b.header 20 k.header)

  pub letter-sum : {part : Content → ℕ} → ContentAdds set (adding (is 10) measure) part → (past : List Body) (l : CashLetter) → TypedLetter set l
      → sum_since set (is 10) measure (after_contents (l.header ∷ past) l.contents) ≡ total part l.contents
  letter-sum each past l k =
      omega (arith, contents-add set each (l.header ∷ past) l k.contents, step set 0 (adding (is 10) measure) past l.header 10 k.header)

  pub file-sum : {part : CashLetter → ℕ} → Quiet (adding never measure) 1 → LetterAdds set (adding never measure) part → (f : File) → Typed set f
      → sum_since set never measure (after_letters (f.header ∷ []) f.letters) ≡ total part f.letters
  file-sum {part} q each f k =
      omega (
        arith,
        sum-each after_letter (TypedLetter set) (sum_since set never measure) part each.letter (f.header ∷ []) f.letters k.letters,
        quiet_step set 0 (adding never measure) [] f.header 1 k.header q,
      )
