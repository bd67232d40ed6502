-- What makes a record of each type good behind others: the record right, what it may follow, and figures of the others. Assumes nothing.
use Prim.Native.Nat.{ℕ, ◌≤◌}
use native.Mathlib.Omega.{arith}
use mathlib.Core.Bool.{Bool, true, false, ◌||◌}
use mathlib.Core.Logic.{◌⊎◌}
use mathlib.Core.Path.{◌≡◌, refl, sym, ap, ◌∙◌}
use mathlib.Core.List.{List, [], ◌∷◌}
use lib.Dec.{eqb}
use borrow.Author.Tests.{le-leb, eq-eqb, ne_eqb}
use Rattle.text.specs.declared.character_set.CharacterSet.{CharacterSet}
use Rattle.text.specs.DataTypes.{every}
use Rattle.layout.specs.Layout.{Layout}
use Rattle.layout.specs.Layouts.{credit_record, bundle_header, check_detail, return_record, image_view_detail, image_view_data, bundle_control, cash_letter_control, file_control}
use Rattle.judge.specs.Alone.{type_of}
use Rattle.order.specs.MayFollow.{is_item, is_addendum, is_one_of, may_follow, follows, one_item_type, is_carried}
use Rattle.agree.specs.Links.{addenda_kept, annex_b}
use Rattle.file_as_records.specs.Framed.{Body}
use Rattle.file_as_records.proofs.Good.{Good}
use Rattle.file_as_records.proofs.CheckLists.{numbered_as}
use Rattle.file_as_records.proofs.Figures.{stated_in, addenda_in, shown_in, opened_in, indicator_in, inside_in, holder_in, last_in, present_in}
use Rattle.file_as_records.proofs.Tests.{not-both, refuted}
use Rattle.file_as_records.proofs.TotalsByName.{BundleTotals, FileTotals, LetterTotals, Totalled, bundle-totalled, file-totalled, letter-totalled, not-totalled}
use Rattle.file_as_records.proofs.LinksByName.{Linked, ViewLinked}
use Rattle.order.proofs.Laws.{among}
use Rattle.arrangement.specs.Sound.{N, E, Right, layout_in}
use Rattle.arrangement.specs.Tree.{Addenda, of_check, of_return, of_credit}
use Rattle.arrangement.proofs.Rightness.{Known, right-out, known-20, known-25, known-31, known-50, known-52, known-61, known-70, known-90, known-99}
use Rattle.arrangement.proofs.Turns.{of-type, differs, seen-out, filled-out, Settled, Viewed}
use Rattle.arrangement.proofs.OwnAddenda.{next_addenda, next_stated}
use Rattle.arrangement.proofs.Quiet.{step}

-- a type that may follow those read, and types that all may
abbrev pub Follows : CharacterSet → List Body → ℕ → Type 0
Follows set past t = follows (inside_in set past) (last_in set past) t ≡ true

pub record Allow (set : CharacterSet) (ts : List ℕ) (past : List Body) : Type 0 where
  pub may : (t : ℕ) → is_one_of t ts ≡ true → Follows set past t

pub allow-first : (set : CharacterSet) {t : ℕ} {ts : List ℕ} {past : List Body} → Allow set (t ∷ ts) past → Follows set past t
allow-first set {t} a = a.may t (rw (eq-eqb t t refl) refl)

pub allow-rest : (set : CharacterSet) {t : ℕ} {ts : List ℕ} {past : List Body} → Allow set (t ∷ ts) past → Allow set ts past
allow-rest set {t} {ts} a = record { may = λ u e. a.may u (later (eqb u t) (is_one_of u ts) e) }
  where
    later : (c d : Bool) → d ≡ true → c || d ≡ true
    later true d e = refl
    later false d e = e

-- at types written out the last fact is `refl`
pub allow-at : (set : CharacterSet) {opened : Bool} {past : List Body} {t : ℕ} (ts : List ℕ) → inside_in set past ≡ opened
    → last_in set past ≡ t → every (follows opened t) ts ≡ true
    → Allow set ts past
allow-at set {opened} {past} ts i e h = record { may = λ u o. among (follows (inside_in set past) (last_in set past)) u ts (rw (i, e) h) o }

-- of any layout: at a layout written out, the checks compute to those of its type
module _ (set : CharacterSet) (k : Layout) (known : Known set k) (past : List Body) (b : Body) where
  made : Right set k b → is_carried k.type_number ≡ true → Follows set past k.type_number
      → one_item_type (present_in set past) k.type_number ≡ true → Linked set k.type_number past b → Totalled set k.type_number past b
      → Good set past b
  unfolding may_follow
  made r c f o l s =
      of-type set k.type_number past b r.type
      (record { carried = c; follows = rw (f, o) refl; alone = right-out set k b known r; linked = l; totalled = s })

-- the types with checks beside those of addenda and record numbers
abbrev pub checked : List ℕ
checked = 20 ∷ 25 ∷ 31 ∷ 50 ∷ 52 ∷ 61 ∷ 70 ∷ 90 ∷ 99 ∷ []

unlike : (t n : ℕ) (us : List ℕ) → is_one_of t us ≡ false → is_one_of n us ≡ true → eqb t n ≡ false
unlike t n us o m = ne_eqb t n (λ e. not-both (sym o ∙ ap (λ (u : ℕ). is_one_of u us) e ∙ m))

-- of a layout without such checks, left open so that one law serves a run of any addenda; a layout written out has both facts by `refl`
module _ (set : CharacterSet) (k : Layout) (known : Known set k) (c : is_carried k.type_number ≡ true) (o : is_one_of k.type_number checked ≡ false)
    (past : List Body) (b : Body) where
  pub made_plain : Right set k b → Follows set past k.type_number → addenda_kept k.type_number (stated_in set past) (addenda_in set past) ≡ true
      → numbered_as set k.type_number past b ≡ true → Good set past b
  unfolding annex_b
  made_plain r f a n =
      let t = k.type_number in
      let not-20 = unlike t 20 checked o refl in
      let not-25 = unlike t 25 checked o refl in
      let not-31 = unlike t 31 checked o refl in
      let not-50 = unlike t 50 checked o refl in
      let not-52 = unlike t 52 checked o refl in
      let not-61 = unlike t 61 checked o refl in
      let not-70 = unlike t 70 checked o refl in
      let not-90 = unlike t 90 checked o refl in
      let not-99 = unlike t 99 checked o refl in
      made set k known past b r c f (simp (not-25, not-31))
      (record {
        addenda = a;
        annex-b = simp (not-20, not-25, not-31, not-50, not-61, not-70, not-90);
        numbered = n;
        view = refuted (eqb t 52) not-52;
      })
      (not-totalled set past b t not-70 not-90 not-99)

pub settled-kept : (set : CharacterSet) (t : ℕ) (past : List Body) → is_addendum t ≡ false → Settled set past
    → addenda_kept t (stated_in set past) (addenda_in set past) ≡ true
unfolding addenda_kept
settled-kept set t past n s = rw (n, le-leb (stated_in set past) (addenda_in set past) s) refl

-- the links of a record that is no addendum and no 52
plainly : (set : CharacterSet) (t : ℕ) (past : List Body) (b : Body) → is_addendum t ≡ false → eqb t 52 ≡ false → Settled set past
    → annex_b t (indicator_in set past) (opened_in set past) (holder_in set past) (shown_in set past) ≡ true → numbered_as set t past b ≡ true
    → Linked set t past b
plainly set t past b a v s x n = record { addenda = settled-kept set t past a s; annex-b = x; numbered = n; view = refuted (eqb t 52) v }

module _ (set : CharacterSet) (past : List Body) (b : Body) where
  pub made-20 : Right set bundle_header b → Follows set past 20 → Settled set past → (indicator_in set past ≡ N → ⊥) → Good set past b
  unfolding is_carried annex_b
  made-20 r f s n =
      made set bundle_header (known-20 set) past b r refl f refl (plainly set 20 past b refl refl s (rw (differs (indicator_in set past) N n) refl) refl)
      (not-totalled set past b 20 refl refl refl)

  pub made-50 : Right set image_view_detail b → Follows set past 50 → Settled set past → (indicator_in set past ≡ E → ⊥) → Good set past b
  unfolding is_carried annex_b
  made-50 r f s n =
      made set image_view_detail (known-50 set) past b r refl f refl (plainly set 50 past b refl refl s (rw (differs (indicator_in set past) E n) refl) refl)
      (not-totalled set past b 50 refl refl refl)

  pub made-52 : Right set image_view_data b → Follows set past 52 → Settled set past → ViewLinked set past b → Good set past b
  unfolding is_carried annex_b
  made-52 r f s v =
      made set image_view_data (known-52 set) past b r refl f refl
      (record { addenda = settled-kept set 52 past refl s; annex-b = refl; numbered = refl; view = λ e. v }) (not-totalled set past b 52 refl refl refl)

  pub made-70 : Right set bundle_control b → Follows set past 70 → Settled set past → Viewed set past → BundleTotals set past b → Good set past b
  unfolding is_carried annex_b
  made-70 r f s v t =
      made set bundle_control (known-70 set) past b r refl f refl
      (plainly set 70 past b refl refl s (rw (seen-out (indicator_in set past) (holder_in set past) (shown_in set past) v) refl) refl)
      (bundle-totalled set past b t)

  pub made-90 : Right set cash_letter_control b → Follows set past 90 → Settled set past → (indicator_in set past ≡ N) ⊎ (1 ≤ opened_in set past)
      → LetterTotals set past b → Good set past b
  unfolding is_carried annex_b
  made-90 r f s n t =
      made set cash_letter_control (known-90 set) past b r refl f refl
      (plainly set 90 past b refl refl s (filled-out (indicator_in set past) (opened_in set past) n) refl) (letter-totalled set past b t)

  pub made-99 : Right set file_control b → Follows set past 99 → Settled set past → FileTotals set past b → Good set past b
  unfolding is_carried annex_b
  made-99 r f s t =
      made set file_control (known-99 set) past b r refl f refl (plainly set 99 past b refl refl s refl refl) (file-totalled set past b t)

-- an item's first record
pub made-item : (set : CharacterSet) (a : Addenda) (d : Body) (past : List Body) → Right set (layout_in a) d
    → Follows set past (layout_in a).type_number → Settled set past
    → Viewed set past → one_item_type (present_in set past) (layout_in a).type_number ≡ true → Good set past d
unfolding is_carried annex_b
made-item set (of_check a b c) d past r f s v p =
    made set check_detail (known-25 set) past d r refl f p
    (plainly set 25 past d refl refl s (rw (seen-out (indicator_in set past) (holder_in set past) (shown_in set past) v) refl) refl)
    (not-totalled set past d 25 refl refl refl)
made-item set (of_return a b c e) d past r f s v p =
    made set return_record (known-31 set) past d r refl f p
    (plainly set 31 past d refl refl s (rw (seen-out (indicator_in set past) (holder_in set past) (shown_in set past) v) refl) refl)
    (not-totalled set past d 31 refl refl refl)
made-item set of_credit d past r f s v p =
    made set credit_record (known-61 set) past d r refl f p
    (plainly set 61 past d refl refl s (rw (seen-out (indicator_in set past) (holder_in set past) (shown_in set past) v) refl) refl)
    (not-totalled set past d 61 refl refl refl)

-- the item before a record that is no item and no addendum stays settled behind it
pub settled_on : (set : CharacterSet) (past : List Body) (b : Body) (t : ℕ) → type_of set b ≡ t → is_item t ≡ false → is_addendum t ≡ false
    → Settled set past → Settled set (b ∷ past)
settled_on set past b t e i a s =
    omega (arith, simp (i, a) at (step set 0 next_addenda past b t e), simp i at (step set 0 (next_stated set) past b t e))
