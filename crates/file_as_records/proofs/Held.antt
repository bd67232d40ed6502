-- The bodies of a file's records where they stand in it: the entries that they make, and that the figures of those are theirs. Assumes nothing.
use Prim.Native.Nat.{ℕ, ◌+◌, ◌-◌, ◌≤◌}
use native.Mathlib.Omega.{arith}
use mathlib.Core.Bool.{Bool, true, false, ◌&&◌, ◌||◌, not, cond}
use mathlib.Core.Path.{◌≡◌, refl, sym, ap, ap₂, ◌∙◌}
use mathlib.Core.List.{List, [], ◌∷◌, ◌++◌, map}
use lib.Dec.{leb, eqb}
use lib.ListN.{length, get_or, take, drop, length-drop}
use lib.Seq.{drop-drop, drop-append-le, take-append-le}
use borrow.Author.Tests.{leb-true, eqb-true}
use Rattle.text.specs.declared.character_set.CharacterSet.{CharacterSet}
use Rattle.text.specs.Capitals.{capital}
use Rattle.text.specs.Number.{number}
use Rattle.frame.specs.Frames.{part}
use Rattle.layout.specs.Layout.{Line, Layout, sized_parts}
use Rattle.layout.specs.Layouts.{cash_letter_header, check_detail, return_record, image_view_detail, credit_record}
use Rattle.judge.specs.Alone.{Sound}
use Rattle.judge.specs.Alone.{type_of, judged_as, alone}
use Rattle.judge.proofs.Laws.{sound-fills}
use Rattle.measure.specs.Measures.{sums, no_sums, together, cents}
use Rattle.measure.specs.declared.Sums.{Sums}
use Rattle.order.specs.MayFollow.{is_check_or_return, is_item, is_addendum, last_of, is_open, item_type_in_bundle, newest_item_type}
use Rattle.standing.specs.History.{Entry, entry, field_in, field, amount_of, is_debit, is_credit, adds, micr_of, stated_by, one, sums_since, count_since, is_bofd_addendum, is_endorser_addendum}
use Rattle.standing.specs.Standing.{standing}
use Rattle.standing.specs.declared.Standing.{Standing}
use Rattle.standing.proofs.Laws.{assembled}
use Rattle.file_as_records.specs.Framed.{Body, field_among, field_of}
use Rattle.file_as_records.proofs.Figures.{value, sum_since, never, is, count, amount_as, is_debit_as, is_credit_as, debit_as, credit_as, micr_as, stated_as, indicator_of, signature_of, last_in, inside_in, present_in, holder_in, letters_in, bundles_in, opened_in, items_since, debits_since, debit_since, credits_since, credit_since, views_since, micr_in, addenda_in, bofd_in, endorser_in, shown_in, stated_in, indicator_in, signature_in}
use Rattle.file_as_records.proofs.Tests.{both, under, under-and}
use Rattle.measure.specs.Measures as measures
use Rattle.standing.specs.History as history

-- the bytes that records take with their lengths, and their entries; the newest first
abbrev pub extent : List Body → ℕ
extent [] = 0
extent (b ∷ past) = extent past + 4 + length b

abbrev pub entries : CharacterSet → List Body → List Entry
entries set [] = []
entries set (b ∷ past) = entry (type_of set b) (extent past) (length b) ∷ entries set past

-- a sound body that stands behind the length at an offset
pub record HeldAt (set : CharacterSet) (file : List ℕ) (at : ℕ) (b : Body) : Type 0 where
  pub rest : List ℕ
  pub body : drop (at + 4) file ≡ b ++ rest
  pub sound : judged_as set (type_of set b) b ≡ Sound

abbrev pub Held : CharacterSet → List ℕ → List Body → Type 0
Held set file [] = Unit {0}
Held set file (b ∷ past) = HeldAt set file (extent past) b × Held set file past

-- the lines of a layout lie within so many characters
abbrev pub within : ℕ → List Line → Bool
within n [] = true
within n (l ∷ ls) = leb (l.first - 1 + l.size) n && within n ls

module _ (set : CharacterSet) {file : List ℕ} {at : ℕ} {b : Body} (h : HeldAt set file at b) where
  pub part_held : (i size : ℕ) → i + size ≤ length b → part (at + 4 + i) size file ≡ part i size b
  part_held i size l =
      ap (take size) (sym (drop-drop i (at + 4) file) ∙ ap (drop i) h.body ∙ drop-append-le i b h.rest (omega arith))
      ∙ take-append-le size (drop i b) h.rest (simp length-drop (omega arith))

  lines-held : (ls : List Line) (n fixed : ℕ) → within fixed ls ≡ true → fixed ≤ length b → field_in ls n file at ≡ field_among ls n b
  lines-held [] n fixed w l = refl
  lines-held (x ∷ xs) n fixed w l =
      let tests = both (leb (x.first - 1 + x.size) fixed) (within fixed xs) w in
      ap₂ (cond (eqb x.number n))
      (part_held (x.first - 1) x.size (omega (arith, leb-true (x.first - 1 + x.size) fixed tests.0)))
      (lines-held xs n fixed tests.1 l)

  -- a body as long as the fixed part of a layout has the fields of that layout where the file has them
  pub fields-held : (k : Layout) → within k.fixed_length k.lines ≡ true → k.fixed_length ≤ length b → (n : ℕ) → field k n file at ≡ field_of k n b
  fields-held k w l n = lines-held k.lines n k.fixed_length w l

  -- and so long is a sound body of its type
  pub layout-long : (k : Layout) → ((c : Body) → judged_as set k.type_number c ≡ alone set k c) → eqb (type_of set b) k.type_number ≡ true
      → k.fixed_length ≤ length b
  layout-long k own e =
      let judged : alone set k b ≡ Sound =
      sym (own b) ∙ ap (λ (t : ℕ). judged_as set t b) (sym (eqb-true (type_of set b) k.type_number e)) ∙ h.sound in
      omega (arith, sound-fills set k.fixed_length k.lines (sized_parts k) b judged)

  pub fields_at : (k : Layout) → ((c : Body) → judged_as set k.type_number c ≡ alone set k c) → within k.fixed_length k.lines ≡ true
      → eqb (type_of set b) k.type_number ≡ true → (n : ℕ) → field k n file at ≡ field_of k n b
  fields_at k own w e n = fields-held k w (layout-long k own e) n

  -- the figures of one record
  pub amount-held : amount_of set file (type_of set b) at ≡ amount_as set (type_of set b) b
  unfolding judged_as
  amount-held =
      under (eqb (type_of set b) 25) (λ e. ap (number set) (fields_at check_detail (λ c. refl) refl e 6))
      (under (eqb (type_of set b) 31) (λ e. ap (number set) (fields_at return_record (λ c. refl) refl e 6))
      (under (eqb (type_of set b) 61) (λ e. ap (number set) (fields_at credit_record (λ c. refl) refl e 7)) refl))

  debit-held : is_debit set file (type_of set b) at ≡ is_debit_as set (type_of set b) b
  unfolding judged_as
  debit-held =
      ap (λ (c : Bool). is_check_or_return (type_of set b) || c)
      (under-and (eqb (type_of set b) 61) (λ e. ap (λ (x : List ℕ). eqb (number set x) 9) (fields_at credit_record (λ c. refl) refl e 2)))

  credit-held : is_credit set file (type_of set b) at ≡ is_credit_as set (type_of set b) b
  unfolding judged_as
  credit-held =
      under-and (eqb (type_of set b) 61) (λ e. ap (λ (x : List ℕ). not (eqb (number set x) 9)) (fields_at credit_record (λ c. refl) refl e 2))

  adds-held : adds set file (type_of set b) at
      ≡ sums (one (is_debit_as set (type_of set b) b)) (debit_as set (type_of set b) b)
      (one (is_credit_as set (type_of set b) b)) (credit_as set (type_of set b) b) (one (eqb (type_of set b) 50))
  adds-held = rw (debit-held, credit-held, amount-held)

  stated-held : stated_by set file (type_of set b) at ≡ stated_as set (type_of set b) b
  unfolding judged_as
  stated-held =
      under (eqb (type_of set b) 25) (λ e. ap (number set) (fields_at check_detail (λ c. refl) refl e 12))
      (under (eqb (type_of set b) 31) (λ e. ap (number set) (fields_at return_record (λ c. refl) refl e 8)) refl)

  micr-held : micr_of set file (type_of set b) at ≡ micr_as set (type_of set b) b
  unfolding judged_as
  micr-held =
      ap₂ (λ (c : Bool) (n : ℕ). cond c n 0)
      (under-and (eqb (type_of set b) 25) (λ e. ap (λ (x : List ℕ). eqb (number set x) 1) (fields_at check_detail (λ c. refl) refl e 10)))
      amount-held

  pub item-long : is_item (type_of set b) ≡ true → 80 ≤ length b
  unfolding judged_as
  item-long e = cases (eqb (type_of set b) 25) (eqb (type_of set b) 31) refl refl e
    where
      cases : (c d : Bool) → eqb (type_of set b) 25 ≡ c → eqb (type_of set b) 31 ≡ d → (c || d) || eqb (type_of set b) 61 ≡ true → 80 ≤ length b
      cases true d p q e = layout-long check_detail (λ c. refl) p
      cases false true p q e = layout-long return_record (λ c. refl) q
      cases false false p q e = omega (arith, layout-long credit_record (λ c. refl) e)

-- the sums since a level began
abbrev pub sums_over : CharacterSet → (ℕ → Bool) → List Body → Sums
sums_over set begins past =
    sums (debits_since set begins past) (debit_since set begins past) (credits_since set begins past)
    (credit_since set begins past) (views_since set begins past)

-- a figure that each entry moves on as its body does
module _ (set : CharacterSet) (file : List ℕ) where
  pub figure-held : {X : Type 0} (figure : List Entry → X) (first : X) (next : ℕ → Body → X → X) → figure [] ≡ first
      → ((at : ℕ) (b : Body) (older : List Entry) → HeldAt set file at b
      → figure (entry (type_of set b) at (length b) ∷ older) ≡ next (type_of set b) b (figure older))
      → (past : List Body) → Held set file past → figure (entries set past) ≡ value set first next past
  figure-held figure first next e moves [] h = e
  figure-held figure first next e moves (b ∷ past) h =
      moves (extent past) b (entries set past) h.0 ∙ ap (next (type_of set b) b) (figure-held figure first next e moves past h.1)

  sum-held : (begins : ℕ → Bool) (measure : ℕ → ℕ → ℕ) (measure_as : ℕ → Body → ℕ)
      → ((at : ℕ) (b : Body) → HeldAt set file at b → measure (type_of set b) at ≡ measure_as (type_of set b) b) → (past : List Body)
      → Held set file past
      → history.sum_since (λ r. begins r.type) (λ r. measure r.type r.offset) (entries set past) ≡ sum_since set begins measure_as past
  sum-held begins measure measure_as same =
      figure-held (λ es. history.sum_since (λ r. begins r.type) (λ r. measure r.type r.offset) es) 0
      (λ t b x. cond (begins t) 0 (measure_as t b + x)) refl
      (λ at b older h. rw (same at b h))

  count_held : (begins sort : ℕ → Bool) (past : List Body) → Held set file past
      → count_since (λ r. begins r.type) sort (entries set past) ≡ sum_since set begins (count sort) past
  count_held begins sort = sum-held begins (λ t at. one (sort t)) (count sort) (λ at b h. refl)

  -- a figure of the newest record that passes a test
  newest-held : (test : ℕ → Bool) (figure : ℕ → ℕ → ℕ) (figure_as : ℕ → Body → ℕ)
      → ((at : ℕ) (b : Body) → HeldAt set file at b → test (type_of set b) ≡ true → figure (type_of set b) at ≡ figure_as (type_of set b) b)
      → (past : List Body) → Held set file past
      → history.at_newest (λ r. test r.type) (λ r. figure r.type r.offset) (entries set past)
      ≡ value set 0 (λ t b x. cond (test t) (figure_as t b) x) past
  newest-held test figure figure_as same =
      figure-held (λ es. history.at_newest (λ r. test r.type) (λ r. figure r.type r.offset) es) 0
      (λ t b x. cond (test t) (figure_as t b) x) refl
      (λ at b older h. under (test (type_of set b)) (same at b h) refl)

  pick-sums : (c : Bool) (s t : Sums)
      → cond c no_sums (together s t)
      ≡ sums (cond c 0 (s.debits.0 + t.debits.0)) (cond c 0 (s.debit.0 + t.debit.0)) (cond c 0 (s.credits.0 + t.credits.0))
      (cond c 0 (s.credit.0 + t.credit.0)) (cond c 0 (s.views.0 + t.views.0))
  pick-sums true s t = refl
  pick-sums false s t = refl

  sums-held : (begins : ℕ → Bool) (past : List Body) → Held set file past
      → sums_since set (λ r. begins r.type) file (entries set past) ≡ sums_over set begins past
  sums-held begins [] h = refl
  sums-held begins (b ∷ past) h =
      ap₂ (λ (here older : Sums). cond (begins (type_of set b)) no_sums (together here older)) (adds-held set h.0) (sums-held begins past h.1)
      ∙ pick-sums (begins (type_of set b)) _ (sums_over set begins past)

-- a figure of the types of the entries
types-held : (set : CharacterSet) {X : Type 0} (figure : List ℕ → X) (next : ℕ → X → X)
    → ((t : ℕ) (ts : List ℕ) → figure (t ∷ ts) ≡ next t (figure ts))
    → (past : List Body) → figure (map (λ (r : Entry). r.type) (entries set past)) ≡ value set (figure []) (λ t b x. next t x) past
types-held set figure next moves [] = refl
types-held set figure next moves (b ∷ past) =
    moves (type_of set b) (map (λ (r : Entry). r.type) (entries set past)) ∙ ap (next (type_of set b)) (types-held set figure next moves past)

length-entries : (set : CharacterSet) (past : List Body) → length (entries set past) ≡ length past
length-entries set [] = refl
length-entries set (b ∷ past) = omega (arith, length-entries set past)

-- the offset of the newest record that passes a test
abbrev pub newest_at : CharacterSet → (ℕ → Bool) → List Body → ℕ
newest_at set test past = history.at_newest (λ r. test r.type) (λ r. r.offset) (entries set past)

-- what stands before a record, by the bodies before it
abbrev pub over : CharacterSet → List Body → Standing
over set past =
    record {
      last = last_in set past;
      inside = inside_in set past;
      present = present_in set past;
      holder = holder_in set past;
      records = measures.records (length past);
      letters = letters_in set past;
      bundles = bundles_in set past;
      opened = opened_in set past;
      items = measures.items (items_since set never past);
      ordinal = items_since set (is 20) past;
      whole = sums_over set never past;
      letter = sums_over set (is 10) past;
      bundle = sums_over set (is 20) past;
      micr = cents (micr_in set past);
      addenda = addenda_in set past;
      bofd = bofd_in set past;
      endorser = endorser_in set past;
      shown = shown_in set past;
      stated = stated_in set past;
      item = newest_at set is_item past;
      header = newest_at set (is 20) past;
      heading = newest_at set (is 10) past;
      indicator = indicator_in set past;
      signature = signature_in set past;
    }

pub stands : (set : CharacterSet) (file : List ℕ) (past : List Body) → Held set file past → standing set file (entries set past) ≡ over set past
unfolding standing judged_as
stands set file past h =
    assembled
    (types-held set last_of (λ t x. t) (λ t ts. refl) past)
    (types-held set is_open (λ t x. cond (eqb t 20) true (cond (eqb t 70) false x)) (λ t ts. refl) past)
    (types-held set item_type_in_bundle (λ t x. cond (eqb t 20) 0 (cond (is_check_or_return t) t x)) (λ t ts. refl) past)
    (types-held set newest_item_type (λ t x. cond (eqb t 10 || (eqb t 20 || eqb t 70)) 0 (cond (is_item t) t x)) (λ t ts. refl) past)
    (ap measures.records (length-entries set past))
    (count_held set file never (is 10) past h)
    (count_held set file never (is 20) past h)
    (count_held set file (is 10) (is 20) past h)
    (ap measures.items (count_held set file never is_item past h))
    (count_held set file (is 20) is_item past h)
    (sums-held set file never past h)
    (sums-held set file (is 10) past h)
    (sums-held set file (is 20) past h)
    (ap cents (sum-held set file (is 20) (micr_of set file) (micr_as set) (λ at b k. micr-held set k) past h))
    (count_held set file is_item is_addendum past h)
    (count_held set file is_item is_bofd_addendum past h)
    (count_held set file is_item is_endorser_addendum past h)
    (count_held set file is_item (is 50) past h)
    (newest-held set file is_item (stated_by set file) (stated_as set) (λ at b k e. stated-held set k) past h)
    refl
    refl
    refl
    (newest-held set file (is 10) (λ t at. history.indicator_in set file at) (λ t b. indicator_of set b)
    (λ at b k e. ap (λ (x : List ℕ). capital set (get_or x 0 0)) (fields_at set k cash_letter_header (λ c. refl) refl e 8)) past h)
    (newest-held set file (is 50) (λ t at. history.signature_in set file at) (λ t b. signature_of set b)
    (λ at b k e. ap (number set) (fields_at set k image_view_detail (λ c. refl) refl e 10)) past h)
