-- Each field of a good record that is worked out states what is worked out for it. Assumes nothing.
use Prim.Native.Nat.{ℕ, zero, suc, ◌+◌, ◌-◌, ◌≤◌}
use native.Mathlib.Omega.{arith}
use mathlib.Core.Bool.{Bool, true, false, ◌&&◌, ◌||◌, cond}
use mathlib.Core.Logic.{◌⊎◌, inl, inr}
use mathlib.Core.Path.{◌≡◌, refl, sym, ap, ap₂, ◌∙◌}
use mathlib.Core.List.{List, [], ◌∷◌}
use lib.Dec.{leb, eqb}
use lib.ListN.{length, drop, length-take}
use borrow.Author.Tests.{leb-true, le-leb, eqb-true}
use Rattle.text.specs.declared.character_set.CharacterSet.TheVariants.{Ascii}
use Rattle.text.specs.declared.data_types.DataType.TheVariants.{N, NB}
use Rattle.text.specs.Characters.{is_blank, is_numeric}
use Rattle.text.specs.DataTypes.{every, some, is_mark, of_type}
use Rattle.text.specs.Number.{number}
use Rattle.text.proofs.Laws.{number-below}
use Rattle.decimal.specs.Digits.{digits, ten_to, fits}
use Rattle.decimal.proofs.Laws.{digits-again, number_fits}
use Rattle.copying.specs.Times.{times}
use Rattle.field.specs.declared.Usage.TheVariants.{Mandatory, Conditional}
use Rattle.field.specs.declared.Rule.{Rule}
use Rattle.field.specs.declared.Rule.TheVariants.{AllDigits}
use Rattle.field.specs.Rules.{follows, meets, holds}
use Rattle.frame.specs.Frames.{part}
use Rattle.layout.specs.declared.packing.Origin.{Origin}
use Rattle.layout.specs.declared.packing.Origin.TheVariants.{TypeNumber, PartSize, AddendumCount, RecordNumber, DebitCount, DebitCents, MicrCents, ViewCount, CreditCount, CreditCents, BundleCount, LetterCount, RecordCount, ItemCount}
use Rattle.layout.specs.Layout.{Line, Layout, line, sized_parts, M, C, none, any_number, numbers, only}
use Rattle.layout.specs.Layouts.{layouts, check_detail, check_detail_addendum_b, return_record, image_view_data, bundle_control, cash_letter_control, file_control}
use Rattle.judge.specs.Alone.{line_holds}
use Rattle.judge.proofs.Laws.{both_true}
use Rattle.measure.specs.Measures.{capped}
use Rattle.measure.proofs.Capped.{capped-below}
use Rattle.standing.specs.Standing.{capped_figures}
use Rattle.file_as_records.specs.Framed.{Body, field_of}
use Rattle.file_as_records.proofs.Figures.{micr_in}
use Rattle.file_as_records.proofs.Held.{over}
use Rattle.file_as_records.proofs.LinksByName.{Linked}
use Rattle.file_as_records.proofs.TotalsByName.{Totalled}
use Rattle.arrangement.specs.Sound.{All}
use Rattle.draft.specs.Values.{Values, layout_of, fields_given}
use Rattle.draft.specs.Completed.{own_statement, statement, leaves_blank}
use Rattle.same_bytes.proofs.Lines.{Said, worked, parts_in, size_stated_at, sized-at}

-- one thing of a list, and those behind it
◌and◌ : {A B : Type 0} → A → B → A × B
a and b = (a, b)

infixr 5 ◌and◌
-- the values of a record of a type
abbrev pub values_as : ℕ → Body → Values
values_as t b =
    record {
      type = t;
      blank = eqb t 70 && every (is_blank Ascii) (field_of bundle_control 4 b);
      fields = fields_given Ascii b 0 (layout_of t).lines;
      parts = parts_in b (0 + (layout_of t).fixed_length) (sized_parts (layout_of t));
    }

-- what is known of a good record, of type t and with so many addenda behind it
pub record Told (t : ℕ) (past : List Body) (b : Body) (addenda : ℕ) : Type 0 where
  pub type : number Ascii (part 0 2 b) ≡ t
  pub of-check : t ≡ 25 → number Ascii (field_of check_detail 12 b) ≡ addenda
  pub of-return : t ≡ 31 → number Ascii (field_of return_record 8 b) ≡ addenda
  pub linked : Linked Ascii t past b
  pub totalled : Totalled Ascii t past b

-- a mandatory numeric field is digits; a total that may be blank is blank, or digits
holds-digits : (r : Rule) (xs body : List ℕ) → holds Ascii Mandatory N r xs body ≡ true → every (is_numeric Ascii) xs ≡ true
unfolding holds meets of_type
holds-digits r xs body e = (both_true (every (is_numeric Ascii) xs) _ (both_true (every (is_numeric Ascii) xs && true) _ e).0).0

no-mark : (xs : List ℕ) → some (is_mark Ascii NB) xs ≡ false
no-mark [] = refl
no-mark (x ∷ xs) = no-mark xs

holds-total : (xs body : List ℕ) → every (is_blank Ascii) xs ≡ false → holds Ascii Conditional NB AllDigits xs body ≡ true
    → every (is_numeric Ascii) xs ≡ true
unfolding holds meets follows
holds-total xs body blank e = first (every (is_numeric Ascii) xs) (both_true (of_type Ascii NB xs) _ (rw (blank, no-mark xs) at e)).1
  where
    first : (a : Bool) → a || false ≡ true → a ≡ true
    first true e = refl
    first false e = e

blanks-again : (xs : List ℕ) → every (is_blank Ascii) xs ≡ true → times (length xs) 0x20 ≡ xs
blanks-again [] e = refl
blanks-again (x ∷ xs) e =
    let both = both_true (is_blank Ascii x) (every (is_blank Ascii) xs) e in
    ap₂ (λ (y : ℕ) (ys : List ℕ). y ∷ ys) (sym (eqb-true x 0x20 both.0)) (blanks-again xs both.1)

-- 0 fits in any field
fits-none : (n : ℕ) → fits n 0 ≡ true
unfolding fits
fits-none n = le-leb 1 (ten_to n) (one-at-least n)
  where
    one-at-least : (n : ℕ) → 1 ≤ ten_to n
    one-at-least zero = omega arith
    one-at-least (suc n) = omega (arith, one-at-least n)

-- a total that a control field states has not stopped
not_stopped : (b : Body) (start size n : ℕ) → leb size 16 ≡ true → number Ascii (part start size b) ≡ n → capped n ≡ n
not_stopped b start size n h e =
    capped-below n
    (omega (arith, e, leb-true size 16 h, number-below Ascii (part start size b) 16 (omega (arith, leb-true size 16 h, length-take size (drop start b)))))

digits-stated : (xs : List ℕ) (size n : ℕ) → leb size 19 ≡ true → length xs ≡ size → every (is_numeric Ascii) xs ≡ true → number Ascii xs ≡ n
    → digits size n ≡ xs
digits-stated xs size n h long numeric e = rw (← long, ← e) (digits-again xs (omega (arith, long, leb-true size 19 h)) numeric)

fits-stated : (xs : List ℕ) (size n : ℕ) → leb size 19 ≡ true → length xs ≡ size → number Ascii xs ≡ n → fits size n ≡ true
fits-stated xs size n h long e = rw (← long, ← e) (number_fits xs (omega (arith, long, leb-true size 19 h)))

module _ (t : ℕ) (past : List Body) (b : Body) (addenda : ℕ) where
  abbrev Here : Line → Type 0
  Here l = Said (values_as t b) addenda (capped_figures (over Ascii past)) b l

  -- a numeric field that states what is worked out
  module _ (n : ℕ) (o : Origin) (first last size : ℕ) (r : Rule) (h : leb size 19 ≡ true) (plain : leaves_blank (values_as t b) o ≡ false)
      (e : number Ascii (part (first - 1) size b) ≡ statement (values_as t b) addenda (capped_figures (over Ascii past)) first o) where
    digits-line : line_holds Ascii (line n M o first last size N r) b ≡ true → length (part (first - 1) size b) ≡ size
        → cond (leaves_blank (values_as t b) o) (times size 0x20)
        (digits size (statement (values_as t b) addenda (capped_figures (over Ascii past)) first o))
        ≡ part (first - 1) size b
    unfolding line_holds
    digits-line holds long = rw plain (digits-stated (part (first - 1) size b) size _ h long (holds-digits r (part (first - 1) size b) b holds) e)

    -- from its own record, or from those before it
    own_line : statement (values_as t b) addenda (capped_figures (over Ascii past)) first o ≡ own_statement (values_as t b) addenda first o
        → Here (line n M o first last size N r)
    own_line same =
        record {
          again = digits-line;
          fit = λ long. fits-stated (part (first - 1) size b) size _ h long (e ∙ same);
        }

    sum-line : own_statement (values_as t b) addenda first o ≡ 0 → Here (line n M o first last size N r)
    sum-line none = record { again = digits-line; fit = λ long. rw none (fits-none size) }

  type-line : (r : Rule) → Told t past b addenda → Here (line 1 M TypeNumber 1 2 2 N r)
  type-line r told = own_line 1 TypeNumber 1 2 2 r refl refl told.type refl

  part-line : (n first last size : ℕ) (r : Rule) → leb size 19 ≡ true
      → number Ascii (part (first - 1) size b) ≡ size_stated_at b first (sized_parts (layout_of t)) → Here (line n M PartSize first last size N r)
  part-line n first last size r h e =
      own_line n PartSize first last size r h refl
      (e ∙ sym (sized-at b first (0 + (layout_of t).fixed_length) (sized_parts (layout_of t)))) refl

-- the total that may be blank
micr-line : (past : List Body) (b : Body) (addenda : ℕ)
    → (every (is_blank Ascii) (field_of bundle_control 4 b) ≡ true) ⊎ (number Ascii (field_of bundle_control 4 b) ≡ micr_in Ascii past)
    → Here 70 past b addenda (line 4 C MicrCents 19 30 12 NB AllDigits)
unfolding line_holds
micr-line past b addenda valid =
    record {
      again = λ holds long. by (every (is_blank Ascii) (part 18 12 b)) refl valid holds long;
      fit = λ long. fits-none 12;
    }
  where
    by : (blank : Bool) → every (is_blank Ascii) (part 18 12 b) ≡ blank → (blank ≡ true) ⊎ (number Ascii (part 18 12 b) ≡ micr_in Ascii past)
        → holds Ascii Conditional NB AllDigits (part 18 12 b) b ≡ true → length (part 18 12 b) ≡ 12
        → cond blank (times 12 0x20) (digits 12 (capped_figures (over Ascii past)).micr.0) ≡ part 18 12 b
    by true e valid holds long = ap (λ (n : ℕ). times n 0x20) (sym long) ∙ blanks-again (part 18 12 b) e
    by false e (inl z) holds long = cc
    by false e (inr states) holds long =
        let whole = not_stopped b 18 12 (micr_in Ascii past) refl states in
        digits-stated (part 18 12 b) 12 _ refl long (holds-total (part 18 12 b) b e holds) (cc)

-- kind by kind
module _ (past : List Body) (b : Body) (addenda : ℕ) where
  abbrev AllHere : ℕ → List Line → Type 0
  AllHere t ls = All (Here t past b addenda) (worked ls)

  type-only : (t : ℕ) → Told t past b addenda → All (Here t past b addenda) (line 1 M TypeNumber 1 2 2 N (only t) ∷ [])
  type-only t told = type-line t past b addenda (only t) told and tt

  stays : (start size n : ℕ) → leb size 16 ≡ true → number Ascii (part start size b) ≡ n → number Ascii (part start size b) ≡ capped n
  stays start size n h e = e ∙ sym (not_stopped b start size n h e)

  check-lines : Told 25 past b addenda → AllHere 25 check_detail.lines
  check-lines told =
      (type-only 25 told).0 and own_line 25 past b addenda 12 AddendumCount 77 78 2 (numbers 0 99) refl refl (told.of-check refl) refl and tt

  return-lines : Told 31 past b addenda → AllHere 31 return_record.lines
  return-lines told =
      (type-only 31 told).0 and own_line 31 past b addenda 8 AddendumCount 73 74 2 (numbers 0 99) refl refl (told.of-return refl) refl and tt

  -- a record number of one digit, or of two
  numbered-lines : (t size last : ℕ) → leb size 19 ≡ true → Told t past b addenda
      → number Ascii (part 2 size b) ≡ statement (values_as t b) addenda (capped_figures (over Ascii past)) 3 RecordNumber
      → All (Here t past b addenda) (line 1 M TypeNumber 1 2 2 N (only t) ∷ line 2 M RecordNumber 3 last size N none ∷ [])
  numbered-lines t size last h told e =
      (type-only t told).0 and sum-line t past b addenda 2 RecordNumber 3 last size none h refl e refl and tt

  -- the lengths of the parts of a 27 and a 34, and of a 52
  locator-lines : (t : ℕ) → sized_parts (layout_of t) ≡ sized_parts check_detail_addendum_b
      → All (Here t past b addenda) (drop 1 (worked check_detail_addendum_b.lines))
  locator-lines t e =
      part-line t past b addenda 6 52 55 4 any_number refl (ap (size_stated_at b 52) (sym e))
      and part-line t past b addenda 7 56 57 2 (numbers 0 99) refl (ap (size_stated_at b 56) (sym e))
      and part-line t past b addenda 8 58 59 2 (numbers 0 99) refl (ap (size_stated_at b 58) (sym e))
      and part-line t past b addenda 9 60 61 2 (numbers 0 99) refl (ap (size_stated_at b 60) (sym e))
      and part-line t past b addenda 10 62 63 2 (numbers 0 99) refl (ap (size_stated_at b 62) (sym e))
      and part-line t past b addenda 11 64 68 5 any_number refl (ap (size_stated_at b 64) (sym e))
      and tt

  image-lines : Told 52 past b addenda → AllHere 52 image_view_data.lines
  unfolding layout_of
  image-lines told =
      (type-only 52 told).0
      and part-line 52 past b addenda 15 104 107 4 any_number refl refl
      and part-line 52 past b addenda 16 108 112 5 any_number refl refl
      and part-line 52 past b addenda 17 113 117 5 any_number refl refl
      and part-line 52 past b addenda 18 118 122 5 any_number refl refl
      and part-line 52 past b addenda 19 123 127 5 any_number refl refl
      and part-line 52 past b addenda 20 128 134 7 any_number refl refl
      and part-line 52 past b addenda 21 135 139 5 any_number refl refl
      and tt

  bundle-lines : Told 70 past b addenda → AllHere 70 bundle_control.lines
  bundle-lines told =
      let stated = told.totalled.bundle refl in
      (type-only 70 told).0
      and sum-line 70 past b addenda 2 DebitCount 3 6 4 none refl refl stated.debit-count refl
      and sum-line 70 past b addenda 3 DebitCents 7 18 12 none refl refl (stays 6 12 _ refl stated.debit-cents) refl
      and micr-line past b addenda stated.valid
      and sum-line 70 past b addenda 5 ViewCount 31 35 5 none refl refl stated.view-count refl
      and sum-line 70 past b addenda 6 CreditCount 36 39 4 none refl refl stated.credit-count refl
      and sum-line 70 past b addenda 7 CreditCents 40 51 12 none refl refl (stays 39 12 _ refl stated.credit-cents) refl
      and tt

  letter-lines : Told 90 past b addenda → AllHere 90 cash_letter_control.lines
  letter-lines told =
      let stated = told.totalled.letter refl in
      (type-only 90 told).0
      and sum-line 90 past b addenda 2 BundleCount 3 8 6 none refl refl stated.bundle-count refl
      and sum-line 90 past b addenda 3 DebitCount 9 16 8 none refl refl stated.debit-count refl
      and sum-line 90 past b addenda 4 DebitCents 17 30 14 none refl refl (stays 16 14 _ refl stated.debit-cents) refl
      and sum-line 90 past b addenda 5 ViewCount 31 39 9 none refl refl stated.view-count refl
      and sum-line 90 past b addenda 8 CreditCount 64 71 8 none refl refl stated.credit-count refl
      and sum-line 90 past b addenda 9 CreditCents 72 85 14 none refl refl (stays 71 14 _ refl stated.credit-cents) refl
      and tt

  file-lines : Told 99 past b addenda → AllHere 99 file_control.lines
  file-lines told =
      let stated = told.totalled.file refl in
      (type-only 99 told).0
      and sum-line 99 past b addenda 2 LetterCount 3 8 6 none refl refl stated.letter-count refl
      and sum-line 99 past b addenda 3 RecordCount 9 16 8 none refl refl stated.record-count refl
      and sum-line 99 past b addenda 4 ItemCount 17 24 8 none refl refl stated.item_count refl
      and sum-line 99 past b addenda 5 DebitCents 25 40 16 none refl refl (stays 24 16 _ refl stated.debit-cents) refl
      and sum-line 99 past b addenda 8 CreditCents 65 80 16 none refl refl (stays 64 16 _ refl stated.credit-cents) refl
      and tt

  pub all_lines : All (λ (k : Layout). Told k.type_number past b addenda → AllHere k.type_number k.lines) layouts
  unfolding layout_of
  all_lines =
      type-only 1
      and type-only 10
      and type-only 20
      and check-lines
      and (λ told. numbered-lines 26 1 3 refl told (eqb-true _ _ told.linked.numbered))
      and (λ told. (type-only 27 told).0 and locator-lines 27 refl)
      and (λ told. numbered-lines 28 2 4 refl told (eqb-true _ _ told.linked.numbered))
      and return-lines
      and (λ told. numbered-lines 32 1 3 refl told (eqb-true _ _ told.linked.numbered))
      and type-only 33
      and (λ told. (type-only 34 told).0 and locator-lines 34 refl)
      and (λ told. numbered-lines 35 2 4 refl told (eqb-true _ _ told.linked.numbered))
      and type-only 50
      and image-lines
      and type-only 54
      and type-only 61
      and bundle-lines
      and letter-lines
      and file-lines
      and tt
