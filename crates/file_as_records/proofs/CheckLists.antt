-- The checks of a record against the figures of those before it: its links, and its totals. Assumes nothing.
use Prim.Native.Nat.{ℕ, ◌+◌}
use mathlib.Core.Bool.{Bool, true, ◌||◌, not, cond}
use mathlib.Core.Path.{◌≡◌}
use mathlib.Core.List.{List, [], ◌∷◌}
use lib.Dec.{eqb}
use lib.ListN.{length}
use Rattle.text.specs.declared.character_set.CharacterSet.{CharacterSet}
use Rattle.text.specs.Characters.{is_blank}
use Rattle.text.specs.DataTypes.{every}
use Rattle.text.specs.Number.{number}
use Rattle.layout.specs.Layout.{Layout}
use Rattle.layout.specs.Layouts.{cash_letter_header, bundle_header, check_detail_addendum_a, check_detail_addendum_c, return_addendum_a, return_addendum_d, image_view_data, bundle_control, cash_letter_control, file_control}
use Rattle.order.specs.MayFollow.{is_item}
use Rattle.agree.specs.Checks.{Check, check}
use Rattle.agree.specs.Links.{same, addenda_kept, annex_b, signed}
use Rattle.file_as_records.specs.Framed.{Body, field_of}
use Rattle.file_as_records.proofs.Figures.{addenda_in, bofd_in, debits_since, debit_since, credits_since, credit_since, endorser_in, holder_in, indicator_in, inside_in, items_since, letters_in, opened_in, sequence_of, shown_in, signature_in, views_since, is, micr_in, never, newest, stated_in, value}

-- the checks of a record of type k
abbrev pub numbered_as : CharacterSet → ℕ → List Body → Body → Bool
numbered_as set k past b =
    cond (eqb k 26) (eqb (number set (field_of check_detail_addendum_a 2 b)) (bofd_in set past + 1))
    (cond (eqb k 32) (eqb (number set (field_of return_addendum_a 2 b)) (bofd_in set past + 1))
    (cond (eqb k 28) (eqb (number set (field_of check_detail_addendum_c 2 b)) (endorser_in set past + 1))
    (cond (eqb k 35) (eqb (number set (field_of return_addendum_d 2 b)) (endorser_in set past + 1)) true)))

abbrev pub institution_in : CharacterSet → List Body → List ℕ
institution_in set past =
    cond (inside_in set past) (field_of bundle_header 4 (newest set (is 20) past)) (field_of cash_letter_header 4 (newest set (is 10) past))

abbrev pub date_in : CharacterSet → List Body → List ℕ
date_in set past = cond (inside_in set past) (field_of bundle_header 5 (newest set (is 20) past)) (field_of cash_letter_header 5 (newest set (is 10) past))

abbrev pub view_checks : CharacterSet → List Body → Body → List Check
view_checks set past b =
    check 2 (same (field_of image_view_data 2 b) (institution_in set past)) ∷
    check 3 (same (field_of image_view_data 3 b) (date_in set past)) ∷
    check 4 (not (inside_in set past) || same (field_of image_view_data 4 b) (field_of bundle_header 9 (newest set (is 20) past))) ∷
    check 5 (same (field_of image_view_data 5 b) (sequence_of (holder_in set past) (newest set is_item past))) ∷
    check 7 (signed set (signature_in set past) (field_of image_view_data 7 b)) ∷
    check 8 (signed set (signature_in set past) (field_of image_view_data 8 b)) ∷
    []

abbrev pub link_checks : CharacterSet → ℕ → List Body → Body → List Check
link_checks set k past b =
    check 1 (addenda_kept k (stated_in set past) (addenda_in set past)) ∷
    check 1 (annex_b k (indicator_in set past) (opened_in set past) (holder_in set past) (shown_in set past)) ∷
    check 2 (numbered_as set k past b) ∷
    cond (eqb k 52) (view_checks set past b) []

abbrev pub states : CharacterSet → Layout → Body → ℕ → ℕ → Bool
states set k b n value = eqb (number set (field_of k n b)) value

abbrev pub bundle_checks : CharacterSet → List Body → Body → List Check
bundle_checks set past b =
    check 2 (states set bundle_control b 2 (debits_since set (is 20) past)) ∷
    check 3 (states set bundle_control b 3 (debit_since set (is 20) past)) ∷
    check 4 (every (is_blank set) (field_of bundle_control 4 b) || states set bundle_control b 4 (micr_in set past)) ∷
    check 5 (states set bundle_control b 5 (views_since set (is 20) past)) ∷
    check 6 (states set bundle_control b 6 (credits_since set (is 20) past)) ∷
    check 7 (states set bundle_control b 7 (credit_since set (is 20) past)) ∷
    []

abbrev pub letter_checks : CharacterSet → List Body → Body → List Check
letter_checks set past b =
    check 2 (states set cash_letter_control b 2 (opened_in set past)) ∷
    check 3 (states set cash_letter_control b 3 (debits_since set (is 10) past)) ∷
    check 4 (states set cash_letter_control b 4 (debit_since set (is 10) past)) ∷
    check 5 (states set cash_letter_control b 5 (views_since set (is 10) past)) ∷
    check 8 (states set cash_letter_control b 8 (credits_since set (is 10) past)) ∷
    check 9 (states set cash_letter_control b 9 (credit_since set (is 10) past)) ∷
    []

abbrev pub file_checks : CharacterSet → List Body → Body → List Check
file_checks set past b =
    check 2 (states set file_control b 2 (letters_in set past)) ∷
    check 3 (states set file_control b 3 (length past + 1)) ∷
    check 4 (states set file_control b 4 (items_since set never past)) ∷
    check 5 (states set file_control b 5 (debit_since set never past)) ∷
    check 8 (states set file_control b 8 (credit_since set never past)) ∷
    []

abbrev pub total_checks : CharacterSet → ℕ → List Body → Body → List Check
total_checks set k past b =
    cond (eqb k 70) (bundle_checks set past b)
    (cond (eqb k 90) (letter_checks set past b) (cond (eqb k 99) (file_checks set past b) []))

-- a list of checks that all hold
pub data AllHold : List Check → Type 0 where
  end : AllHold []
  ◌and◌ : {c : Check} {cs : List Check} → c.holds ≡ true → AllHold cs → AllHold (c ∷ cs)

infixr 5 ◌and◌
