-- The figures of the records before one: each is carried along from record to record, by its type. Assumes nothing.
use Prim.Native.Nat.{ℕ, ◌+◌}
use mathlib.Core.Bool.{Bool, true, false, ◌&&◌, ◌||◌, not, cond}
use mathlib.Core.List.{List, [], ◌∷◌}
use lib.Dec.{eqb}
use lib.ListN.{get_or}
use Rattle.text.specs.declared.character_set.CharacterSet.{CharacterSet}
use Rattle.text.specs.Capitals.{capital}
use Rattle.text.specs.Number.{number}
use Rattle.layout.specs.Layouts.{cash_letter_header, check_detail, return_record, image_view_detail, credit_record}
use Rattle.judge.specs.Alone.{type_of}
use Rattle.order.specs.MayFollow.{is_check_or_return, is_item, is_addendum}
use Rattle.standing.specs.History.{one, is_bofd_addendum, is_endorser_addendum}
use Rattle.file_as_records.specs.Framed.{Body, field_of}

-- a figure of the records before one, that each record moves on by its type
abbrev pub value : CharacterSet → {X : Type 0} → X → (ℕ → Body → X → X) → List Body → X
value set first next [] = first
value set first next (b ∷ bs) = next (type_of set b) b (value set first next bs)

abbrev pub sum_since : CharacterSet → (ℕ → Bool) → (ℕ → Body → ℕ) → List Body → ℕ
sum_since set begins measure past = value set 0 (λ t b x. cond (begins t) 0 (measure t b + x)) past

abbrev pub at_newest : CharacterSet → (ℕ → Bool) → (Body → ℕ) → List Body → ℕ
at_newest set test figure past = value set 0 (λ t b x. cond (test t) (figure b) x) past

abbrev pub newest : CharacterSet → (ℕ → Bool) → List Body → Body
newest set test past = value set [] (λ t b x. cond (test t) b x) past

abbrev pub never : ℕ → Bool
never t = false

abbrev pub is : ℕ → ℕ → Bool
is n t = eqb t n

abbrev pub count : (ℕ → Bool) → ℕ → Body → ℕ
count sort t b = one (sort t)

abbrev pub amount_as : CharacterSet → ℕ → Body → ℕ
amount_as set t b =
    cond (eqb t 25) (number set (field_of check_detail 6 b))
    (cond (eqb t 31) (number set (field_of return_record 6 b)) (cond (eqb t 61) (number set (field_of credit_record 7 b)) 0))

abbrev pub is_debit_as : CharacterSet → ℕ → Body → Bool
is_debit_as set t b = is_check_or_return t || (eqb t 61 && eqb (number set (field_of credit_record 2 b)) 9)

abbrev pub is_credit_as : CharacterSet → ℕ → Body → Bool
is_credit_as set t b = eqb t 61 && not (eqb (number set (field_of credit_record 2 b)) 9)

abbrev pub debit_as : CharacterSet → ℕ → Body → ℕ
debit_as set t b = cond (is_debit_as set t b) (amount_as set t b) 0

abbrev pub credit_as : CharacterSet → ℕ → Body → ℕ
credit_as set t b = cond (is_credit_as set t b) (amount_as set t b) 0

abbrev pub micr_as : CharacterSet → ℕ → Body → ℕ
micr_as set t b = cond (eqb t 25 && eqb (number set (field_of check_detail 10 b)) 1) (amount_as set t b) 0

abbrev pub stated_as : CharacterSet → ℕ → Body → ℕ
stated_as set t b = cond (eqb t 25) (number set (field_of check_detail 12 b)) (cond (eqb t 31) (number set (field_of return_record 8 b)) 0)

abbrev pub indicator_of : CharacterSet → Body → ℕ
indicator_of set b = capital set (get_or (field_of cash_letter_header 8 b) 0 0)

abbrev pub signature_of : CharacterSet → Body → ℕ
signature_of set b = number set (field_of image_view_detail 10 b)

abbrev pub last_in : CharacterSet → List Body → ℕ
last_in set past = value set 0 (λ t b x. t) past

abbrev pub inside_in : CharacterSet → List Body → Bool
inside_in set past = value set false (λ t b x. cond (eqb t 20) true (cond (eqb t 70) false x)) past

abbrev pub present_in : CharacterSet → List Body → ℕ
present_in set past = value set 0 (λ t b x. cond (eqb t 20) 0 (cond (is_check_or_return t) t x)) past

abbrev pub holder_in : CharacterSet → List Body → ℕ
holder_in set past = value set 0 (λ t b x. cond (eqb t 10 || (eqb t 20 || eqb t 70)) 0 (cond (is_item t) t x)) past

abbrev pub letters_in : CharacterSet → List Body → ℕ
letters_in set past = sum_since set never (count (is 10)) past

abbrev pub bundles_in : CharacterSet → List Body → ℕ
bundles_in set past = sum_since set never (count (is 20)) past

abbrev pub opened_in : CharacterSet → List Body → ℕ
opened_in set past = sum_since set (is 10) (count (is 20)) past

-- items; debits, debit cents, credits, credit cents and views since a level began
abbrev pub items_since : CharacterSet → (ℕ → Bool) → List Body → ℕ
items_since set begins past = sum_since set begins (count is_item) past

abbrev pub debits_since : CharacterSet → (ℕ → Bool) → List Body → ℕ
debits_since set begins past = sum_since set begins (λ t b. one (is_debit_as set t b)) past

abbrev pub debit_since : CharacterSet → (ℕ → Bool) → List Body → ℕ
debit_since set begins past = sum_since set begins (debit_as set) past

abbrev pub credits_since : CharacterSet → (ℕ → Bool) → List Body → ℕ
credits_since set begins past = sum_since set begins (λ t b. one (is_credit_as set t b)) past

abbrev pub credit_since : CharacterSet → (ℕ → Bool) → List Body → ℕ
credit_since set begins past = sum_since set begins (credit_as set) past

abbrev pub views_since : CharacterSet → (ℕ → Bool) → List Body → ℕ
views_since set begins past = sum_since set begins (count (is 50)) past

abbrev pub micr_in : CharacterSet → List Body → ℕ
micr_in set past = sum_since set (is 20) (micr_as set) past

abbrev pub addenda_in : CharacterSet → List Body → ℕ
addenda_in set past = sum_since set is_item (count is_addendum) past

abbrev pub bofd_in : CharacterSet → List Body → ℕ
bofd_in set past = sum_since set is_item (count is_bofd_addendum) past

abbrev pub endorser_in : CharacterSet → List Body → ℕ
endorser_in set past = sum_since set is_item (count is_endorser_addendum) past

abbrev pub shown_in : CharacterSet → List Body → ℕ
shown_in set past = sum_since set is_item (count (is 50)) past

abbrev pub stated_in : CharacterSet → List Body → ℕ
stated_in set past = value set 0 (λ t b x. cond (is_item t) (stated_as set t b) x) past

abbrev pub indicator_in : CharacterSet → List Body → ℕ
indicator_in set past = at_newest set (is 10) (indicator_of set) past

abbrev pub signature_in : CharacterSet → List Body → ℕ
signature_in set past = at_newest set (is 50) (signature_of set) past

-- field 7 of the newest item, field 8 of a 61, by its type
abbrev pub sequence_of : ℕ → Body → List ℕ
sequence_of holder item =
    cond (eqb holder 61) (field_of credit_record 8 item) (cond (eqb holder 31) (field_of return_record 7 item) (field_of check_detail 7 item))
