-- What the totals of a control record say, each by its name, and that its checks say the same. Assumes nothing.
use Prim.Native.Nat.{ℕ, ◌+◌}
use mathlib.Core.Bool.{Bool, true, false, cond}
use mathlib.Core.List.{List, []}
use mathlib.Core.Path.{◌≡◌, refl}
use mathlib.Core.Logic.{◌⊎◌}
use lib.Dec.{eqb}
use lib.ListN.{length}
use borrow.Author.Tests.{eqb-true, eq-eqb}
use Rattle.text.specs.declared.character_set.CharacterSet.{CharacterSet}
use Rattle.text.specs.Characters.{is_blank}
use Rattle.text.specs.DataTypes.{every}
use Rattle.text.specs.Number.{number}
use Rattle.layout.specs.Layouts.{bundle_control, cash_letter_control, file_control}
use Rattle.file_as_records.specs.Framed.{Body, field_of}
use Rattle.file_as_records.proofs.CheckLists.{AllHold, bundle_checks, file_checks, letter_checks, total_checks, ◌and◌, end}
use Rattle.file_as_records.proofs.Tests.{blank-in, blank-out, refuted}
use Rattle.file_as_records.proofs.Figures.{debits_since, debit_since, credits_since, credit_since, items_since, letters_in, opened_in, views_since, is, micr_in, never}

-- a 70
pub record BundleTotals (set : CharacterSet) (past : List Body) (b : Body) : Type 0 where
  pub debit-count : number set (field_of bundle_control 2 b) ≡ debits_since set (is 20) past
  pub debit-cents : number set (field_of bundle_control 3 b) ≡ debit_since set (is 20) past
  pub valid : (every (is_blank set) (field_of bundle_control 4 b) ≡ true) ⊎ (number set (field_of bundle_control 4 b) ≡ micr_in set past)
  pub view-count : number set (field_of bundle_control 5 b) ≡ views_since set (is 20) past
  pub credit-count : number set (field_of bundle_control 6 b) ≡ credits_since set (is 20) past
  pub credit-cents : number set (field_of bundle_control 7 b) ≡ credit_since set (is 20) past

-- a 90
pub record LetterTotals (set : CharacterSet) (past : List Body) (b : Body) : Type 0 where
  pub bundle-count : number set (field_of cash_letter_control 2 b) ≡ opened_in set past
  pub debit-count : number set (field_of cash_letter_control 3 b) ≡ debits_since set (is 10) past
  pub debit-cents : number set (field_of cash_letter_control 4 b) ≡ debit_since set (is 10) past
  pub view-count : number set (field_of cash_letter_control 5 b) ≡ views_since set (is 10) past
  pub credit-count : number set (field_of cash_letter_control 8 b) ≡ credits_since set (is 10) past
  pub credit-cents : number set (field_of cash_letter_control 9 b) ≡ credit_since set (is 10) past

-- a 99
pub record FileTotals (set : CharacterSet) (past : List Body) (b : Body) : Type 0 where
  pub letter-count : number set (field_of file_control 2 b) ≡ letters_in set past
  pub record-count : number set (field_of file_control 3 b) ≡ length past + 1
  pub item_count : number set (field_of file_control 4 b) ≡ items_since set never past
  pub debit-cents : number set (field_of file_control 5 b) ≡ debit_since set never past
  pub credit-cents : number set (field_of file_control 8 b) ≡ credit_since set never past

-- a record of type k
pub record Totalled (set : CharacterSet) (k : ℕ) (past : List Body) (b : Body) : Type 0 where
  pub bundle : eqb k 70 ≡ true → BundleTotals set past b
  pub letter : eqb k 90 ≡ true → LetterTotals set past b
  pub file : eqb k 99 ≡ true → FileTotals set past b

-- of a control record, and of any other
module _ (set : CharacterSet) (past : List Body) (b : Body) where
  pub bundle-totalled : BundleTotals set past b → Totalled set 70 past b
  bundle-totalled t = record { bundle = λ e. t; letter = refuted (eqb 70 90) refl; file = refuted (eqb 70 99) refl }

  pub letter-totalled : LetterTotals set past b → Totalled set 90 past b
  letter-totalled t = record { bundle = refuted (eqb 90 70) refl; letter = λ e. t; file = refuted (eqb 90 99) refl }

  pub file-totalled : FileTotals set past b → Totalled set 99 past b
  file-totalled t = record { bundle = refuted (eqb 99 70) refl; letter = refuted (eqb 99 90) refl; file = λ e. t }

  pub not-totalled : (k : ℕ) → eqb k 70 ≡ false → eqb k 90 ≡ false → eqb k 99 ≡ false → Totalled set k past b
  not-totalled k not-70 not-90 not-99 =
      record {
        bundle = refuted (eqb k 70) not-70;
        letter = refuted (eqb k 90) not-90;
        file = refuted (eqb k 99) not-99;
      }

bundle-in : (set : CharacterSet) (past : List Body) (b : Body) → AllHold (bundle_checks set past b) → BundleTotals set past b
bundle-in set past b (debit-count and debit-cents and valid and view-count and credit-count and credit-cents and end) =
    record {
      debit-count = eqb-true _ _ debit-count;
      debit-cents = eqb-true _ _ debit-cents;
      valid = blank-in _ _ _ valid;
      view-count = eqb-true _ _ view-count;
      credit-count = eqb-true _ _ credit-count;
      credit-cents = eqb-true _ _ credit-cents;
    }

bundle-out : (set : CharacterSet) (past : List Body) (b : Body) → BundleTotals set past b → AllHold (bundle_checks set past b)
bundle-out set past b t =
    eq-eqb _ _ t.debit-count and eq-eqb _ _ t.debit-cents and blank-out _ _ _ t.valid and eq-eqb _ _ t.view-count
    and eq-eqb _ _ t.credit-count and eq-eqb _ _ t.credit-cents and end

letter-in : (set : CharacterSet) (past : List Body) (b : Body) → AllHold (letter_checks set past b) → LetterTotals set past b
letter-in set past b (bundle-count and debit-count and debit-cents and view-count and credit-count and credit-cents and end) =
    record {
      bundle-count = eqb-true _ _ bundle-count;
      debit-count = eqb-true _ _ debit-count;
      debit-cents = eqb-true _ _ debit-cents;
      view-count = eqb-true _ _ view-count;
      credit-count = eqb-true _ _ credit-count;
      credit-cents = eqb-true _ _ credit-cents;
    }

letter-out : (set : CharacterSet) (past : List Body) (b : Body) → LetterTotals set past b → AllHold (letter_checks set past b)
letter-out set past b t =
    eq-eqb _ _ t.bundle-count and eq-eqb _ _ t.debit-count and eq-eqb _ _ t.debit-cents and eq-eqb _ _ t.view-count
    and eq-eqb _ _ t.credit-count and eq-eqb _ _ t.credit-cents and end

file-in : (set : CharacterSet) (past : List Body) (b : Body) → AllHold (file_checks set past b) → FileTotals set past b
file-in set past b (letter-count and record-count and item_count and debit-cents and credit-cents and end) =
    record {
      letter-count = eqb-true _ _ letter-count;
      record-count = eqb-true _ _ record-count;
      item_count = eqb-true _ _ item_count;
      debit-cents = eqb-true _ _ debit-cents;
      credit-cents = eqb-true _ _ credit-cents;
    }

file-out : (set : CharacterSet) (past : List Body) (b : Body) → FileTotals set past b → AllHold (file_checks set past b)
file-out set past b t =
    eq-eqb _ _ t.letter-count and eq-eqb _ _ t.record-count and eq-eqb _ _ t.item_count and eq-eqb _ _ t.debit-cents
    and eq-eqb _ _ t.credit-cents and end

pub totals-in : (set : CharacterSet) (k : ℕ) (past : List Body) (b : Body) → AllHold (total_checks set k past b) → Totalled set k past b
totals-in set k past b h =
    record {
      bundle = λ e. bundle-in set past b (rw (eqb-true k 70 e) at h);
      letter = λ e. letter-in set past b (rw (eqb-true k 90 e) at h);
      file = λ e. file-in set past b (rw (eqb-true k 99 e) at h);
    }

pub totals-out : (set : CharacterSet) (k : ℕ) (past : List Body) (b : Body) → Totalled set k past b → AllHold (total_checks set k past b)
totals-out set k past b t = of-control (eqb k 70) (eqb k 90) (eqb k 99) t.bundle t.letter t.file
  where
    of-control : (bundle letter file : Bool) → (bundle ≡ true → BundleTotals set past b) → (letter ≡ true → LetterTotals set past b)
        → (file ≡ true → FileTotals set past b)
        → AllHold (cond bundle (bundle_checks set past b) (cond letter (letter_checks set past b) (cond file (file_checks set past b) [])))
    of-control true letter file h i j = bundle-out set past b (h refl)
    of-control false true file h i j = letter-out set past b (i refl)
    of-control false false true h i j = file-out set past b (j refl)
    of-control false false false h i j = end
