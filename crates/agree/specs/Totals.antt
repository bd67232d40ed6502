-- TOTAL (document 01): "a control field is not what its part adds up to". The checks of a control record, in the order of their fields.
-- Sums are whole numbers, never cut to a field's width.
use Rattle.std.specs.Prelude.{ℕ, ◌+◌, Bool, ◌||◌, cond, List, [], ◌∷◌, eqb}
use Rattle.text.specs.declared.character_set.CharacterSet.{CharacterSet}
use Rattle.text.specs.Characters.{is_blank}
use Rattle.text.specs.DataTypes.{every}
use Rattle.text.specs.Number.{number}
use Rattle.layout.specs.Layout.{Layout}
use Rattle.layout.specs.Layouts.{bundle_control, cash_letter_control, file_control}
use Rattle.measure.specs.declared.Sums.{Sums}
use Rattle.standing.specs.History.{field}
use Rattle.standing.specs.declared.Standing.{Standing}
use Rattle.agree.specs.Checks.{Check, check, first_failing}

-- field n of a control record states a number
abbrev pub states : CharacterSet → Layout → List ℕ → ℕ → ℕ → ℕ → Bool
states set k file offset n value = eqb (number set (field k n file offset)) value

-- clause 31: debits, debit cents, cents of the 25s with a valid MICR line ("blank is not compared"), views, credits, credit cents
abbrev pub bundle_totals : CharacterSet → List ℕ → Sums → ℕ → ℕ → List Check
bundle_totals set file s micr offset =
    check 2 (states set bundle_control file offset 2 s.debits.0) ∷
    check 3 (states set bundle_control file offset 3 s.debit.0) ∷
    check 4 (every (is_blank set) (field bundle_control 4 file offset) || states set bundle_control file offset 4 micr) ∷
    check 5 (states set bundle_control file offset 5 s.views.0) ∷
    check 6 (states set bundle_control file offset 6 s.credits.0) ∷
    check 7 (states set bundle_control file offset 7 s.credit.0) ∷
    []

-- clause 34: bundles, debits, debit cents, views, credits, credit cents
abbrev pub letter_totals : CharacterSet → List ℕ → ℕ → Sums → ℕ → List Check
letter_totals set file bundles s offset =
    check 2 (states set cash_letter_control file offset 2 bundles) ∷
    check 3 (states set cash_letter_control file offset 3 s.debits.0) ∷
    check 4 (states set cash_letter_control file offset 4 s.debit.0) ∷
    check 5 (states set cash_letter_control file offset 5 s.views.0) ∷
    check 8 (states set cash_letter_control file offset 8 s.credits.0) ∷
    check 9 (states set cash_letter_control file offset 9 s.credit.0) ∷
    []

-- clause 35: cash letters, "all records with 01 and 99 included", items (35.4: every 25, 31 and 61), debit cents, credit cents
abbrev pub file_totals : CharacterSet → List ℕ → ℕ → ℕ → ℕ → Sums → ℕ → List Check
file_totals set file letters records_before items s offset =
    check 2 (states set file_control file offset 2 letters) ∷
    check 3 (states set file_control file offset 3 (records_before + 1)) ∷
    check 4 (states set file_control file offset 4 items) ∷
    check 5 (states set file_control file offset 5 s.debit.0) ∷
    check 8 (states set file_control file offset 8 s.credit.0) ∷
    []

abbrev pub total_checks : CharacterSet → List ℕ → Standing → ℕ → ℕ → List Check
total_checks set file s k offset =
    cond (eqb k 70) (bundle_totals set file s.bundle s.micr.0 offset)
    (cond (eqb k 90) (letter_totals set file s.opened s.letter offset)
    (cond (eqb k 99) (file_totals set file s.letters s.records.0 s.items.0 s.whole offset) []))

-- "TOTAL by lowest field", or 0
unfoldable pub total_fault : CharacterSet → List ℕ → Standing → ℕ → ℕ → ℕ
total_fault set file s k offset = first_failing (total_checks set file s k offset)
