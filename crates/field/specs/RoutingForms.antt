-- The forms of a routing number, as the Format lines print them (clause 7.4 and its like). T, A, C, F and N stand for digits, b for a blank. The last is
-- printed NNNNNNNN, eight of them, in clauses 7.4, 7.5, 8.3, 8.4, 9.3, 9.4, 21.3 and 22.2, and with nine in Annex C alone (reading 21).
use Rattle.std.specs.Prelude.{ℕ, ◌+◌, ◌*◌, ◌%◌, Bool, false, ◌&&◌, ◌||◌, List, [], ◌∷◌, eqb, length, get_or, take, drop}
use Rattle.text.specs.declared.character_set.CharacterSet.{CharacterSet}
use Rattle.text.specs.declared.data_types.DataType.TheVariants.{NB}
use Rattle.text.specs.Characters.{is_blank, is_numeric, is_dash}
use Rattle.text.specs.DataTypes.{every, some, of_type}
use Rattle.text.specs.Number.{digit}
use Rattle.field.specs.declared.Forms.{Forms}

-- the digit at a place of the routing number: digit 1 of the rule stands at place 0
abbrev pub place : CharacterSet → List ℕ → ℕ → ℕ
place set xs n = digit set (get_or xs n 0)

-- The ABA rule (document 01): "three times digits 1, 4, 7, plus seven times digits 2, 5, 8, plus digits 3, 6, 9"
abbrev pub weighted_sum : CharacterSet → List ℕ → ℕ
weighted_sum set xs =
    3 * (place set xs 0 + place set xs 3 + place set xs 6) + 7 * (place set xs 1 + place set xs 4 + place set xs 7)
    + (place set xs 2 + place set xs 5 + place set xs 8)

-- TTTTAAAAC: nine digits, and the sum a multiple of 10. No other form has a check digit.
unfoldable pub is_TTTTAAAAC : CharacterSet → List ℕ → Bool
is_TTTTAAAAC set xs = eqb (length xs) 9 && (every (is_numeric set) xs && eqb (weighted_sum set xs % 10) 0)

-- nine characters: so many digits, a mark, and digits
unfoldable pub parted_by : CharacterSet → (ℕ → Bool) → ℕ → List ℕ → Bool
parted_by set is_mark n xs = eqb (length xs) 9 && (every (is_numeric set) (take n xs) && (is_mark (get_or xs n 0) && every (is_numeric set) (drop (n + 1) xs)))

-- TTTTT-FFF: five digits, a dash, three digits
abbrev pub is_TTTTT-FFF : CharacterSet → List ℕ → Bool
is_TTTTT-FFF set xs = parted_by set (is_dash set) 5 xs

-- TTTT-AAAA: four digits, a dash, four digits
abbrev pub is_TTTT-AAAA : CharacterSet → List ℕ → Bool
is_TTTT-AAAA set xs = parted_by set (is_dash set) 4 xs

-- bTTTTAAAA: a blank and eight digits
abbrev pub is_bTTTTAAAA : CharacterSet → List ℕ → Bool
is_bTTTTAAAA set xs = parted_by set (is_blank set) 0 xs

-- NNNNNNNNN, of a body that is no bank: one to nine digits with no blank between them, and blanks for the rest, on either side (reading 21)
unfoldable pub is_NNNNNNNNN : CharacterSet → List ℕ → Bool
is_NNNNNNNNN set xs = eqb (length xs) 9 && (of_type set NB xs && some (is_numeric set) xs)

-- the forms as a layout names them
pub data Form : Type 0 where
  TTTTAAAAC TTTTT-FFF TTTT-AAAA bTTTTAAAA NNNNNNNNN : Form

abbrev pub form_number : Form → ℕ
form_number TTTTAAAAC = 1
form_number TTTTT-FFF = 2
form_number TTTT-AAAA = 3
form_number bTTTTAAAA = 4
form_number NNNNNNNNN = 5

abbrev pub lists : Form → List Form → Bool
lists form [] = false
lists form (f ∷ fs) = eqb (form_number form) (form_number f) || lists form fs

-- a list of forms as the code holds it: which of the five are in it
abbrev pub listing : List Form → Forms
listing fs =
    record {
      checked = lists TTTTAAAAC fs;
      canadian = lists TTTTT-FFF fs;
      dashed = lists TTTT-AAAA fs;
      blanked = lists bTTTTAAAA fs;
      nonfinancial = lists NNNNNNNNN fs;
    }

-- request 1: "a field takes whichever forms its own Format lines list"
abbrev pub fits_rarer : CharacterSet → Forms → List ℕ → Bool
fits_rarer set forms xs =
    (forms.canadian && is_TTTTT-FFF set xs)
    || ((forms.dashed && is_TTTT-AAAA set xs) || ((forms.blanked && is_bTTTTAAAA set xs) || (forms.nonfinancial && is_NNNNNNNNN set xs)))

unfoldable pub fits_some : CharacterSet → Forms → List ℕ → Bool
fits_some set forms xs = (forms.checked && is_TTTTAAAAC set xs) || fits_rarer set forms xs
