-- Clause 5.3, Table 2: the field data types, each by the basic character types that it is made of.
use Rattle.std.specs.Prelude.{ℕ, Bool, true, false, ◌&&◌, ◌||◌, not, List, [], ◌∷◌}
use Rattle.text.specs.declared.character_set.CharacterSet.{CharacterSet}
use Rattle.text.specs.Characters.{is_blank, is_alphabetic, is_numeric, is_questionable, is_special, is_amount_symbol, is_cannot_read, is_dash, is_on_us_symbol, is_transit_symbol}
use Rattle.text.specs.declared.data_types.DataType.{DataType}
use Rattle.text.specs.declared.data_types.DataType.TheVariants.{AB, A, AN, ANS, Binary, N, NB, NBD, NBQ, NBMc, NBMcd, NBMcdo, NBMU}

-- the test passes at every character; at some character
abbrev pub every : (ℕ → Bool) → List ℕ → Bool
every test [] = true
every test (x ∷ xs) = test x && every test xs

abbrev pub some : (ℕ → Bool) → List ℕ → Bool
some test [] = false
some test (x ∷ xs) = test x || some test xs

-- 5.3.1 to 5.3.14: the characters to which a field of the type is limited
abbrev pub admits : CharacterSet → DataType → ℕ → Bool
admits set AB x = is_blank set x
admits set A x = is_alphabetic set x
admits set AN x = is_alphabetic set x || is_numeric set x
admits set ANS x = is_alphabetic set x || (is_numeric set x || is_special set x)
admits set Binary x = true
admits set N x = is_numeric set x
admits set NB x = is_numeric set x || is_blank set x
admits set NBD x = is_numeric set x || (is_blank set x || is_dash set x)
admits set NBQ x = is_numeric set x || (is_blank set x || is_questionable set x)
admits set NBMc x = is_numeric set x || (is_blank set x || is_cannot_read set x)
admits set NBMcd x = is_numeric set x || (is_blank set x || (is_cannot_read set x || is_dash set x))
admits set NBMcdo x = is_numeric set x || (is_blank set x || (is_cannot_read set x || (is_dash set x || is_on_us_symbol set x)))
admits set NBMU x = is_numeric set x || (is_blank set x || (is_amount_symbol set x || (is_cannot_read set x || (is_dash set x || (is_on_us_symbol set x || is_transit_symbol set x)))))

-- 5.3.8, 5.3.9, 5.3.10: "Blanks shall not be embedded within the numeric digits."
abbrev pub keeps_digits_together : DataType → Bool
keeps_digits_together AB = false
keeps_digits_together A = false
keeps_digits_together AN = false
keeps_digits_together ANS = false
keeps_digits_together Binary = false
keeps_digits_together N = false
keeps_digits_together NB = true
keeps_digits_together NBD = true
keeps_digits_together NBQ = true
keeps_digits_together NBMc = false
keeps_digits_together NBMcd = false
keeps_digits_together NBMcdo = false
keeps_digits_together NBMU = false

-- a blank with a digit somewhere before it and a digit somewhere after it; `before` says whether a digit stands before the list
abbrev pub blank_after : CharacterSet → Bool → List ℕ → Bool
blank_after set before [] = false
blank_after set before (x ∷ xs) = (before && (is_blank set x && some (is_numeric set) xs)) || blank_after set (before || is_numeric set x) xs

abbrev pub blank_embedded : CharacterSet → List ℕ → Bool
blank_embedded set xs = blank_after set false xs

-- a field of the data type
unfoldable pub of_type : CharacterSet → DataType → List ℕ → Bool
of_type set t xs = every (admits set t) xs && not (keeps_digits_together t && blank_embedded set xs)

-- 5.1.4, 5.2.2: the mark by which a sender of the type says that a character could not be read
abbrev pub is_mark : CharacterSet → DataType → ℕ → Bool
is_mark set AB x = false
is_mark set A x = false
is_mark set AN x = false
is_mark set ANS x = false
is_mark set Binary x = false
is_mark set N x = false
is_mark set NB x = false
is_mark set NBD x = false
is_mark set NBQ x = is_questionable set x
is_mark set NBMc x = is_cannot_read set x
is_mark set NBMcd x = is_cannot_read set x
is_mark set NBMcdo x = is_cannot_read set x
is_mark set NBMU x = is_cannot_read set x
