-- Clauses 5.1 and 5.2: the basic character types, in the order of the clauses, each as the ranges and single characters that the clause
-- and Table 1 print. In ASCII the codes are the ASCII column of Table 1, and a character stands for its code; in EBCDIC they are those of
-- code page 037 (request 5; reading 35 has the five characters at which Table 1's own column differs).
use Rattle.std.specs.Prelude.{ℕ, Bool, ◌||◌, eqb}
use Rattle.text.specs.Ranges.{within, through, is}
use Rattle.text.specs.declared.character_set.CharacterSet.{CharacterSet}
use Rattle.text.specs.declared.character_set.CharacterSet.TheVariants.{Ascii, Ebcdic}

-- 5.1.1 (A): A through Z, a through z, and the blank. EBCDIC: A to I, J to R, S to Z; a to i, j to r, s to z; the blank
abbrev pub is_alphabetic : CharacterSet → ℕ → Bool
is_alphabetic Ascii x = through "A" "Z" x || (through "a" "z" x || is " " x)
is_alphabetic Ebcdic x =
    within 0xC1 0xC9 x
    || (within 0xD1 0xD9 x || (within 0xE2 0xE9 x || (within 0x81 0x89 x || (within 0x91 0x99 x || (within 0xA2 0xA9 x || eqb x 0x40)))))

-- 5.1.2 (B): the blank
abbrev pub is_blank : CharacterSet → ℕ → Bool
is_blank Ascii x = is " " x
is_blank Ebcdic x = eqb x 0x40

-- 5.1.3 (N): 0 through 9
abbrev pub is_numeric : CharacterSet → ℕ → Bool
is_numeric Ascii x = through "0" "9" x
is_numeric Ebcdic x = within 0xF0 0xF9 x

-- 5.1.4 (Q): the question mark
abbrev pub is_questionable : CharacterSet → ℕ → Bool
is_questionable Ascii x = is "?" x
is_questionable Ebcdic x = eqb x 0x6F

-- 5.1.5 (S): printable, above the blank, neither alphabetic nor numeric: the four ranges of Table 1. EBCDIC: . < ( + | &; ! $ * ) ;
-- - /; , % _ > ?; ` : # @ ' = "; ~; ^; [ ]; { } and the backslash
abbrev pub is_special : CharacterSet → ℕ → Bool
is_special Ascii x = through "!" "/" x || (through ":" "@" x || (through "[" "`" x || through "{" "~" x))
is_special Ebcdic x =
    within 0x4B 0x50 x
    || (within 0x5A 0x5E x
    || (within 0x60 0x61 x
    || (within 0x6B 0x6F x
    || (within 0x79 0x7F x
    || (eqb x 0xA1 || (eqb x 0xB0 || (within 0xBA 0xBB x || (eqb x 0xC0 || (eqb x 0xD0 || eqb x 0xE0)))))))))

-- 5.2.1 (Ma): the dollar sign
abbrev pub is_amount_symbol : CharacterSet → ℕ → Bool
is_amount_symbol Ascii x = is "$" x
is_amount_symbol Ebcdic x = eqb x 0x5B

-- 5.2.2 (Mc): the asterisk
abbrev pub is_cannot_read : CharacterSet → ℕ → Bool
is_cannot_read Ascii x = is "*" x
is_cannot_read Ebcdic x = eqb x 0x5C

-- 5.2.3 (Md): the dash
abbrev pub is_dash : CharacterSet → ℕ → Bool
is_dash Ascii x = is "-" x
is_dash Ebcdic x = eqb x 0x60

-- 5.2.4 (Mo): the forward slash
abbrev pub is_on_us_symbol : CharacterSet → ℕ → Bool
is_on_us_symbol Ascii x = is "/" x
is_on_us_symbol Ebcdic x = eqb x 0x61

-- 5.2.5 (Mr): the number sign
abbrev pub is_transit_symbol : CharacterSet → ℕ → Bool
is_transit_symbol Ascii x = is "#" x
is_transit_symbol Ebcdic x = eqb x 0x7B
