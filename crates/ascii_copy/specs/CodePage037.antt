-- EBCDIC code page 037, as far as clause 5 goes: the 95 characters of Table 1, in runs of codes that follow one another.
use Rattle.std.specs.Prelude.{ℕ, ◌+◌, ◌-◌, ◌&&◌, cond, List, [], ◌∷◌, leb, ltb}
use Prim.Native.Char.{code}
use Prim.Native.String.{String, len, char_at}

pub record Run : Type 0 where
  pub first : ℕ
  pub characters : String

abbrev pub run : ℕ → String → Run
run n s = record { first = n; characters = s }

abbrev pub code_page037 : List Run
code_page037 =
    run 0x40 " " ∷
    run 0x4B ".<(+|&" ∷
    run 0x5A "!$*);" ∷
    run 0x60 "-/" ∷
    run 0x6B ",%_>?" ∷
    run 0x79 "`:#@'=\"" ∷
    run 0x81 "abcdefghi" ∷
    run 0x91 "jklmnopqr" ∷
    run 0xA1 "~stuvwxyz" ∷
    run 0xB0 "^" ∷
    run 0xBA "[]" ∷
    run 0xC0 "{ABCDEFGHI" ∷
    run 0xD0 "}JKLMNOPQR" ∷
    run 0xE0 "\\" ∷
    run 0xE2 "STUVWXYZ" ∷
    run 0xF0 "0123456789" ∷
    []

-- the ASCII code of the character that a byte stands for; "a byte with no counterpart in clause 5 ... is copied as 00"
abbrev pub among : List Run → ℕ → ℕ
among [] x = 0
among (r ∷ rs) x =
    cond (leb r.first x && ltb x (r.first + len r.characters)) (code (char_at r.characters (x - r.first))) (among rs x)

unfoldable pub counterpart : ℕ → ℕ
counterpart x = among code_page037 x
