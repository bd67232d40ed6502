-- Records set out one after the other, each with its length in front (Annex D), and the fields of a record.
use Rattle.std.specs.Prelude.{cond, ℕ, ◌/◌, ◌%◌, List, [], ◌∷◌, ◌++◌, eqb, length}
use Rattle.layout.specs.Layout.{Line, Layout}
use Rattle.judge.specs.Alone.{characters_of}

-- the bytes of a record, without its length
abbrev pub Body : Type 0
Body = List ℕ

-- a length as four bytes, high byte first
abbrev pub length_field : ℕ → List ℕ
length_field n = (n / 0x100_0000 % 0x100) ∷ (n / 0x1_0000 % 0x100) ∷ (n / 0x100 % 0x100) ∷ (n % 0x100) ∷ []

abbrev pub framed : List Body → List ℕ
framed [] = []
framed (b ∷ bs) = length_field (length b) ++ (b ++ framed bs)

-- the characters of field n, by the lines of a layout
abbrev pub field_among : List Line → ℕ → Body → List ℕ
field_among [] n b = []
field_among (l ∷ ls) n b = cond (eqb l.number n) (characters_of l b) (field_among ls n b)

abbrev pub field_of : Layout → ℕ → Body → List ℕ
field_of k n b = field_among k.lines n b
