-- The character set of a file (request 5): "Decide by the first two characters after the first length: F0 F1 is EBCDIC code page 037,
-- anything else is read as before".
use Rattle.std.specs.Prelude.{ℕ, ◌&&◌, cond, List, eqb, get_or}
use Rattle.text.specs.declared.character_set.CharacterSet.{CharacterSet}
use Rattle.text.specs.declared.character_set.CharacterSet.TheVariants.{Ascii, Ebcdic}

-- the first length is four bytes
unfoldable pub set_of : List ℕ → CharacterSet
set_of file = cond (eqb (get_or file 4 0) 0xF0 && eqb (get_or file 5 0) 0xF1) Ebcdic Ascii
