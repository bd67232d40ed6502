-- 5.1.1: a lower case letter has the meaning of its upper case letter.
use Rattle.std.specs.Prelude.{ℕ, ◌+◌, ◌-◌, cond}
use Prim.Native.Char.{Char, code}
use Rattle.text.specs.Ranges.{within}
use Rattle.text.specs.declared.character_set.CharacterSet.{CharacterSet}
use Rattle.text.specs.declared.character_set.CharacterSet.TheVariants.{Ascii, Ebcdic}

-- the characters from one code through another stand for those from a character on; any other number is looked for among the rest
abbrev pub stand_for : ℕ → ℕ → Char → ℕ → ℕ → ℕ
stand_for low high first x rest = cond (within low high x) (x - low + code first) rest

-- The letter, in capitals, or the digit that a character is, by its ASCII code; 0 of any other character. Defined values are compared with it.
unfoldable pub capital : CharacterSet → ℕ → ℕ
capital Ascii x = stand_for 0x41 0x5A "A" x (stand_for 0x61 0x7A "A" x (stand_for 0x30 0x39 "0" x 0))
capital Ebcdic x =
    stand_for 0xC1 0xC9 "A" x
    (stand_for 0xD1 0xD9 "J" x
    (stand_for 0xE2 0xE9 "S" x
    (stand_for 0x81 0x89 "A" x (stand_for 0x91 0x99 "J" x (stand_for 0xA2 0xA9 "S" x (stand_for 0xF0 0xF9 "0" x 0))))))
