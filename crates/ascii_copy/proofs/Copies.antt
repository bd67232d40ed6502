-- The three cases of a file's ASCII copy. Assumes nothing.
use Prim.Native.Nat.{ℕ}
use mathlib.Core.Bool.{Bool, true, false, ◌&&◌}
use mathlib.Core.Logic.{◌⊎◌, inl, inr}
use mathlib.Core.Path.{◌≡◌, refl}
use mathlib.Core.List.{List}
use lib.Dec.{leb}
use lib.ListN.{length}
use borrow.Author.Tests.{leb-true}
use Rattle.text.specs.declared.character_set.CharacterSet.{CharacterSet}
use Rattle.text.specs.declared.character_set.CharacterSet.TheVariants.{Ascii, Ebcdic}
use Rattle.text.specs.CharacterSet.{set_of}
use Rattle.judge.proofs.Laws.{both_true}
use Rattle.ascii_copy.specs.AsciiCopy.{copied_frames, copied_from, ascii_copy, Begins}
use Rattle.ascii_copy.proofs.Frames.{Ahead, ahead-begins, length-copy, set-of-copy}

-- "File: 1 to 268,435,456 bytes"
abbrev pub allowed : List ℕ → Bool
allowed file = leb 1 (length file) && leb (length file) 268_435_456

-- a copy is the file itself, or as long as a file that is refused for its size, or ASCII for EBCDIC and copied ahead of each record
pub data CopyOf (file copy : List ℕ) : Type 0 where
  itself : copy ≡ file → CopyOf file copy
  unread : length copy ≡ length file → allowed file ≡ false → CopyOf file copy
  translates : set_of file ≡ Ebcdic → set_of copy ≡ Ascii → ((at : ℕ) → Begins file at → Ahead file copy at) → CopyOf file copy

pub copy_of : (file : List ℕ) → CopyOf file (ascii_copy file)
copy_of file = of-set (set_of file) refl
  where
    copy : List ℕ
    copy = copied_frames (length file) file

    of-copy : set_of file ≡ Ebcdic → (set_of copy ≡ Ascii) ⊎ (copy ≡ file) → CopyOf file copy
    of-copy e (inl ascii) = translates e ascii (ahead-begins file)
    of-copy e (inr same) = itself same

    of_size : (c : Bool) → allowed file ≡ c → set_of file ≡ Ebcdic → CopyOf file copy
    of_size true h e = of-copy e (set-of-copy file (leb-true _ _ (both_true (leb 1 (length file)) _ h).1) e)
    of_size false h e = unread (length-copy (length file) file) h

    of-set : (set : CharacterSet) → set_of file ≡ set → CopyOf file (copied_from set file)
    of-set Ascii e = itself refl
    of-set Ebcdic e = of_size (allowed file) refl e
