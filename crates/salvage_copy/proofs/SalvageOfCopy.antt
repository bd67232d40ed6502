-- "An EBCDIC file gets the answer, list and bytes of its copy" (request 11, reading 67). Assumes nothing.
use Prim.Native.Nat.{ℕ}
use mathlib.Core.List.{List}
use mathlib.Core.Path.{◌≡◌, refl, sym}
use lib.ListN.{length}
use Rattle.text.specs.CharacterSet.{set_of}
use Rattle.text.specs.declared.character_set.CharacterSet.TheVariants.{Ascii, Ebcdic}
use Rattle.ascii_copy.specs.AsciiCopy.{ascii_copy, first}
use Rattle.ascii_copy.proofs.Copies.{CopyOf, itself, unread, translates, copy_of}
use Rattle.ascii_copy.proofs.Frames.{Ahead}
use Rattle.salvage_model.specs.Kept.{marks_of}
use Rattle.salvage_model.specs.Promises.{SameSalvage}
use Rattle.salvage_model.specs.Salvaged.{values_left, salvage_outcome, salvage_buffer, list_of, salvage_list}
use Rattle.salvage_model.specs.Walked.{walked}
use Rattle.salvage_copy.proofs.WalkedCopy.{walked-copied}
use Rattle.salvage_copy.proofs.GroupsCopy.{copies-long}
use Rattle.salvage_copy.proofs.MarksCopy.{marks-copied, listed-copied, anything-copied}
use Rattle.salvage_copy.proofs.ValuesCopy.{salvaged-copied}

module _ (file copy : List ℕ) (ebcdic : set_of file ≡ Ebcdic) (ascii : set_of copy ≡ Ascii) (ahead : Ahead file copy 0) where
  same-values : values_left copy ≡ values_left file
  unfolding values_left
  same-values = rw (ascii, ebcdic, walked-copied file copy ebcdic ascii ahead) (salvaged-copied (walked file))

  same_rows : list_of copy ≡ list_of file
  unfolding list_of
  same_rows =
      rw (ascii, ebcdic, walked-copied file copy ebcdic ascii ahead, marks-copied (walked file)) (listed-copied 0 (marks_of Ebcdic (walked file)))

  same_outcome : (room rows : ℕ) → salvage_outcome copy room rows ≡ salvage_outcome file room rows
  unfolding salvage_outcome
  same_outcome room rows =
      rw (same-values, ahead.long, ascii, ebcdic, walked-copied file copy ebcdic ascii ahead, anything-copied (walked file), copies-long (walked file))

  same-salvage : (out list : List ℕ) → SameSalvage file copy out list
  unfolding salvage_buffer salvage_list
  same-salvage out list =
      let o = same_outcome (length out) (length list) in
      record { answer = sym o; buffer = sym (rw (o, same-values)); rows = sym (rw (o, same_rows)) }

salvaged-as : (file copy out list : List ℕ) → CopyOf file copy → SameSalvage file copy out list
unfolding salvage_outcome salvage_buffer salvage_list
salvaged-as file copy out list (itself e) = rw e (record { answer = refl; buffer = refl; rows = refl })
salvaged-as file copy out list (unread long e) = record { answer = rw (long, e); buffer = rw (long, e); rows = rw (long, e) }
salvaged-as file copy out list (translates ebcdic ascii ahead) = same-salvage file copy ebcdic ascii (ahead 0 first) out list

pub salvaged-as-copy : (file out list : List ℕ) → SameSalvage file (ascii_copy file) out list
salvaged-as-copy file out list = salvaged-as file (ascii_copy file) out list (copy_of file)
