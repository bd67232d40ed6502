-- Request 5: where a record begins, a file and its ASCII copy hand out the same picture, or refuse alike. Assumes nothing.
use Prim.Native.Nat.{ℕ, ◌+◌}
use mathlib.Core.Bool.{Bool, true, false}
use mathlib.Core.Path.{◌≡◌, refl, ap}
use mathlib.Core.List.{List}
use lib.Dec.{leb, eqb}
use lib.ListN.{length}
use borrow.Author.Tests.{eqb-true}
use Rattle.std.specs.Prelude.{Some}
use Rattle.text.specs.declared.character_set.CharacterSet.TheVariants.{Ascii, Ebcdic}
use Rattle.text.specs.CharacterSet.{set_of}
use Rattle.frame.specs.Frames.{Frame}
use Rattle.frame.specs.Frames.{Cut}
use Rattle.frame.specs.Frames.{part, frame_at}
use Rattle.frame.specs.Unless.{unless}
use Rattle.layout.specs.Layouts.{image_view_data}
use Rattle.judge.specs.Alone.{type_of, alone}
use Rattle.judge.specs.Image.{image_start, image_size}
use Rattle.ascii_copy.specs.AsciiCopy.{copied_body, ascii_copy, Begins}
use Rattle.ascii_copy.proofs.Records.{length-copied, type-copied, alone-copied, image-start-copied, image-size-copied}
use Rattle.ascii_copy.proofs.Frames.{Ahead, ahead-frame, ahead-body}
use Rattle.ascii_copy.proofs.Copies.{CopyOf, itself, unread, translates, copy_of}
use Rattle.picture.specs.Picture.{Found, At, SizeRefused, LengthRefused, TypeRefused}
use Rattle.picture.specs.Picture.{size_allowed, when_sound, in_body, in_frame, picture_at}

body-of-copy : (start : ℕ) (b : List ℕ) → in_body Ascii start (copied_body b) ≡ in_body Ebcdic start b
unfolding in_body
body-of-copy start b =
    rw (length-copied b, type-copied b, image-start-copied b, image-size-copied b)
    (ap (unless (leb 2 (length b)) LengthRefused) (cases (eqb (type_of Ebcdic b) 52) refl))
  where
    picture : Found
    picture = At (start + image_start Ebcdic b) (image_size Ebcdic b)

    cases : (c : Bool) → eqb (type_of Ebcdic b) 52 ≡ c
        → unless c TypeRefused (when_sound (alone Ascii image_view_data (copied_body b)) picture) ≡ unless c TypeRefused (when_sound (alone Ebcdic image_view_data b) picture)
    cases true e = rw (alone-copied b (eqb-true (type_of Ebcdic b) 52 e))
    cases false e = refl

module _ (file copy : List ℕ) (at : ℕ) (a : Ahead file copy at) where
  frame-of-copy : in_frame Ascii copy (frame_at copy at) ≡ in_frame Ebcdic file (frame_at file at)
  frame-of-copy = rw (ahead-frame file copy at a) (cases (frame_at file at) refl)
    where
      cases : (f : Frame) → frame_at file at ≡ f → in_frame Ascii copy f ≡ in_frame Ebcdic file f
      cases Cut e = refl
      cases (Some x) e = rw (ahead-body file copy at x.start x.size a e) (body-of-copy x.start (part x.start x.size file))

  picture-alike : set_of file ≡ Ebcdic → set_of copy ≡ Ascii → picture_at copy at ≡ picture_at file at
  unfolding picture_at
  picture-alike ebcdic ascii = rw (ascii, ebcdic, a.long) (ap (unless (size_allowed file) SizeRefused) frame-of-copy)

pub picture-of-copy : (file : List ℕ) (offset : ℕ) → Begins file offset → picture_at (ascii_copy file) offset ≡ picture_at file offset
unfolding picture_at
picture-of-copy file offset begins = cases (ascii_copy file) (copy_of file)
  where
    cases : (copy : List ℕ) → CopyOf file copy → picture_at copy offset ≡ picture_at file offset
    cases copy (itself e) = ap (λ (f : List ℕ). picture_at f offset) e
    cases copy (unread long e) = rw (long, e)
    cases copy (translates ebcdic ascii ahead) = picture-alike file copy offset (ahead offset begins) ebcdic ascii
