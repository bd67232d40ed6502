-- Request 5: where a record begins, the picture in a file's ASCII copy has the bytes of that in the file. Assumes nothing.
use Prim.Native.Nat.{ℕ, ◌+◌}
use mathlib.Core.Bool.{Bool, true, false}
use mathlib.Core.Path.{◌≡◌, refl, ap, ◌∙◌}
use mathlib.Core.List.{List}
use lib.Dec.{leb, eqb}
use lib.ListN.{length}
use borrow.Author.Tests.{eqb-true}
use Rattle.std.specs.Prelude.{Some, Err}
use Rattle.text.specs.declared.character_set.CharacterSet.TheVariants.{Ebcdic}
use Rattle.text.specs.CharacterSet.{set_of}
use Rattle.frame.specs.Frames.{Frame}
use Rattle.frame.specs.Frames.{Cut, Whole}
use Rattle.frame.specs.Frames.{part, frame_at}
use Rattle.frame.specs.Unless.{unless}
use Rattle.layout.specs.Layouts.{image_view_data}
use Rattle.judge.specs.Alone.{Judged}
use Rattle.judge.specs.Alone.{Sound}
use Rattle.judge.specs.Alone.{type_of, alone}
use Rattle.judge.specs.Image.{image_start, image_size}
use Rattle.ascii_copy.specs.AsciiCopy.{ascii_copy, Begins}
use Rattle.ascii_copy.proofs.Frames.{Ahead}
use Rattle.ascii_copy.proofs.Copies.{CopyOf, itself, unread, translates, copy_of}
use Rattle.ascii_copy.proofs.ImageKept.{image-ahead}
use Rattle.picture.specs.Picture.{Found, At, SizeRefused, LengthRefused, TypeRefused}
use Rattle.picture.specs.Picture.{bytes_of, size_allowed, when_sound, in_body, in_frame, picture_at}
use Rattle.picture.proofs.OfCopy.{picture-of-copy}

module _ (file copy : List ℕ) where
  -- what is found has the same bytes in both
  abbrev Kept : Found → Type 0
  Kept found = bytes_of copy found ≡ bytes_of file found

  -- a refusal has none, so what passes a test counts
  past-test : (t : Bool) (fault next : Found) → Kept fault → (t ≡ true → Kept next) → Kept (unless t fault next)
  past-test true fault next refused passed = passed refl
  past-test false fault next refused passed = refused

  when-sound : (j : Judged) (found : Found) → (j ≡ Sound → Kept found) → Kept (when_sound j found)
  when-sound Sound at kept = kept refl
  when-sound (Err flaw) at kept = refl

  module _ (at : ℕ) (a : Ahead file copy at) where
    body_kept : (start size : ℕ) → frame_at file at ≡ Whole start size → Kept (in_body Ebcdic start (part start size file))
    unfolding in_body
    body_kept start size e =
        let body = part start size file in
        let found = At (start + image_start Ebcdic body) (image_size Ebcdic body) in
        let judged = when_sound (alone Ebcdic image_view_data body) found in
        past-test (leb 2 (length body)) LengthRefused (unless (eqb (type_of Ebcdic body) 52) TypeRefused judged) refl
        (λ long. past-test (eqb (type_of Ebcdic body) 52) TypeRefused judged refl
        (λ t. when-sound (alone Ebcdic image_view_data body) found (image-ahead file copy at start size a e (eqb-true (type_of Ebcdic body) 52 t))))

    found-kept : set_of file ≡ Ebcdic → Kept (picture_at file at)
    unfolding picture_at
    found-kept ebcdic =
        rw ebcdic (past-test (size_allowed file) SizeRefused (in_frame Ebcdic file (frame_at file at)) refl (λ allowed. cases (frame_at file at) refl))
      where
        cases : (f : Frame) → frame_at file at ≡ f → Kept (in_frame Ebcdic file f)
        cases Cut e = refl
        cases (Some x) e = body_kept x.start x.size e

pub bytes-of-copy : (file : List ℕ) (offset : ℕ) → Begins file offset
    → bytes_of (ascii_copy file) (picture_at (ascii_copy file) offset) ≡ bytes_of file (picture_at file offset)
unfolding picture_at
bytes-of-copy file offset begins = ap (bytes_of (ascii_copy file)) (picture-of-copy file offset begins) ∙ cases (ascii_copy file) (copy_of file)
  where
    cases : (copy : List ℕ) → CopyOf file copy → bytes_of copy (picture_at file offset) ≡ bytes_of file (picture_at file offset)
    cases copy (itself e) = ap (λ (bytes : List ℕ). bytes_of bytes (picture_at file offset)) e
    cases copy (unread long e) = rw e
    cases copy (translates ebcdic ascii ahead) = found-kept file copy offset (ahead offset begins) ebcdic
