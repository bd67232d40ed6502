-- The records walked of an EBCDIC file's copy are the copies of those walked of the file. Assumes nothing.
use Prim.Native.Nat.{ℕ, zero, suc, ◌+◌}
use mathlib.Core.Bool.{Bool, true, false, cond}
use mathlib.Core.List.{List, [], ◌∷◌, map}
use mathlib.Core.Path.{◌≡◌, refl, ap, ◌∙◌}
use lib.Dec.{leb, eqb}
use lib.ListN.{length}
use Rattle.std.specs.Prelude.{Some}
use Rattle.text.specs.CharacterSet.{set_of}
use Rattle.text.specs.declared.character_set.CharacterSet.TheVariants.{Ascii, Ebcdic}
use Rattle.frame.specs.Frames.{Frame}
use Rattle.frame.specs.Frames.{Cut, Whole}
use Rattle.frame.specs.Frames.{part, frame_at}
use Rattle.judge.specs.Alone.{type_of}
use Rattle.ascii_copy.specs.AsciiCopy.{copied_body}
use Rattle.ascii_copy.proofs.Frames.{Ahead, ahead-frame, ahead-body, ahead-next}
use Rattle.ascii_copy.proofs.Records.{type-copied}
use Rattle.file_as_records.specs.Framed.{Body}
use Rattle.salvage_model.specs.Walked.{walked_on, walked_from, walked}

abbrev pub copies : List Body → List Body
copies bs = map copied_body bs

record-and : (c d : Bool) (b : Body) (xs ys : List Body) → xs ≡ copies ys → cond c (copied_body b ∷ cond d [] xs) [] ≡ copies (cond c (b ∷ cond d [] ys) [])
record-and false d b xs ys e = refl
record-and true true b xs ys e = refl
record-and true false b xs ys e = ap (λ (l : List Body). copied_body b ∷ l) e

module _ (file copy : List ℕ) where
  walked_on_lem : (n at : ℕ) → Ahead file copy at → walked_from Ascii n copy at ≡ copies (walked_from Ebcdic n file at)
  unfolding walked_from
  walked_on_lem zero at a = refl
  walked_on_lem (suc n) at a =
      ap (λ (f : Frame). walked_on Ascii copy f (λ next. walked_from Ascii n copy next)) (ahead-frame file copy at a)
      ∙ cases (frame_at file at) refl (λ next b. walked_on_lem n next b)
    where
      cases : (f : Frame) → frame_at file at ≡ f
          → ((next : ℕ) → Ahead file copy next → walked_from Ascii n copy next ≡ copies (walked_from Ebcdic n file next))
          → walked_on Ascii copy f (λ next. walked_from Ascii n copy next) ≡ copies (walked_on Ebcdic file f (λ next. walked_from Ebcdic n file next))
      cases Cut e others = refl
      cases (Some x) e others =
          let b = part x.start x.size file in
          rw (ahead-body file copy at x.start x.size a e, type-copied b)
          (record-and (leb 2 x.size) (eqb (type_of Ebcdic b) 99) b _ _ (others (x.start + x.size) (ahead-next file copy at x.start x.size a e)))

  pub walked-copied : set_of file ≡ Ebcdic → set_of copy ≡ Ascii → Ahead file copy 0 → walked copy ≡ copies (walked file)
  unfolding walked
  walked-copied ebcdic ascii a = rw (ascii, ebcdic, a.long) (walked_on_lem (length file) 0 a)
