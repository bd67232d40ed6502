-- The Image Data of a 52 stands in its copy as it is, byte by byte: "Binary fields are never translated". Assumes nothing.
use Prim.Native.Nat.{ℕ, ◌+◌, ◌≤◌}
use native.Mathlib.Omega.{arith}
use mathlib.Core.List.{List, [], ◌∷◌, ◌++◌}
use mathlib.Core.Path.{◌≡◌, refl, ap, sym, ◌∙◌}
use borrow.Author.Tests.{eq-eqb}
use lib.ListN.{take, drop, length-take}
use lib.Seq.{take-take, drop-drop}
use Rattle.text.specs.declared.character_set.CharacterSet.TheVariants.{Ebcdic}
use Rattle.text.specs.declared.data_types.DataType.{DataType}
use Rattle.text.specs.declared.data_types.DataType.TheVariants.{Binary}
use Rattle.frame.specs.Frames.{Whole}
use Rattle.frame.specs.Frames.{part, frame_at}
use Rattle.layout.specs.Layout.{Sized, sized_in, sized_parts}
use Rattle.layout.specs.Layouts.{image_view_data}
use Rattle.judge.specs.Alone.{type_of, stated_size, stated_sizes, alone}
use Rattle.judge.specs.Image.{parts_before, image_start, image_size}
use Rattle.judge.specs.Alone.{Sound}
use Rattle.judge.proofs.Laws.{image-within}
use Rattle.ascii_copy.specs.AsciiCopy.{copied_as, copied_parts, copied_body}
use Rattle.ascii_copy.proofs.Records.{part-front, halves, apart}
use Rattle.ascii_copy.proofs.Frames.{Ahead, ahead-body}

-- a part of a part
part-within : (start size first n : ℕ) (xs : List ℕ) → first + n ≤ size → part first n (part start size xs) ≡ part (start + first) n xs
part-within start size first n xs h =
    part-front first n (part start size xs) ∙ ap (drop first) (take-take (first + n) size (drop start xs) h)
    ∙ sym (part-front first n (drop start xs)) ∙ ap (take n) (drop-drop first start xs)

-- a Binary part of a 52, and the field that states its size
abbrev sized_by : ℕ → ℕ → Sized
sized_by n field = sized_in image_view_data.lines (record { number = n; sized_by = field; data_type = Binary })

module _ (b : List ℕ) where
  -- past the parts before it, a part and those behind it are copied on their own
  past : (before later : List Sized) (rest : List ℕ)
      → drop (stated_sizes Ebcdic before b) (copied_parts (before ++ later) b rest) ≡ copied_parts later b (drop (stated_sizes Ebcdic before b) rest)
  unfolding stated_sizes
  past [] later rest = refl
  past (s ∷ ss) later rest =
      let n = stated_size Ebcdic s b in
      let m = stated_sizes Ebcdic ss b in
      sym (drop-drop m n (copied_parts (s ∷ (ss ++ later)) b rest)) ∙ ap (drop m) (apart b s (ss ++ later) rest).1
      ∙ past ss later (drop n rest) ∙ ap (copied_parts later b) (drop-drop m n rest)

  binary-kept : (before : List Sized) (s : Sized) (later : List Sized) (rest : List ℕ) → s.data_type ≡ Binary
      → part (stated_sizes Ebcdic before b) (stated_size Ebcdic s b) (copied_parts (before ++ (s ∷ later)) b rest)
      ≡ part (stated_sizes Ebcdic before b) (stated_size Ebcdic s b) rest
  binary-kept before s later rest e =
      let here = drop (stated_sizes Ebcdic before b) rest in
      ap (take (stated_size Ebcdic s b)) (past before (s ∷ later) rest) ∙ (apart b s later here).0
      ∙ ap (λ (t : DataType). copied_as t (take (stated_size Ebcdic s b) here)) e

  pub image-kept : type_of Ebcdic b ≡ 52
      → part (image_start Ebcdic b) (image_size Ebcdic b) (copied_body b) ≡ part (image_start Ebcdic b) (image_size Ebcdic b) b
  image-kept e =
      let before = parts_before 27 (sized_parts image_view_data) in
      let m = stated_sizes Ebcdic before b in
      ap (take (image_size Ebcdic b)) (sym (drop-drop m 139 (copied_body b)) ∙ ap (drop m) (halves b (eq-eqb (type_of Ebcdic b) 52 e)).1)
      ∙ binary-kept before (sized_by 27 20) (sized_by 28 21 ∷ []) (drop 139 b) refl ∙ ap (take (image_size Ebcdic b)) (drop-drop m 139 b)

-- in a file, where the record is sound, so that its Image Data ends within it
module _ (file copy : List ℕ) (at start size : ℕ) (a : Ahead file copy at) (e : frame_at file at ≡ Whole start size) where
  abbrev body : List ℕ
  body = part start size file

  pub image-ahead : type_of Ebcdic body ≡ 52 → alone Ebcdic image_view_data body ≡ Sound
      → part (start + image_start Ebcdic body) (image_size Ebcdic body) copy ≡ part (start + image_start Ebcdic body) (image_size Ebcdic body) file
  image-ahead t s =
      let first = image_start Ebcdic body in
      let n = image_size Ebcdic body in
      let within : first + n ≤ size = omega (arith, image-within Ebcdic body s, length-take size (drop start file)) in
      sym (part-within start size first n copy within) ∙ ap (part first n) (ahead-body file copy at start size a e)
      ∙ image-kept body t ∙ part-within start size first n file within
