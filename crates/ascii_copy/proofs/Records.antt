-- A record's copy: as long as the record, the same in front but for the set, and judged the same. Assumes nothing.
use Prim.Native.Nat.{ℕ, zero, suc, ◌+◌, ◌-◌, ◌≤◌, ◌<◌}
use native.Mathlib.Nat.{zero-add, suc-add}
use native.Mathlib.Omega.{arith}
use mathlib.Core.Bool.{Bool, true, false, ◌&&◌}
use mathlib.Core.List.{List, [], ◌∷◌, ◌++◌}
use mathlib.Core.Path.{◌≡◌, refl, ap, sym, ◌∙◌}
use borrow.Author.Tests.{leb-true, ltb-true, eq-eqb, eqb-true}
use lib.Dec.{leb, ltb, eqb}
use lib.ListN.{length, get_or, take, drop, length-append, length-take, length-drop}
use lib.Seq.{take-nil, take-take, get_or-take}
use Rattle.text.specs.declared.character_set.CharacterSet.TheVariants.{Ascii, Ebcdic}
use Rattle.text.specs.declared.data_types.DataType.{DataType}
use Rattle.text.specs.declared.data_types.DataType.TheVariants.{AB, A, AN, ANS, Binary, N, NB, NBD, NBQ, NBMc, NBMcd, NBMcdo, NBMU}
use Rattle.text.specs.Characters.{is_numeric}
use Rattle.text.specs.Capitals.{capital}
use Rattle.field.specs.declared.Rule.{Rule}
use Rattle.field.specs.declared.Rule.TheVariants.{DataTypeAlone, Numbers, AllDigits, OneOrTwoDigits, StandardLevel, CollectionType, BundleCollectionType, SourceOfWork, Code, Date, HoursMinutes, HoursMinutesSeconds, Routing, ClippingCoordinate}
use Rattle.frame.specs.Frames.{part}
use Rattle.layout.specs.Layout.{Line, Layout, Sized, sized_parts}
use Rattle.layout.specs.Layouts.{layouts, image_view_data}
use Rattle.judge.specs.Alone.{type_of, line_holds, first_wrong, stated_size, stated_sizes, first_wrong_part, judged, alone, among_layouts, judged_as}
use Rattle.judge.specs.Image.{parts_before, size_in, image_start, image_size}
use Rattle.judge.proofs.Laws.{both_true}
use Rattle.ascii_copy.specs.AsciiCopy.{translated, copied_as, copied_parts, copied_body}
use Rattle.ascii_copy.proofs.Characters.{numeric-alike}
use Rattle.ascii_copy.proofs.Fields.{length-translated, take-translated, drop-translated, every-alike, get_d-alike, number-alike, type-alike, as-alike, holds-alike}

pub length-as : (t : DataType) (xs : List ℕ) → length (copied_as t xs) ≡ length xs
length-as AB xs = length-translated xs
length-as A xs = length-translated xs
length-as AN xs = length-translated xs
length-as ANS xs = length-translated xs
length-as Binary xs = omega (arith, length-translated xs)
length-as N xs = length-translated xs
length-as NB xs = length-translated xs
length-as NBD xs = length-translated xs
length-as NBQ xs = length-translated xs
length-as NBMc xs = length-translated xs
length-as NBMcd xs = length-translated xs
length-as NBMcdo xs = length-translated xs
length-as NBMU xs = length-translated xs

length-parts : (ss : List Sized) (body rest : List ℕ) → length (copied_parts ss body rest) ≡ length rest
unfolding copied_parts
length-parts [] body rest = length-translated rest
length-parts (s ∷ ss) body rest =
    let n = stated_size Ebcdic s body in
    length-append (copied_as s.data_type (take n rest)) (copied_parts ss body (drop n rest))
    ∙ omega (arith, length-as s.data_type (take n rest), length-parts ss body (drop n rest), length-take n rest, length-drop n rest)

-- a record of characters alone is copied whole, and a 52 as its fixed part and its parts
module _ (b : List ℕ) where
  pub other-copied : eqb (type_of Ebcdic b) 52 ≡ false → copied_body b ≡ translated b
  unfolding copied_body
  other-copied e = rw e

  pub parted : eqb (type_of Ebcdic b) 52 ≡ true
      → copied_body b ≡ translated (take 139 b) ++ copied_parts (sized_parts image_view_data) b (drop 139 b)
  unfolding copied_body
  parted e = rw e

-- two lists that are as long as the parts of one are the parts of what they make together
seam : (n : ℕ) (zs xs ys : List ℕ) → length xs ≡ length (take n zs) → length ys ≡ length (drop n zs)
    → (take n (xs ++ ys) ≡ xs) × (drop n (xs ++ ys) ≡ ys)
seam zero zs [] ys e f = (refl, refl)
seam zero zs (x ∷ xs) ys e f = absurd (omega arith)
seam (suc n) [] [] [] e f = (refl, refl)
seam (suc n) [] [] (y ∷ ys) e f = absurd (omega arith)
seam (suc n) [] (x ∷ xs) ys e f = absurd (omega arith)
seam (suc n) (z ∷ zs) [] ys e f = absurd (omega arith)
seam (suc n) (z ∷ zs) (x ∷ xs) ys e f =
    let both = seam n zs xs ys (omega arith) f in
    (ap (λ (l : List ℕ). x ∷ l) both.0, both.1)

module _ (b : List ℕ) (e : eqb (type_of Ebcdic b) 52 ≡ true) where
  pub halves : (take 139 (copied_body b) ≡ translated (take 139 b)) × (drop 139 (copied_body b) ≡ copied_parts (sized_parts image_view_data) b (drop 139 b))
  halves =
      rw (parted b e)
      (seam 139 b (translated (take 139 b)) (copied_parts (sized_parts image_view_data) b (drop 139 b))
      (length-translated (take 139 b)) (length-parts (sized_parts image_view_data) b (drop 139 b)))

  length-parted : length (copied_body b) ≡ length b
  length-parted =
      rw (parted b e, length-append, length-translated (take 139 b), length-parts (sized_parts image_view_data) b (drop 139 b))
      (omega (arith, length-take 139 b, length-drop 139 b))

  front-parted : (w : ℕ) → w ≤ 139 → take w (copied_body b) ≡ translated (take w b)
  front-parted w h =
      sym (take-take w 139 (copied_body b) h) ∙ ap (take w) halves.0 ∙ take-translated w (take 139 b) ∙ ap translated (take-take w 139 b h)

pub length-copied : (b : List ℕ) → length (copied_body b) ≡ length b
length-copied b = by (eqb (type_of Ebcdic b) 52) refl
  where
    by : (t : Bool) → eqb (type_of Ebcdic b) 52 ≡ t → length (copied_body b) ≡ length b
    by true e = length-parted b e
    by false e = rw (other-copied b e) (length-translated b)

-- the fixed part of a 52, and as much of any other record, is characters
pub front-copied : (w : ℕ) (b : List ℕ) → w ≤ 139 → take w (copied_body b) ≡ translated (take w b)
front-copied w b h = by (eqb (type_of Ebcdic b) 52) refl
  where
    by : (t : Bool) → eqb (type_of Ebcdic b) 52 ≡ t → take w (copied_body b) ≡ translated (take w b)
    by true e = front-parted b e w h
    by false e = rw (other-copied b e) (take-translated w b)

-- a part of a list is that of its front
pub part-front : (first size : ℕ) (xs : List ℕ) → part first size xs ≡ drop first (take (first + size) xs)
part-front zero size xs = rw zero-add
part-front (suc first) size [] = rw suc-add (take-nil size)
part-front (suc first) size (x ∷ xs) = rw suc-add (part-front first size xs)

module _ (b : List ℕ) where
  -- the characters of a field within the fixed part
  pub field-copied : (first size : ℕ) → first + size ≤ 139 → part first size (copied_body b) ≡ translated (part first size b)
  field-copied first size h =
      part-front first size (copied_body b) ∙ ap (drop first) (front-copied (first + size) b h)
      ∙ drop-translated first (take (first + size) b) ∙ ap translated (sym (part-front first size b))

  capital-copied : (origin : ℕ) → origin < 139 → capital Ascii (get_or (copied_body b) origin 0) ≡ capital Ebcdic (get_or b origin 0)
  capital-copied origin h =
      ap (capital Ascii) (sym (get_or-take 139 (copied_body b) origin 0 h) ∙ ap (λ (l : List ℕ). get_or l origin 0) (front-copied 139 b (omega arith)))
      ∙ get_d-alike (take 139 b) origin ∙ ap (capital Ebcdic) (get_or-take 139 b origin 0 h)

  pub type-copied : type_of Ascii (copied_body b) ≡ type_of Ebcdic b
  unfolding type_of
  type-copied =
      rw (length-copied b, front-copied 2 b (omega arith), every-alike (is_numeric Ascii) (is_numeric Ebcdic) numeric-alike (take 2 b), number-alike (take 2 b))

-- computed of the layouts: no line, and no size of a part, looks past the first 139 bytes
abbrev looks_within : Rule → Bool
looks_within DataTypeAlone = true
looks_within (Numbers low high) = true
looks_within AllDigits = true
looks_within OneOrTwoDigits = true
looks_within StandardLevel = true
looks_within CollectionType = true
looks_within BundleCollectionType = true
looks_within SourceOfWork = true
looks_within (Code list) = true
looks_within Date = true
looks_within HoursMinutes = true
looks_within HoursMinutesSeconds = true
looks_within (Routing forms) = true
looks_within (ClippingCoordinate origin) = ltb origin 139

abbrev lines_within : List Line → Bool
lines_within [] = true
lines_within (l ∷ ls) = (leb (l.first - 1 + l.size) 139 && looks_within l.rule) && lines_within ls

abbrev sizes_within : List Sized → Bool
sizes_within [] = true
sizes_within (s ∷ ss) = leb (s.first - 1 + s.size) 139 && sizes_within ss

abbrev all_within : List Layout → Bool
all_within [] = true
all_within (k ∷ ks) = (lines_within k.lines && sizes_within (sized_parts k)) && all_within ks

module _ (b : List ℕ) where
  line-copied : (l : Line) → leb (l.first - 1 + l.size) 139 && looks_within l.rule ≡ true → line_holds Ascii l (copied_body b) ≡ line_holds Ebcdic l b
  unfolding line_holds
  line-copied l e =
      let both = both_true (leb (l.first - 1 + l.size) 139) (looks_within l.rule) e in
      rw (field-copied b (l.first - 1) l.size (leb-true (l.first - 1 + l.size) 139 both.0))
      (holds-alike l.usage l.data_type l.rule (part (l.first - 1) l.size b) b (copied_body b)
      (λ origin r. capital-copied b origin (ltb-true origin 139 (ap looks_within (sym r) ∙ both.1))))

  lines_copied : (ls : List Line) → lines_within ls ≡ true → first_wrong Ascii ls (copied_body b) ≡ first_wrong Ebcdic ls b
  unfolding first_wrong
  lines_copied [] e = refl
  lines_copied (l ∷ ls) e =
      let both = both_true (leb (l.first - 1 + l.size) 139 && looks_within l.rule) (lines_within ls) e in
      rw (line-copied l both.0, lines_copied ls both.1)

  size-copied : (s : Sized) → leb (s.first - 1 + s.size) 139 ≡ true → stated_size Ascii s (copied_body b) ≡ stated_size Ebcdic s b
  size-copied s e =
      rw (field-copied b (s.first - 1) s.size (leb-true (s.first - 1 + s.size) 139 e)) (number-alike (part (s.first - 1) s.size b))

  sizes-copied : (ss : List Sized) → sizes_within ss ≡ true → stated_sizes Ascii ss (copied_body b) ≡ stated_sizes Ebcdic ss b
  unfolding stated_sizes
  sizes-copied [] e = refl
  sizes-copied (s ∷ ss) e =
      let both = both_true (leb (s.first - 1 + s.size) 139) (sizes_within ss) e in
      rw (size-copied s both.0, sizes-copied ss both.1)

  -- the parts are walked in step, however far their sizes reach
  pub apart : (s : Sized) (ss : List Sized) (rest : List ℕ)
      → (take (stated_size Ebcdic s b) (copied_parts (s ∷ ss) b rest) ≡ copied_as s.data_type (take (stated_size Ebcdic s b) rest))
      × (drop (stated_size Ebcdic s b) (copied_parts (s ∷ ss) b rest) ≡ copied_parts ss b (drop (stated_size Ebcdic s b) rest))
  unfolding copied_parts
  apart s ss rest =
      let n = stated_size Ebcdic s b in
      seam n rest (copied_as s.data_type (take n rest)) (copied_parts ss b (drop n rest))
      (length-as s.data_type (take n rest)) (length-parts ss b (drop n rest))

  parts-copied : (ss : List Sized) (rest : List ℕ) → sizes_within ss ≡ true
      → first_wrong_part Ascii ss (copied_body b) (copied_parts ss b rest) ≡ first_wrong_part Ebcdic ss b rest
  unfolding first_wrong_part
  parts-copied [] rest e = refl
  parts-copied (s ∷ ss) rest e =
      let both = both_true (leb (s.first - 1 + s.size) 139) (sizes_within ss) e in
      let n = stated_size Ebcdic s b in
      rw (
        size-copied s both.0,
        (apart s ss rest).0,
        (apart s ss rest).1,
        as-alike s.data_type (take n rest),
        parts-copied ss (drop n rest) both.1,
      )

  parts-translated : (ss : List Sized) (rest : List ℕ) → sizes_within ss ≡ true
      → first_wrong_part Ascii ss (copied_body b) (translated rest) ≡ first_wrong_part Ebcdic ss b rest
  unfolding first_wrong_part
  parts-translated [] rest e = refl
  parts-translated (s ∷ ss) rest e =
      let both = both_true (leb (s.first - 1 + s.size) 139) (sizes_within ss) e in
      let n = stated_size Ebcdic s b in
      rw (size-copied s both.0, take-translated n rest, drop-translated n rest, type-alike s.data_type (take n rest), parts-translated ss (drop n rest) both.1)

  judged-alike : (fixed : ℕ) (lines : List Line) (parts : List Sized) → lines_within lines ≡ true → sizes_within parts ≡ true
      → first_wrong_part Ascii parts (copied_body b) (drop fixed (copied_body b)) ≡ first_wrong_part Ebcdic parts b (drop fixed b)
      → judged Ascii fixed lines parts (copied_body b) ≡ judged Ebcdic fixed lines parts b
  unfolding judged
  judged-alike fixed lines parts l s p = rw (length-copied b, lines_copied lines l, sizes-copied parts s, p)

  -- a 52
  pub alone-copied : type_of Ebcdic b ≡ 52 → alone Ascii image_view_data (copied_body b) ≡ alone Ebcdic image_view_data b
  alone-copied e =
      judged-alike 139 image_view_data.lines (sized_parts image_view_data) refl refl
      (rw (halves b (eq-eqb (type_of Ebcdic b) 52 e)).1 (parts-copied (sized_parts image_view_data) (drop 139 b) refl))

  -- any other record
  among-copied : eqb (type_of Ebcdic b) 52 ≡ false → (n : ℕ) (ks : List Layout) → all_within ks ≡ true
      → among_layouts Ascii ks n (copied_body b) ≡ among_layouts Ebcdic ks n b
  among-copied other n [] e = refl
  among-copied other n (k ∷ ks) e =
      let here = both_true (lines_within k.lines && sizes_within (sized_parts k)) (all_within ks) e in
      let both = both_true (lines_within k.lines) (sizes_within (sized_parts k)) here.0 in
      let rest = ap (drop k.fixed_length) (other-copied b other) ∙ drop-translated k.fixed_length b in
      rw (
        judged-alike k.fixed_length k.lines (sized_parts k) both.0 both.1
            (rw rest (parts-translated (sized_parts k) (drop k.fixed_length b) both.1)),
        among-copied other n ks here.1,
      )

  pub judged-copied : judged_as Ascii (type_of Ebcdic b) (copied_body b) ≡ judged_as Ebcdic (type_of Ebcdic b) b
  unfolding judged_as
  judged-copied = by (eqb (type_of Ebcdic b) 52) refl
    where
      by : (t : Bool) → eqb (type_of Ebcdic b) 52 ≡ t
          → among_layouts Ascii layouts (type_of Ebcdic b) (copied_body b) ≡ among_layouts Ebcdic layouts (type_of Ebcdic b) b
      by true e = rw (eqb-true (type_of Ebcdic b) 52 e) (alone-copied (eqb-true (type_of Ebcdic b) 52 e))
      by false e = among-copied e (type_of Ebcdic b) layouts refl

  -- where the Image Data of a record stands if it is a 52, and how long it is
  size-in-copied : (n : ℕ) (ss : List Sized) → sizes_within ss ≡ true → size_in Ascii n ss (copied_body b) ≡ size_in Ebcdic n ss b
  size-in-copied n [] e = refl
  size-in-copied n (s ∷ ss) e =
      let both = both_true (leb (s.first - 1 + s.size) 139) (sizes_within ss) e in
      rw (size-copied s both.0, size-in-copied n ss both.1)

  pub image-start-copied : image_start Ascii (copied_body b) ≡ image_start Ebcdic b
  image-start-copied = ap (λ (n : ℕ). 139 + n) (sizes-copied (parts_before 27 (sized_parts image_view_data)) refl)

  pub image-size-copied : image_size Ascii (copied_body b) ≡ image_size Ebcdic b
  image-size-copied = size-in-copied 27 (sized_parts image_view_data) refl
