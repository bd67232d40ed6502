-- Where a part of a variable record stands, and the Image Data of a 52 (clause 22.27).
use Rattle.std.specs.Prelude.{ℕ, ◌+◌, cond, List, [], ◌∷◌, leb, eqb}
use Rattle.text.specs.declared.character_set.CharacterSet.{CharacterSet}
use Rattle.layout.specs.Layout.{Layout, Sized, sized_parts}
use Rattle.layout.specs.Layouts.{image_view_data}
use Rattle.judge.specs.Alone.{stated_size, stated_sizes}

-- the parts whose numbers are below a number
abbrev pub parts_before : ℕ → List Sized → List Sized
parts_before n [] = []
parts_before n (s ∷ ss) = cond (leb n s.number) [] (s ∷ parts_before n ss)

-- Fields after the fixed part stand one after the other, so one starts past the fixed part and all the parts before it.
abbrev pub start_of_part : CharacterSet → ℕ → Layout → List ℕ → ℕ
start_of_part set n k body = k.fixed_length + stated_sizes set (parts_before n (sized_parts k)) body

abbrev pub size_in : CharacterSet → ℕ → List Sized → List ℕ → ℕ
size_in set n [] body = 0
size_in set n (s ∷ ss) body = cond (eqb s.number n) (stated_size set s body) (size_in set n ss body)

abbrev pub size_of_part : CharacterSet → ℕ → Layout → List ℕ → ℕ
size_of_part set n k body = size_in set n (sized_parts k) body

-- field 27 of a 52: Image Data
abbrev pub image_start : CharacterSet → List ℕ → ℕ
image_start set body = start_of_part set 27 image_view_data body

abbrev pub image_size : CharacterSet → List ℕ → ℕ
image_size set body = size_of_part set 27 image_view_data body
