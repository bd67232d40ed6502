-- The answer to one image, in request 13's order: "CUT, 0, below 8 bytes; TAGVALUE (19), 0, for a wrong mark or number; CUT, 0, for anything outside
-- the image; TAGORDER (18), the lowest tag not above the one before it; TAGVALUE, the lowest required tag wrong or absent".
use Rattle.std.specs.Prelude.{ℕ, List, leb, length, Ok, Err}
use Rattle.frame.specs.Unless.{unless}
use Rattle.tiff.specs.declared.TagFault.TheVariants.{Cut, WrongOrder, WrongValue}
use Rattle.tiff.specs.Image.{is_marked, is_inside, entries_of, disordered, lowest}
use Rattle.tiff.specs.Required.{Tags, required_tags}

-- the number of each answer, and its tag
abbrev pub number_of : Tags → ℕ
number_of (Ok right) = 0
number_of (Err Cut) = 3
number_of (Err (WrongOrder tag)) = 18
number_of (Err (WrongValue tag)) = 19

abbrev pub tag_of : Tags → ℕ
tag_of (Ok right) = 0
tag_of (Err Cut) = 0
tag_of (Err (WrongOrder tag)) = tag
tag_of (Err (WrongValue tag)) = tag

unfoldable pub tags_of : List ℕ → Tags
tags_of image =
    unless (leb 8 (length image)) (Err Cut)
    (unless (is_marked image) (Err (WrongValue 0))
    (unless (is_inside image) (Err Cut)
    (unless (leb 0x1_0000 (lowest (disordered (entries_of image)))) (Err (WrongOrder (lowest (disordered (entries_of image)))))
    (required_tags image (entries_of image)))))
