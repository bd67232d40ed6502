-- Table 1 of document 004, the required fields: a line for each, in the order of the tags (reading 49).
use Rattle.std.specs.Prelude.{ℕ, ◌+◌, ◌*◌, ◌%◌, Bool, not, ◌&&◌, ◌||◌, List, eqb, Result, Ok, Err}
use Rattle.frame.specs.Unless.{unless}
use Rattle.tiff_directory.specs.declared.Entry.{Entry}
use Rattle.tiff_directory.specs.Entries.{long_at}
use Rattle.tiff.specs.declared.TagFault.{TagFault}
use Rattle.tiff.specs.declared.TagFault.TheVariants.{WrongValue}
use Rattle.tiff.specs.Image.{first_with, is_number, number_in}

-- "This shall be some value other than zero"
unfoldable pub is_measure : Entry → Bool
is_measure e = is_number e && not (eqb (number_in e) 0)

-- a SHORT with count 1 and this value
unfoldable pub is_code : ℕ → Entry → Bool
is_code code e = eqb e.kind 3 && eqb e.count 1 && eqb (e.value % 0x1_0000) code

-- a RATIONAL with count 1: at its offset a numerator and a denominator, each a LONG
unfoldable pub numerator : List ℕ → Entry → ℕ
numerator image e = long_at image e.value

unfoldable pub denominator : List ℕ → Entry → ℕ
denominator image e = long_at image (e.value + 4)

-- "This shall be 200/1 or 240/1"; "If the denominator is greater than 1, the ratio shall resolve to a value of 200 or 240"
unfoldable pub is_resolution : List ℕ → Entry → Bool
is_resolution image e =
    eqb e.kind 5 && eqb e.count 1 && not (eqb (denominator image e) 0)
    && (eqb (numerator image e) (200 * denominator image e) || eqb (numerator image e) (240 * denominator image e))

-- Note 3: "XResolution and YResolution fields shall have identical values with unique offsets"
unfoldable pub is_like : List ℕ → Entry → Entry → Bool
is_like image x y =
    eqb (numerator image x * denominator image y) (numerator image y * denominator image x) && not (eqb x.value y.value)

-- an image's tags: as they should be, or what is wrong
abbrev pub Tags : Type 0
Tags = Result Unit TagFault

-- "TAGVALUE, the lowest required tag wrong or absent"
unfoldable pub required_tags : List ℕ → List Entry → Tags
required_tags image es =
    -- ImageWidth
    unless (is_measure (first_with 256 es)) (Err (WrongValue 256))
    -- ImageLength
    (unless (is_measure (first_with 257 es)) (Err (WrongValue 257))
    -- Compression: 4, Group 4 Fax
    (unless (is_code 4 (first_with 259 es)) (Err (WrongValue 259))
    -- Photometric Interpretation: 0
    (unless (is_code 0 (first_with 262 es)) (Err (WrongValue 262))
    -- StripOffsets
    (unless (is_number (first_with 273 es)) (Err (WrongValue 273))
    -- RowsPerStrip: the value of ImageLength
    (unless (is_number (first_with 278 es) && eqb (number_in (first_with 278 es)) (number_in (first_with 257 es))) (Err (WrongValue 278))
    -- StripByteCounts
    (unless (is_number (first_with 279 es)) (Err (WrongValue 279))
    -- XResolution
    (unless (is_resolution image (first_with 282 es)) (Err (WrongValue 282))
    -- YResolution
    (unless (is_resolution image (first_with 283 es) && is_like image (first_with 282 es) (first_with 283 es)) (Err (WrongValue 283)) (Ok tt)))))))))
