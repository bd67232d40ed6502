-- What is asked of an image as a whole (request 13, readings 48 and 50): its header, its first directory, everything inside it, and the order of the
-- tags. Offsets and counts are whole numbers.
use Rattle.std.specs.Prelude.{◌≡◌, ℕ, ◌+◌, ◌*◌, ◌%◌, min, Bool, true, cond, not, ◌&&◌, ◌||◌, List, [], ◌∷◌, leb, ltb, eqb, length, get_or}
use Rattle.tiff_directory.specs.declared.Entry.{Entry}
use Rattle.tiff_directory.specs.Entries.{short_at, long_at, entries_from}

-- "TIFF files begin with an 8-byte image file header": the mark 49 49 (clause 9.3), the number 42, where the first directory stands.
unfoldable pub is_marked : List ℕ → Bool
is_marked image = eqb (get_or image 0 0) 0x49 && eqb (get_or image 1 0) 0x49 && eqb (short_at image 2) 42

-- the first directory: how many entries it has, then they, and then the four bytes of the next offset
unfoldable pub directory_start : List ℕ → ℕ
directory_start image = long_at image 4

unfoldable pub entry_count : List ℕ → ℕ
entry_count image = short_at image (directory_start image)

unfoldable pub entries_of : List ℕ → List Entry
entries_of image = entries_from image (entry_count image) (directory_start image + 2)

unfoldable pub directory_inside : List ℕ → Bool
directory_inside image = leb (directory_start image + 2 + 12 * entry_count image + 4) (length image)

-- the first directory of an image, which lies within: where its entries stand, and how many they are
pub record IsFirst (image seen : List ℕ) (first count : ℕ) : Type 0 where
  pub inside : directory_inside image ≡ true
  pub same : seen ≡ image
  pub first-is : first ≡ directory_start image + 2
  pub count-is : count ≡ entry_count image

-- The bytes of a number of each type of TIFF 6.0, from 1 on: BYTE, ASCII, SHORT, LONG, RATIONAL, SBYTE, UNDEFINED, SSHORT, SLONG, SRATIONAL,
-- FLOAT, DOUBLE. Of any other type 0, so that its value is never looked for.
unfoldable pub type_size : ℕ → ℕ
type_size kind = get_or (0 ∷ 1 ∷ 1 ∷ 2 ∷ 4 ∷ 8 ∷ 1 ∷ 1 ∷ 2 ∷ 4 ∷ 8 ∷ 4 ∷ 8 ∷ []) kind 0

-- "the Value Offset shall contain the Value .. if and only if the Value fits into 4-bytes"; a longer one lies wholly within the image
unfoldable pub value_inside : List ℕ → Entry → Bool
value_inside image e = leb (e.count * type_size e.kind) 4 || leb (e.value + e.count * type_size e.kind) (length image)

abbrev pub values_inside : List ℕ → List Entry → Bool
values_inside image [] = true
values_inside image (e ∷ es) = value_inside image e && values_inside image es

-- of two entries with one tag the first counts (reading 49); where there is none, an entry of no type, of which no rule holds
abbrev pub absent : Entry
absent = record { tag = 0; kind = 0; count = 0; value = 0 }

abbrev pub first_with : ℕ → List Entry → Entry
first_with tag [] = absent
first_with tag (e ∷ es) = cond (eqb e.tag tag) e (first_with tag es)

-- SHORT or LONG, count 1, and the number in it: "A SHORT stands in the first two of the four value bytes"
unfoldable pub is_number : Entry → Bool
is_number e = (eqb e.kind 3 || eqb e.kind 4) && eqb e.count 1

unfoldable pub number_in : Entry → ℕ
number_in e = cond (eqb e.kind 3) (e.value % 0x1_0000) e.value

-- the strip, where StripOffsets and StripByteCounts each are one number
unfoldable pub strip_inside : List ℕ → List Entry → Bool
strip_inside image es =
    not (is_number (first_with 273 es) && is_number (first_with 279 es))
    || leb (number_in (first_with 273 es) + number_in (first_with 279 es)) (length image)

-- "CUT, 0, for anything outside the image"
unfoldable pub is_inside : List ℕ → Bool
is_inside image = directory_inside image && values_inside image (entries_of image) && strip_inside image (entries_of image)

-- "All entries in an IFD .. shall be sorted in ascending order by Tag": the tags that are not above the one before them
abbrev pub not_above : ℕ → List Entry → List ℕ
not_above before [] = []
not_above before (e ∷ es) = cond (ltb before e.tag) (not_above e.tag es) (e.tag ∷ not_above e.tag es)

abbrev pub disordered : List Entry → List ℕ
disordered [] = []
disordered (e ∷ es) = not_above e.tag es

-- the lowest of some tags; 65,536, which is no tag, where there is none
abbrev pub lowest : List ℕ → ℕ
lowest [] = 0x1_0000
lowest (tag ∷ tags) = min tag (lowest tags)
