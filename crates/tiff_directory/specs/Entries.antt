-- Numbers in an image, and the entries of a directory (document 004, clauses 6 and 9.3).
use Rattle.std.specs.Prelude.{ℕ, suc, zero, ◌+◌, ◌*◌, ◌≤◌, List, [], ◌∷◌, ◌≡◌, get_or}
use Rattle.tiff_directory.specs.declared.Entry.{Entry}

-- Clause 9.3: "byte order is always from the least significant byte to the most significant byte". A SHORT has two bytes, a LONG four. What lies
-- past the end counts as 0.
unfoldable pub short_at : List ℕ → ℕ → ℕ
short_at image at = get_or image at 0 + get_or image (at + 1) 0 * 0x100

unfoldable pub long_at : List ℕ → ℕ → ℕ
long_at image at = short_at image at + short_at image (at + 2) * 0x1_0000

-- An entry of twelve bytes (clause 6): the tag, the type, the count, and four bytes that hold the value or its offset.
unfoldable pub entry_at : List ℕ → ℕ → Entry
entry_at image at =
    record { tag = short_at image at; kind = short_at image (at + 2); count = long_at image (at + 4); value = long_at image (at + 8) }

-- entries one behind the other, so many from a place on
abbrev pub entries_from : List ℕ → ℕ → ℕ → List Entry
entries_from image zero at = []
entries_from image (suc n) at = entry_at image at ∷ entries_from image n (at + 12)

-- What is read at a place: the entry there, whose numbers have two and four bytes.
pub record EntryRead (image : List ℕ) (at : ℕ) (e : Entry) : Type 0 where
  pub is : e ≡ entry_at image at
  pub tag-size : e.tag ≤ 0xFFFF
  pub kind-size : e.kind ≤ 0xFFFF
  pub count-size : e.count ≤ 0xFFFF_FFFF
  pub value-size : e.value ≤ 0xFFFF_FFFF
