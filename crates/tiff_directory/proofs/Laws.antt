-- What is read at a place. Assumes nothing.
use mathlib.Core.Path.{◌≡◌, sym}
use mathlib.Core.List.{List}
use Prim.Native.Nat.{ℕ, ◌+◌, ◌≤◌}
use native.Mathlib.Nat.{add-zero}
use denote.Ref.{Bor}
use lib.ListN.{length, get_or, get_or-eq_default}
use Rattle.tiff_directory.specs.Entries.{short_at, long_at, entry_at, EntryRead}
use Rattle.tiff_directory.specs.declared.Entry.{Entry}

-- what lies past the end counts as 0
pub past : (image : List ℕ) (place : ℕ) → length image ≤ place → 0 ≡ get_or image place 0
past image place h = sym (get_or-eq_default image 0 h)

-- four numbers that are read at their places are the entry
pub entry_of : (image : List ℕ) (at tag kind count value : ℕ)
    → (tag ≡ short_at image (at + 0)) × (tag ≤ 0xFFFF)
    → (kind ≡ short_at image (at + 2)) × (kind ≤ 0xFFFF)
    → (count ≡ long_at image (at + 4)) × (count ≤ 0xFFFF_FFFF)
    → (value ≡ long_at image (at + 8)) × (value ≤ 0xFFFF_FFFF)
    → EntryRead image at (record { tag = tag; kind = kind; count = count; value = value })
unfolding entry_at
entry_of image at tag kind count value t k c v =
    record {
      is = simp (t.0, k.0, c.0, v.0, add-zero);
      tag-size = t.1;
      kind-size = k.1;
      count-size = c.1;
      value-size = v.1;
    }

-- what a reader reads at its place is what is read at an equal place
pub read_at : {s t : Bor (List ℕ)} {m n : ℕ} {e : Entry} → s ≡ t → m ≡ n → EntryRead s.now m e → EntryRead t.now n e
read_at image place read = rw (image, place) at read
