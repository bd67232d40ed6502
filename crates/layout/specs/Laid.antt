-- The layouts agree with themselves: one test, computed over all of them.
use Rattle.std.specs.Prelude.{ℕ, ◌+◌, Bool, true, ◌&&◌, List, [], ◌∷◌, ◌≡◌, refl, leb, eqb, length}
use Rattle.layout.specs.Layout.{Line, Part, Layout}
use Rattle.layout.specs.Layouts.{layouts}

-- Fields numbered from n on lie end to end from a position on, each from its first through its last position, which are as many
-- as its size; the last of them ends at the fixed length.
abbrev pub end_to_end : ℕ → ℕ → ℕ → List Line → Bool
end_to_end n from fixed_length [] = eqb from (fixed_length + 1)
end_to_end n from fixed_length (l ∷ ls) =
    eqb l.number n
    && (eqb l.first from && (eqb (l.last + 1) (l.first + l.size) && end_to_end (n + 1) (l.last + 1) fixed_length ls))

-- Parts are numbered on from there, and each is sized by a field of the fixed part.
abbrev pub numbered_on : ℕ → ℕ → List Part → Bool
numbered_on n fixed_fields [] = true
numbered_on n fixed_fields (p ∷ ps) =
    eqb p.number n && (leb 1 p.sized_by && (leb p.sized_by fixed_fields && numbered_on (n + 1) fixed_fields ps))

-- The fields lie end to end from position 1 to the fixed length, and there are as many as the layout counts.
abbrev pub laid_out : Layout → Bool
laid_out k =
    end_to_end 1 1 k.fixed_length k.lines
    && (numbered_on (length k.lines + 1) (length k.lines) k.parts && eqb (length k.lines + length k.parts) k.field_count)

abbrev pub all_laid_out : List Layout → Bool
all_laid_out [] = true
all_laid_out (k ∷ ks) = laid_out k && all_laid_out ks

-- every kind is laid out so
pub layouts-are-laid-out : all_laid_out layouts ≡ true
layouts-are-laid-out = refl

-- how many kinds there are, and how many fields they have together
pub kinds-in-all : length layouts ≡ 19
kinds-in-all = refl

abbrev pub fields_of : List Layout → ℕ
fields_of [] = 0
fields_of (k ∷ ks) = k.field_count + fields_of ks

pub fields-in-all : fields_of layouts ≡ 303
fields-in-all = refl
