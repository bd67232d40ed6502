-- The entries from a place on, one step at a time, and what a step does to each question about them. Assumes nothing.
use mathlib.Core.Path.{◌≡◌, refl, ap, sym, ◌∙◌}
use mathlib.Core.Bool.{Bool, true, false, cond, ◌&&◌}
use mathlib.Core.List.{List, [], ◌∷◌}
use Prim.Native.Nat.{ℕ, zero, suc, ◌+◌, ◌-◌, ◌*◌, ◌≤◌, ◌<◌, min, max}
use native.Mathlib.Omega.{arith}
use Rattle.std.specs.Prelude.{Ok, Err}
use Rattle.frame.specs.Unless.{unless}
use Rattle.tiff.specs.declared.TagFault.{TagFault}
use Rattle.tiff.specs.declared.TagFault.TheVariants.{WrongValue}
use Rattle.tiff.specs.Required.{Tags}
use lib.Dec.{ltb}
use lib.ListN.{length, get_or, get_or-eq_default}
use borrow.Author.Tests.{leb-true, eq-eqb, ne_eqb}
use Rattle.tiff_directory.specs.declared.Entry.{Entry}
use Rattle.tiff_directory.specs.Entries.{short_at, long_at, entry_at, entries_from, EntryRead}
use Rattle.tiff.specs.Image.{type_size, value_inside, values_inside, first_with, absent, directory_start, entry_count, directory_inside, is_inside, entries_of, strip_inside, IsFirst, not_above, disordered, lowest}

-- no number of a table is above its greatest
abbrev greatest : List ℕ → ℕ
greatest [] = 0
greatest (x ∷ xs) = max x (greatest xs)

at_most : (xs : List ℕ) (k : ℕ) → get_or xs k 0 ≤ greatest xs
at_most [] k = omega arith
at_most (x ∷ xs) zero = omega arith
at_most (x ∷ xs) (suc k) = let h = at_most xs k in omega arith

-- the sizes of the types: 8 at most, and none for a type that is not known
abbrev sizes : List ℕ
sizes = 0 ∷ 1 ∷ 1 ∷ 2 ∷ 4 ∷ 8 ∷ 1 ∷ 1 ∷ 2 ∷ 4 ∷ 8 ∷ 4 ∷ 8 ∷ []

pub size_small : (kind : ℕ) → type_size kind ≤ 8
unfolding type_size
size_small = at_most sizes

pub size-unknown : (kind : ℕ) → 13 ≤ kind → type_size kind ≡ 0
unfolding type_size
size-unknown kind h = get_or-eq_default sizes 0 h

-- a directory that is not within the image, and one that is
pub not-inside : (image : List ℕ) → directory_inside image ≡ false → is_inside image ≡ false
unfolding is_inside
not-inside image e = rw e

module _ {image seen : List ℕ} {first count : ℕ} (is : IsFirst image seen first count) where
  pub first-entries : entries_from seen count first ≡ entries_of image
  unfolding entries_of
  first-entries = rw (is.same, is.first-is, is.count-is)

  pub inside-is : values_inside seen (entries_from seen count first) && strip_inside seen (entries_from seen count first) ≡ is_inside image
  unfolding is_inside
  inside-is = rw (first-entries, is.same, is.inside)

-- where all lies within the image, the directory does
pub directory-within : (image : List ℕ) (start count : ℕ) → start ≡ long_at image 4 → count ≡ short_at image start → is_inside image ≡ true
    → start + 2 + 12 * count + 4 ≤ length image
unfolding is_inside directory_inside directory_start entry_count
directory-within image start count at many e = rw (many, at) (leb-true _ _ (first_of _ _ _ e))
  where
    first_of : (a b c : Bool) → a && b && c ≡ true → a ≡ true
    first_of true b c e = refl
    first_of false b c e = e

module _ (image : List ℕ) (at : ℕ) where
  entries_none : (left : ℕ) → left ≤ 0 → entries_from image left at ≡ []
  entries_none zero h = refl
  entries_none (suc n) h = absurd (omega arith)

  entries-on : (left : ℕ) → 0 < left → entries_from image left at ≡ entry_at image at ∷ entries_from image (left - 1) (at + 12)
  entries-on zero h = absurd (omega arith)
  entries-on (suc n) h = let e : n ≡ suc n - 1 = omega arith in ap (λ (m : ℕ). entry_at image at ∷ entries_from image m (at + 12)) e

-- no entry is left
module _ (image : List ℕ) (at left : ℕ) (none : left ≤ 0) where
  pub values-none : values_inside image (entries_from image left at) ≡ true
  values-none = ap (values_inside image) (entries_none image at left none)

  pub first-none : (tag : ℕ) → first_with tag (entries_from image left at) ≡ absent
  first-none tag = ap (first_with tag) (entries_none image at left none)

-- the entry at a place, and those behind it
module _ (image : List ℕ) (at left : ℕ) (more : 0 < left) (e : Entry) (read : EntryRead image at e) where
  entry-on : entries_from image left at ≡ e ∷ entries_from image (left - 1) (at + 12)
  entry-on = entries-on image at left more ∙ ap (λ (x : Entry). x ∷ entries_from image (left - 1) (at + 12)) (sym read.is)

  pub values-out : value_inside image e ≡ false → values_inside image (entries_from image left at) ≡ false
  values-out outside = rw (entry-on, outside)

  pub values-on : value_inside image e ≡ true → values_inside image (entries_from image (left - 1) (at + 12)) ≡ values_inside image (entries_from image left at)
  values-on inside = rw (entry-on, inside)

  pub first-here : (tag : ℕ) → e.tag ≡ tag → first_with tag (entries_from image left at) ≡ e
  first-here tag same = rw (entry-on, eq-eqb _ _ same)

  pub first_on : (tag : ℕ) → (e.tag ≡ tag → ⊥) → first_with tag (entries_from image (left - 1) (at + 12)) ≡ first_with tag (entries_from image left at)
  first_on tag other = rw (entry-on, ne_eqb _ _ other)

-- the lowest tag so far, with the lowest of those that are left
abbrev pub lowest_left : List ℕ → ℕ → ℕ → ℕ → ℕ
lowest_left image low left at = min low (lowest (disordered (entries_from image left at)))

pub lowest-all : (tags : List ℕ) → min 0x1_0000 (lowest tags) ≡ lowest tags
lowest-all tags = let h = most tags in omega arith
  where
    most : (tags : List ℕ) → lowest tags ≤ 0x1_0000
    most [] = omega arith
    most (tag ∷ tags) = let h = most tags in omega arith

-- one entry has none before it
pub lowest-none : (image : List ℕ) (low at left : ℕ) → left ≤ 1 → low ≤ 0x1_0000 → lowest_left image low left at ≡ low
lowest-none image low at zero h small = omega arith
lowest-none image low at (suc zero) h small = omega arith
lowest-none image low at (suc (suc n)) h small = absurd (omega arith)

-- one more pair of neighbours: no tag is above 65,536, and the second tag comes in where it is not above the first
pub low_small : (above : Bool) (low tag : ℕ) → low ≤ 0x1_0000 → cond above low (min low tag) ≤ 0x1_0000
low_small true low tag h = h
low_small false low tag h = omega arith

pub lowest_step : (image : List ℕ) (low at left : ℕ) → 1 < left → (before e : Entry) → EntryRead image at before → EntryRead image (at + 12) e
    → lowest_left image (cond (ltb before.tag e.tag) low (min low e.tag)) (left - 1) (at + 12) ≡ lowest_left image low left at
lowest_step image low at left more before e read next =
    rw (entry-on image at left (omega arith) before read, entry-on image (at + 12) (left - 1) (omega arith) e next)
    (cases (ltb before.tag e.tag) (not_above e.tag (entries_from image (left - 1 - 1) (at + 12 + 12))))
  where
    cases : (above : Bool) (tags : List ℕ) → min (cond above low (min low e.tag)) (lowest tags) ≡ min low (lowest (cond above tags (e.tag ∷ tags)))
    cases true tags = refl
    cases false tags = omega arith

-- what `required` said of one tag after the other: a tag that is right passes, and at the first that is not it ends
pub passes : (b : Bool) (tag : ℕ) (next : Tags) {said answer : Tags} {u : Unit {0}}
    → said ≡ unless b (Err (WrongValue tag)) (Ok tt) → said ≡ Ok u → answer ≡ next → answer ≡ unless b (Err (WrongValue tag)) next
passes true tag next e right rest = rest
passes false tag next e right rest = absurd (cc (sym e ∙ right))

pub stops : (b : Bool) (tag : ℕ) (next : Tags) {said answer : Tags} {fail : TagFault}
    → said ≡ unless b (Err (WrongValue tag)) (Ok tt) → said ≡ Err fail → answer ≡ said → answer ≡ unless b (Err (WrongValue tag)) next
stops true tag next e wrong rest = absurd (cc (sym e ∙ wrong))
stops false tag next e wrong rest = rest ∙ e
