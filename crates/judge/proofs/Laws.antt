-- A line, a part, and one turn of each loop, on plain values. Assumes nothing.
use mathlib.Core.Path.{◌≡◌, refl, ap, sym, ◌∙◌}
use mathlib.Core.Bool.{Bool, true, false, ◌&&◌, ◌||◌, not}
use mathlib.Core.List.{List, [], ◌∷◌}
use Prim.Native.Nat.{ℕ, zero, suc, ◌+◌, ◌-◌, ◌/◌, ◌%◌, ◌≤◌, ◌<◌, min}
use native.Mathlib.Nat.{zero-add, suc-add, zero-min, suc-min-suc, not-suc-le-zero, le_of_suc-le-suc}
use native.Mathlib.Omega.{arith}
use borrow.Author.Tests.{ne_eqb, eqb-true, leb-true, le-leb, lt-leb}
use lib.Dec.{leb, ltb, eqb, leb-zero, leb-suc-zero, leb-suc-suc, eqb-suc-zero, eqb-suc-suc}
use lib.ListN.{length, get_or, take, drop, drop_of_length-le}
use lib.Seq.{drop-drop, drop-nil}
use Rattle.text.specs.declared.character_set.CharacterSet.{CharacterSet}
use Rattle.text.specs.declared.data_types.DataType.{DataType}
use Rattle.text.specs.DataTypes.{every, of_type, some, is_mark}
use Rattle.text.proofs.Laws.{rest}
use Rattle.field.specs.declared.Usage.{Usage}
use Rattle.field.specs.declared.Usage.TheVariants.{Mandatory, Conditional}
use Rattle.field.specs.declared.Rule.{Rule}
use Rattle.field.specs.Rules.{follows, meets, left_blank, holds}
use Rattle.layout.specs.Layout.{Sized, sized_parts, Line}
use Rattle.judge.specs.Alone.{line_holds, first_wrong, stated_size, stated_sizes, first_wrong_part, is_variable, judged, alone, unless_field}
use Rattle.layout.specs.Layouts.{image_view_data}
use Rattle.judge.specs.Image.{image_start, image_size}
use Rattle.judge.specs.Alone.{Judged}
use Rattle.judge.specs.Alone.{Sound, WrongLength, WrongField}
use Rattle.layout.specs.Packing.{line_of, lines_from, lies_within, sized_of, sized_from}
use Rattle.layout.specs.Fault.{as_field}
use Rattle.layout.proofs.Fault.{faultless, faulted}
use Rattle.std.proofs.Common.{None, Some}
use Rattle.frame.specs.Unless.{unless}

pub both_true : (a b : Bool) → a && b ≡ true → (a ≡ true) × (b ≡ true)
both_true true b e = (refl, e)
both_true false b e = (e, cc)

pub lies : (n packed : ℕ) → lies_within n packed ≡ true → packed / 0x1_0000_0000_0000 - 1 + packed / 0x100_0000_0000 % 0x100 ≤ n
lies n packed e = leb-true (packed / 0x1_0000_0000_0000 - 1 + packed / 0x100_0000_0000 % 0x100) n e

-- lines that lie within a fixed part lie within what is longer, each of them
pub line-within : (lines : List ℕ) (n i : ℕ) → every (lies_within n) lines ≡ true → i < length lines → lies_within n (get_or lines i 0) ≡ true
line-within [] n i e h = absurd (not-suc-le-zero h)
line-within (p ∷ ps) n zero e h = (both_true (lies_within n p) (every (lies_within n) ps) e).0
line-within (p ∷ ps) n (suc i) e h = line-within ps n i (both_true (lies_within n p) (every (lies_within n) ps) e).1 (le_of_suc-le-suc h)

pub within-longer : (lines : List ℕ) (n m : ℕ) → n ≤ m → every (lies_within n) lines ≡ true → every (lies_within m) lines ≡ true
within-longer [] n m h e = refl
within-longer (p ∷ ps) n m h e =
    let both = both_true (lies_within n p) (every (lies_within n) ps) e in
    let at_most = lies n p both.0 in
    rw (le-leb (p / 0x1_0000_0000_0000 - 1 + p / 0x100_0000_0000 % 0x100) m (omega arith)) (within-longer ps n m h both.1)

-- the checks of a field, as far as they go
module _ (set : CharacterSet) (usage : Usage) (t : DataType) (rule : Rule) (part body : List ℕ) where
  pub blank-holds : left_blank set usage part ≡ true → holds set usage t rule part body ≡ true
  unfolding holds
  blank-holds = passed usage
    where
      passed : (u : Usage) → left_blank set u part ≡ true → holds set u t rule part body ≡ true
      passed Mandatory b = cc
      passed Conditional b = rw b

  filled : left_blank set usage part ≡ false → holds set usage t rule part body ≡ of_type set t part && (follows set rule part body || some (is_mark set t) part)
  unfolding holds meets
  filled = judged-by usage
    where
      judged-by : (u : Usage) → left_blank set u part ≡ false → holds set u t rule part body ≡ of_type set t part && (follows set rule part body || some (is_mark set t) part)
      judged-by Mandatory b = refl
      judged-by Conditional b = rw b

  pub other-type-fails : left_blank set usage part ≡ false → of_type set t part ≡ false → holds set usage t rule part body ≡ false
  other-type-fails b o = filled b ∙ rw o

  pub rule-decides : left_blank set usage part ≡ false → of_type set t part ≡ true → holds set usage t rule part body ≡ follows set rule part body || some (is_mark set t) part
  rule-decides b o = filled b ∙ rw o

module _ (set : CharacterSet) (lines : List ℕ) (body : List ℕ) (n i : ℕ) where
  pub wrong-here : i < length lines → line_holds set (line_of n (get_or lines i 0)) body ≡ false → first_wrong set (lines_from n (drop i lines)) body ≡ n
  unfolding first_wrong
  wrong-here h e = rw (rest lines i h, e)

  pub wrong-later : i < length lines → line_holds set (line_of n (get_or lines i 0)) body ≡ true
      → first_wrong set (lines_from n (drop i lines)) body ≡ first_wrong set (lines_from (n + 1) (drop (i + 1) lines)) body
  unfolding first_wrong
  wrong-later h e = rw (rest lines i h, e)

  pub wrong-none : length lines ≤ i → first_wrong set (lines_from n (drop i lines)) body ≡ 0
  unfolding first_wrong
  wrong-none h = rw (drop_of_length-le lines h)

-- stated sizes do not hang on how the parts are numbered
pub renumbered : (set : CharacterSet) (m n : ℕ) (parts body : List ℕ) → stated_sizes set (sized_from m parts) body ≡ stated_sizes set (sized_from n parts) body
unfolding stated_sizes
renumbered set m n [] body = refl
renumbered set m n (p ∷ ps) body = ap (λ (k : ℕ). stated_size set (sized_of n p) body + k) (renumbered set (m + 1) (n + 1) ps body)

-- what is left after a size that fits
eqb-after : (s d m : ℕ) → eqb (s + d) (s + m) ≡ eqb d m
eqb-after zero d m = rw (zero-add d, zero-add m)
eqb-after (suc s) d m = rw (suc-add s d, suc-add s m) (eqb-suc-suc (s + d) (s + m) ∙ eqb-after s d m)

pub eqb-sub : (r s m : ℕ) → s ≤ r → eqb r (s + m) ≡ eqb (r - s) m
eqb-sub r s m h = ap (λ (k : ℕ). eqb k (s + m)) (let e : r ≡ s + (r - s) = omega arith in e) ∙ eqb-after s (r - s) m

module _ (set : CharacterSet) (parts : List ℕ) (body : List ℕ) (n i : ℕ) where
  pub sizes-more : i < length parts
      → stated_sizes set (sized_from n (drop i parts)) body ≡ stated_size set (sized_of n (get_or parts i 0)) body + stated_sizes set (sized_from n (drop (i + 1) parts)) body
  unfolding stated_sizes
  sizes-more h = rw (rest parts i h) (ap (λ (k : ℕ). stated_size set (sized_of n (get_or parts i 0)) body + k) (renumbered set (n + 1) n (drop (i + 1) parts) body))

  pub sizes-none : length parts ≤ i → stated_sizes set (sized_from n (drop i parts)) body ≡ 0
  unfolding stated_sizes
  sizes-none h = rw (drop_of_length-le parts h)

  module _ (after : List ℕ) where
    pub part-wrong : i < length parts → of_type set (sized_of n (get_or parts i 0)).data_type (take (stated_size set (sized_of n (get_or parts i 0)) body) after) ≡ false
        → first_wrong_part set (sized_from n (drop i parts)) body after ≡ n
    unfolding first_wrong_part
    part-wrong h e = rw (rest parts i h, e)

    pub part_right : i < length parts → of_type set (sized_of n (get_or parts i 0)).data_type (take (stated_size set (sized_of n (get_or parts i 0)) body) after) ≡ true
        → first_wrong_part set (sized_from n (drop i parts)) body after
        ≡ first_wrong_part set (sized_from (n + 1) (drop (i + 1) parts)) body (drop (stated_size set (sized_of n (get_or parts i 0)) body) after)
    unfolding first_wrong_part
    part_right h e = rw (rest parts i h, e)

    pub part_none : length parts ≤ i → first_wrong_part set (sized_from n (drop i parts)) body after ≡ 0
    unfolding first_wrong_part
    part_none h = rw (drop_of_length-le parts h)

no-further : (xs : List ℕ) (n : ℕ) → drop n xs ≡ drop (min n (length xs)) xs
no-further [] n = drop-nil n ∙ sym (drop-nil (min n 0))
no-further (x ∷ xs) zero = ap (λ (k : ℕ). drop k (x ∷ xs)) (sym (zero-min (suc (length xs))))
no-further (x ∷ xs) (suc n) = no-further xs n ∙ ap (λ (k : ℕ). drop k (x ∷ xs)) (sym (suc-min-suc n (length xs)))

-- what stands past a part, however far the part reaches
pub past-part : (body : List ℕ) (at size : ℕ) → drop size (drop at body) ≡ drop (min (at + size) (length body)) body
past-part body at size = drop-drop size at body ∙ no-further body (at + size)

flip : (m f : ℕ) → leb m f ≡ not (ltb f m)
flip zero f = leb-zero f ∙ sym (ap not (leb-suc-zero f))
flip (suc m) zero = leb-suc-zero m ∙ sym (ap not (leb-suc-suc zero m ∙ leb-zero m))
flip (suc m) (suc f) = leb-suc-suc m f ∙ flip m f ∙ sym (ap not (leb-suc-suc (suc f) m))

-- a record without parts is no longer than its fixed part
pub length-allowed : (parts : List ℕ) (n m fixed : ℕ) → is_variable (sized_from n parts) || leb m fixed ≡ not (eqb (length parts) 0 && ltb fixed m)
length-allowed [] n m fixed = flip m fixed
length-allowed (p ∷ ps) n m fixed = sym (ap (λ (b : Bool). not (b && ltb fixed m)) (eqb-suc-zero (length ps)))

-- a field at fault is the answer, and with none it is what is asked next
field-wrong : (n m : ℕ) (next : Judged) → as_field n ≡ Some m → WrongField m ≡ unless_field n next
field-wrong n m next e =
    let f = faulted n m e in
    rw (ne_eqb n 0 (λ z. omega arith), f.0)

field-right : (n : ℕ) (next : Judged) → as_field n ≡ None → unless_field n next ≡ next
field-right n next e = rw (faultless n e)

-- the checks of a record, each with what the code found
module _ (set : CharacterSet) (fixed : ℕ) (lines parts body : List ℕ) where
  pub too-short : length body < fixed → WrongLength ≡ judged set fixed (lines_from 1 lines) (sized_from (length lines + 1) parts) body
  unfolding judged
  too-short h = simp (lt-leb _ _ h)

  module _ (long : fixed ≤ length body) where
    pub too-long : eqb (length parts) 0 && ltb fixed (length body) ≡ true → WrongLength ≡ judged set fixed (lines_from 1 lines) (sized_from (length lines + 1) parts) body
    unfolding judged
    too-long e = simp (le-leb fixed (length body) long, length-allowed parts (length lines + 1) (length body) fixed ∙ ap not e)

    module _ (short : eqb (length parts) 0 && ltb fixed (length body) ≡ false) where
      to-lines : judged set fixed (lines_from 1 lines) (sized_from (length lines + 1) parts) body
          ≡ unless_field (first_wrong set (lines_from 1 lines) body)
          (unless (eqb (length body) (fixed + stated_sizes set (sized_from (length lines + 1) parts) body)) WrongLength
          (unless_field (first_wrong_part set (sized_from (length lines + 1) parts) body (drop fixed body)) Sound))
      unfolding judged
      to-lines = simp (le-leb fixed (length body) long, length-allowed parts (length lines + 1) (length body) fixed ∙ ap not short)

      pub wrong-line : (n : ℕ) → as_field (first_wrong set (lines_from 1 lines) body) ≡ Some n
          → WrongField n ≡ judged set fixed (lines_from 1 lines) (sized_from (length lines + 1) parts) body
      wrong-line n e = field-wrong (first_wrong set (lines_from 1 lines) body) n _ e ∙ sym to-lines

      module _ (right : as_field (first_wrong set (lines_from 1 lines) body) ≡ None) where
        to-sizes : judged set fixed (lines_from 1 lines) (sized_from (length lines + 1) parts) body
            ≡ unless (eqb (length body - fixed) (stated_sizes set (sized_from (length lines + 1) parts) body)) WrongLength
            (unless_field (first_wrong_part set (sized_from (length lines + 1) parts) body (drop fixed body)) Sound)
        to-sizes =
            to-lines
            ∙ field-right (first_wrong set (lines_from 1 lines) body) _ right
            ∙ rw (eqb-sub (length body) fixed (stated_sizes set (sized_from (length lines + 1) parts) body) long)

        pub wrong-sizes : eqb (length body - fixed) (stated_sizes set (sized_from (length lines + 1) parts) body) ≡ false
            → WrongLength ≡ judged set fixed (lines_from 1 lines) (sized_from (length lines + 1) parts) body
        wrong-sizes e = sym (to-sizes ∙ rw e)

        module _ (filled-up : eqb (length body - fixed) (stated_sizes set (sized_from (length lines + 1) parts) body) ≡ true) where
          to-parts : judged set fixed (lines_from 1 lines) (sized_from (length lines + 1) parts) body
              ≡ unless_field (first_wrong_part set (sized_from (length lines + 1) parts) body (drop fixed body)) Sound
          to-parts = to-sizes ∙ rw filled-up

          pub wrong-part : (n : ℕ) → as_field (first_wrong_part set (sized_from (length lines + 1) parts) body (drop fixed body)) ≡ Some n
              → WrongField n ≡ judged set fixed (lines_from 1 lines) (sized_from (length lines + 1) parts) body
          wrong-part n e = field-wrong (first_wrong_part set (sized_from (length lines + 1) parts) body (drop fixed body)) n Sound e ∙ sym to-parts

          pub nothing-wrong : as_field (first_wrong_part set (sized_from (length lines + 1) parts) body (drop fixed body)) ≡ None
              → Sound ≡ judged set fixed (lines_from 1 lines) (sized_from (length lines + 1) parts) body
          nothing-wrong e = sym (to-parts ∙ field-right (first_wrong_part set (sized_from (length lines + 1) parts) body (drop fixed body)) Sound e)

-- the sizes of one part more
pub sizes-suc : (set : CharacterSet) (parts body : List ℕ) (n i : ℕ) → i < length parts
    → stated_sizes set (sized_from n (take (i + 1) parts)) body ≡ stated_sizes set (sized_from n (take i parts)) body + stated_size set (sized_of n (get_or parts i 0)) body
unfolding stated_sizes
sizes-suc set [] body n i h = absurd (not-suc-le-zero h)
sizes-suc set (p ∷ ps) body n zero h = omega arith
sizes-suc set (p ∷ ps) body n (suc i) h = rw (suc-add i 1) (omega (arith, sizes-suc set ps body (n + 1) i (le_of_suc-le-suc h)))

-- and never more than those of all
pub sizes-within : (set : CharacterSet) (parts body : List ℕ) (n i : ℕ) → stated_sizes set (sized_from n (take i parts)) body ≤ stated_sizes set (sized_from n parts) body
unfolding stated_sizes
sizes-within set [] body n zero = omega arith
sizes-within set [] body n (suc i) = omega arith
sizes-within set (p ∷ ps) body n zero = omega arith
sizes-within set (p ∷ ps) body n (suc i) = omega (arith, sizes-within set ps body (n + 1) i)

pub length-not-sound : WrongLength ≡ Sound → ⊥
length-not-sound q = let z : ◌≡◌ {A = ℕ} 0 1 = cc in omega arith

pub field-not-sound : (n : ℕ) → WrongField n ≡ Sound → ⊥
field-not-sound n q = let z : ◌≡◌ {A = ℕ} 0 1 = cc in omega arith

pub kept : (t : Bool) {a j : Judged} → (a ≡ Sound → ⊥) → unless t a j ≡ Sound → (t ≡ true) × (j ≡ Sound)
kept true differs e = (refl, e)
kept false differs e = absurd (differs e)

-- a sound record is as long as its fixed part and its stated sizes
pub sound-fills : (set : CharacterSet) (fixed : ℕ) (lines : List Line) (parts : List Sized) (body : List ℕ) → judged set fixed lines parts body ≡ Sound
    → length body ≡ fixed + stated_sizes set parts body
unfolding judged
sound-fills set fixed lines parts body e =
    let long = kept (leb fixed (length body)) length-not-sound e in
    let short = kept (is_variable parts || leb (length body) fixed) length-not-sound long.1 in
    let field = kept (eqb (first_wrong set lines body) 0) (field-not-sound (first_wrong set lines body)) short.1 in
    let fills = kept (eqb (length body) (fixed + stated_sizes set parts body)) length-not-sound field.1 in
    eqb-true (length body) (fixed + stated_sizes set parts body) fills.0

-- the Image Data of a sound 52 lies within its body
pub image-within : (set : CharacterSet) (body : List ℕ) → alone set image_view_data body ≡ Sound → image_start set body + image_size set body ≤ length body
unfolding stated_sizes
image-within set body e = omega (arith, sound-fills set 139 image_view_data.lines (sized_parts image_view_data) body e)
