-- What the layouts say, line by line, judges a record of each kind as its layout does, and knows no other kind. Assumes nothing.
use mathlib.Core.Path.{◌≡◌, refl, ap, ◌∙◌}
use mathlib.Core.Bool.{Bool, true, false, cond}
use mathlib.Core.List.{List, [], ◌∷◌, map}
use Prim.Native.Nat.{ℕ, ◌+◌}
use borrow.Author.Tests.{eqb-true}
use lib.Dec.{eqb}
use lib.ListN.{drop}
use Rattle.text.specs.declared.character_set.CharacterSet.{CharacterSet}
use Rattle.field.specs.declared.Usage.{Usage}
use Rattle.field.specs.declared.Usage.TheVariants.{Mandatory, Conditional}
use Rattle.layout.specs.Layout.{Line, Sized, Layout, sized_parts}
use Rattle.layout.specs.Layouts.{layouts}
use Rattle.layout.specs.Packing.{usage_of}
use Rattle.judge.specs.Alone.{alone, among_layouts, judged_as, line_holds, first_wrong, stated_size, stated_sizes, first_wrong_part, judged}
use Rattle.judge.specs.Alone as alone
use Rattle.judge.specs.Alone.{UnknownType}
use Rattle.slow_record.specs.Rows.{Entry, role_of, of_line, of_part, entries_of, field_holds, fields_of, parts_of, length_of, wrong_field, stated, wrong_part, is_variable, judged_by}

usage-kept : (u : Usage) → usage_of (role_of u) ≡ u
usage-kept Mandatory = refl
usage-kept Conditional = refl

-- the entries of a layout's lines and parts, judged as these
module _ (set : CharacterSet) (kind : ℕ) (body : List ℕ) where
  holds-alike : (l : Line) → field_holds set (of_line kind l) body ≡ line_holds set l body
  unfolding field_holds line_holds
  holds-alike l = rw (usage-kept l.usage)

  lines-alike : (ls : List Line) → wrong_field set (map (of_line kind) ls) body ≡ first_wrong set ls body
  unfolding wrong_field first_wrong
  lines-alike [] = refl
  lines-alike (l ∷ ls) = rw (holds-alike l, lines-alike ls)

  sizes-alike : (ss : List Sized) → stated set (map (of_part kind) ss) body ≡ stated_sizes set ss body
  unfolding stated stated_sizes
  sizes-alike [] = refl
  sizes-alike (s ∷ ss) = ap (λ (n : ℕ). stated_size set s body + n) (sizes-alike ss)

  parts-alike : (ss : List Sized) (rest : List ℕ) → wrong_part set (map (of_part kind) ss) body rest ≡ first_wrong_part set ss body rest
  unfolding wrong_part first_wrong_part
  parts-alike [] rest = refl
  parts-alike (s ∷ ss) rest = rw (parts-alike ss (drop (stated_size set s body) rest))

-- what entries have of a kind, and what its layout has
record Had : Type 0 where
  long : ℕ
  unknown : Bool
  variable : Bool
  lines : List Entry
  parts : List Entry

abbrev had : List Entry → ℕ → Had
had es kind =
    record {
      long = length_of kind es;
      unknown = eqb (length_of kind es) 0;
      variable = is_variable kind;
      lines = fields_of kind es;
      parts = parts_of kind es;
    }

abbrev had_by : Layout → Had
had_by k =
    record {
      long = k.fixed_length;
      unknown = false;
      variable = alone.is_variable (sized_parts k);
      lines = map (of_line k.type_number) k.lines;
      parts = map (of_part k.type_number) (sized_parts k);
    }

same-judged : (set : CharacterSet) (es : List Entry) (k : Layout) (body : List ℕ) → had es k.type_number ≡ had_by k
    → judged_by set k.type_number es body ≡ alone set k body
unfolding judged_by judged
same-judged set es k body same =
    rw (
      ap (λ (h : Had). h.unknown) same,
      ap (λ (h : Had). h.long) same,
      ap (λ (h : Had). h.variable) same,
      ap (λ (h : Had). h.lines) same,
      ap (λ (h : Had). h.parts) same,
      lines-alike set k.type_number body k.lines,
      sizes-alike set k.type_number body (sized_parts k),
      parts-alike set k.type_number body (sized_parts k) (drop k.fixed_length body),
    )

-- the same of every kind
abbrev all : List Entry → List Layout → Type 0
all es ls = map (λ (k : Layout). had es k.type_number) ls ≡ map had_by ls

first_of : {x y : Had} {xs ys : List Had} → x ∷ xs ≡ y ∷ ys → x ≡ y
first_of e = cc

others-of : {x y : Had} {xs ys : List Had} → x ∷ xs ≡ y ∷ ys → xs ≡ ys
others-of e = cc

-- the length that the layouts have for a kind, 0 for any other
abbrev length_among : ℕ → List Layout → ℕ
length_among kind [] = 0
length_among kind (k ∷ ks) = cond (eqb kind k.type_number) k.fixed_length (length_among kind ks)

module _ (set : CharacterSet) (kind : ℕ) (es : List Entry) (body : List ℕ) where
  not_carried : length_of kind es ≡ 0 → judged_by set kind es body ≡ UnknownType
  unfolding judged_by
  not_carried z = rw z

  among : (ls : List Layout) → all es ls → (length_among kind ls ≡ 0 → length_of kind es ≡ 0) → judged_by set kind es body ≡ among_layouts set ls kind body
  among [] right none = not_carried (none refl)
  among (k ∷ ks) right none = on (eqb kind k.type_number) refl none (among ks (others-of right))
    where
      on : (here : Bool) → eqb kind k.type_number ≡ here → (cond here k.fixed_length (length_among kind ks) ≡ 0 → length_of kind es ≡ 0)
          → ((length_among kind ks ≡ 0 → length_of kind es ≡ 0) → judged_by set kind es body ≡ among_layouts set ks kind body)
          → judged_by set kind es body ≡ cond here (alone set k body) (among_layouts set ks kind body)
      on true q none later = ap (λ (n : ℕ). judged_by set n es body) (eqb-true kind k.type_number q) ∙ same-judged set es k body (first_of right)
      on false q none later = later none

-- computed
all_same : all (entries_of layouts) layouts
unfolding length_of
all_same = refl

lengths : (kind : ℕ) → length_of kind (entries_of layouts) ≡ length_among kind layouts
unfolding length_of
lengths kind = refl

pub judged-right : (set : CharacterSet) (kind : ℕ) (body : List ℕ) → judged_by set kind (entries_of layouts) body ≡ judged_as set kind body
unfolding judged_as
judged-right set kind body = among set kind (entries_of layouts) body layouts all_same (λ z. lengths kind ∙ z)
