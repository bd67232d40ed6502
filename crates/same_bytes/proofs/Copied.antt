-- A record and its ASCII copy give the same values. Assumes nothing.
use Prim.Native.Nat.{ℕ, ◌+◌, ◌-◌}
use native.Mathlib.Nat.{zero-add}
use mathlib.Core.Bool.{Bool, true, false, ◌&&◌, ◌||◌, cond}
use mathlib.Core.Path.{◌≡◌, refl, sym, ap, ap₂, ◌∙◌}
use mathlib.Core.List.{List, [], ◌∷◌, ◌++◌, map}
use lib.Dec.{leb, eqb}
use lib.ListN.{take, drop, take-append-drop}
use lib.Seq.{drop-drop}
use borrow.Author.Tests.{leb-true, eqb-true}
use Rattle.text.specs.declared.character_set.CharacterSet.TheVariants.{Ascii, Ebcdic}
use Rattle.text.specs.declared.data_types.DataType.{DataType}
use Rattle.text.specs.Characters.{is_blank}
use Rattle.text.specs.DataTypes.{every}
use Rattle.frame.specs.Frames.{part}
use Rattle.layout.specs.Layout.{Line, Layout, Sized, sized_parts}
use Rattle.layout.specs.Layouts.{layouts, bundle_control}
use Rattle.judge.specs.Alone.{type_of, stated_size}
use Rattle.judge.proofs.Laws.{both_true}
use Rattle.ascii_copy.specs.AsciiCopy.{translated, copied_as, copied_parts, copied_body}
use Rattle.ascii_copy.proofs.Characters.{is_characters, copied-as, blank-alike}
use Rattle.ascii_copy.proofs.Fields.{every-alike, number-alike, take-translated, drop-translated}
use Rattle.ascii_copy.proofs.Records.{length-copied, field-copied, type-copied, apart, halves, other-copied}
use Rattle.file_as_records.specs.Framed.{Body, field_of}
use Rattle.draft.specs.Values.{Piece, is_given, layout_among, layout_of, unknown_record, piece, fields_given, parts_given, values_at, values_of_body}

-- computed of the layouts: each line, and each field that states a size, is characters in front; so are the parts of any record but a 52
abbrev in_front : List Line → Bool
in_front [] = true
in_front (l ∷ ls) = (is_characters l.data_type && leb (l.first - 1 + l.size) 139) && in_front ls

abbrev sized_in_front : List Sized → Bool
sized_in_front [] = true
sized_in_front (s ∷ ss) = leb (s.first - 1 + s.size) 139 && sized_in_front ss

abbrev plain : List Sized → Bool
plain [] = true
plain (s ∷ ss) = is_characters s.data_type && plain ss

abbrev looks_in_front : ℕ → Layout → Bool
looks_in_front t k = (in_front k.lines && sized_in_front (sized_parts k)) && (eqb t 52 || plain (sized_parts k))

abbrev all_in_front : List Layout → Bool
all_in_front [] = true
all_in_front (k ∷ ks) = looks_in_front k.type_number k && all_in_front ks

among-front : (t : ℕ) (ks : List Layout) → all_in_front ks ≡ true → looks_in_front t unknown_record ≡ true → looks_in_front t (layout_among ks t) ≡ true
among-front t [] e f = f
among-front t (k ∷ ks) e f =
    let tests = both_true (looks_in_front k.type_number k) (all_in_front ks) e in
    by (eqb t k.type_number) refl tests.0 (among-front t ks tests.1 f)
  where
    by : (c : Bool) → eqb t k.type_number ≡ c → looks_in_front k.type_number k ≡ true → looks_in_front t (layout_among ks t) ≡ true
        → looks_in_front t (cond c k (layout_among ks t)) ≡ true
    by true q here later = rw (eqb-true t k.type_number q) here
    by false q here later = later

or-true : (c : Bool) → c || true ≡ true
or-true true = refl
or-true false = refl

of-layout : (t : ℕ) → looks_in_front t (layout_of t) ≡ true
unfolding layout_of
of-layout t = among-front t layouts refl (or-true (eqb t 52))

-- parts of characters are translated whole
plainly : (ss : List Sized) (b rest : List ℕ) → plain ss ≡ true → copied_parts ss b rest ≡ translated rest
unfolding copied_parts
plainly [] b rest e = refl
plainly (s ∷ ss) b rest e =
    let n = stated_size Ebcdic s b in
    let tests = both_true (is_characters s.data_type) (plain ss) e in
    ap₂ ◌++◌ (copied-as s.data_type (take n rest) tests.0 ∙ sym (take-translated n rest))
    (plainly ss b (drop n rest) tests.1 ∙ sym (drop-translated n rest))
    ∙ take-append-drop n (translated rest)

module _ (b : Body) where
  piece-copied : (t : DataType) (start size : ℕ) → part start size (copied_body b) ≡ copied_as t (part start size b)
      → piece Ascii (copied_body b) t start size ≡ piece Ebcdic b t start size
  piece-copied t start size e = rw (length-copied b, e)

  fields_copied : (ls : List Line) → in_front ls ≡ true → fields_given Ascii (copied_body b) 0 ls ≡ fields_given Ebcdic b 0 ls
  fields_copied [] e = refl
  fields_copied (l ∷ ls) e =
      let tests = both_true (is_characters l.data_type && leb (l.first - 1 + l.size) 139) (in_front ls) e in
      let own = both_true (is_characters l.data_type) (leb (l.first - 1 + l.size) 139) tests.0 in
      let here : part (0 + (l.first - 1)) l.size (copied_body b) ≡ copied_as l.data_type (part (0 + (l.first - 1)) l.size b) =
      rw (zero-add (l.first - 1))
      (field-copied b (l.first - 1) l.size (leb-true _ 139 own.1) ∙ sym (copied-as l.data_type (part (l.first - 1) l.size b) own.0)) in
      ap₂ (λ (p : Piece) (ps : List Piece). cond (is_given l.origin) (p ∷ ps) ps)
      (piece-copied l.data_type (0 + (l.first - 1)) l.size here) (fields_copied ls tests.1)

  sizes-copied : (ss : List Sized) → sized_in_front ss ≡ true
      → map (λ (s : Sized). stated_size Ascii s (copied_body b)) ss ≡ map (λ (s : Sized). stated_size Ebcdic s b) ss
  sizes-copied [] e = refl
  sizes-copied (s ∷ ss) e =
      let tests = both_true (leb (s.first - 1 + s.size) 139) (sized_in_front ss) e in
      let front = part (s.first - 1) s.size b in
      rw (field-copied b (s.first - 1) s.size (leb-true _ 139 tests.0), number-alike front, sizes-copied ss tests.1)

  parts-copied : (ss : List Sized) (at : ℕ) → drop at (copied_body b) ≡ copied_parts ss b (drop at b)
      → parts_given Ascii (copied_body b) at ss (map (λ (s : Sized). stated_size Ebcdic s b) ss)
      ≡ parts_given Ebcdic b at ss (map (λ (s : Sized). stated_size Ebcdic s b) ss)
  parts-copied [] at e = refl
  parts-copied (s ∷ ss) at e =
      let n = stated_size Ebcdic s b in
      let both = apart b s ss (drop at b) in
      ap₂ (λ (p : Piece) (ps : List Piece). p ∷ ps) (piece-copied s.data_type at n (ap (take n) e ∙ both.0))
      (parts-copied ss (at + n)
      (sym (drop-drop n at (copied_body b)) ∙ ap (drop n) e ∙ both.1 ∙ ap (copied_parts ss b) (drop-drop n at b)))

  -- behind the fixed part of its kind
  rest-copied : (t : ℕ) → type_of Ebcdic b ≡ t
      → drop (0 + (layout_of t).fixed_length) (copied_body b) ≡ copied_parts (sized_parts (layout_of t)) b (drop (0 + (layout_of t).fixed_length) b)
  unfolding layout_of
  rest-copied t e = by (eqb t 52) refl (both_true (in_front (layout_of t).lines && sized_in_front (sized_parts (layout_of t))) _ (of-layout t)).1
    where
      by : (c : Bool) → eqb t 52 ≡ c → c || plain (sized_parts (layout_of t)) ≡ true
          → drop (0 + (layout_of t).fixed_length) (copied_body b) ≡ copied_parts (sized_parts (layout_of t)) b (drop (0 + (layout_of t).fixed_length) b)
      by true q p = rw (eqb-true t 52 q) (halves b (ap (λ (n : ℕ). eqb n 52) e ∙ q)).1
      by false q p =
          let n = 0 + (layout_of t).fixed_length in
          ap (drop n) (other-copied b (ap (λ (n : ℕ). eqb n 52) e ∙ q)) ∙ drop-translated n b ∙ sym (plainly (sized_parts (layout_of t)) b (drop n b) p)

  blank-copied : every (is_blank Ascii) (field_of bundle_control 4 (copied_body b)) ≡ every (is_blank Ebcdic) (field_of bundle_control 4 b)
  blank-copied = rw (field-copied b 18 12 (leb-true 30 139 refl)) (every-alike (is_blank Ascii) (is_blank Ebcdic) blank-alike (part 18 12 b))

  values-at : (t : ℕ) → type_of Ebcdic b ≡ t
      → values_at Ascii (copied_body b) t (every (is_blank Ascii) (field_of bundle_control 4 (copied_body b))) 0
      (map (λ (s : Sized). stated_size Ascii s (copied_body b)) (sized_parts (layout_of t)))
      ≡ values_at Ebcdic b t (every (is_blank Ebcdic) (field_of bundle_control 4 b)) 0
      (map (λ (s : Sized). stated_size Ebcdic s b) (sized_parts (layout_of t)))
  unfolding values_at
  values-at t e =
      let k = layout_of t in
      let tests = both_true (in_front k.lines) (sized_in_front (sized_parts k)) (both_true (in_front k.lines && sized_in_front (sized_parts k)) _ (of-layout t)).0 in
      cc (blank-copied, fields_copied k.lines tests.0, sizes-copied (sized_parts k) tests.1, parts-copied (sized_parts k) (0 + k.fixed_length) (rest-copied t e))

  pub values-copied : values_of_body Ascii (copied_body b) ≡ values_of_body Ebcdic b
  unfolding values_of_body
  values-copied = rw (type-copied b) (values-at (type_of Ebcdic b) refl)
