-- A sound record is at least as long as its fixed part, and that part is characters, each with a counterpart. Assumes nothing.
use Prim.Native.Nat.{ℕ, ◌+◌, ◌-◌, ◌≤◌}
use native.Mathlib.Omega.{arith}
use mathlib.Core.Bool.{Bool, true, false, ◌&&◌, ◌||◌, cond}
use mathlib.Core.List.{List, [], ◌∷◌, ◌++◌}
use mathlib.Core.Path.{◌≡◌, refl, ap, ◌∙◌}
use borrow.Author.Tests.{leb-true, eqb-true}
use lib.Dec.{leb, eqb}
use lib.ListN.{length, take, drop}
use lib.Seq.{take-add, drop-drop}
use Rattle.text.specs.declared.character_set.CharacterSet.{CharacterSet}
use Rattle.text.specs.declared.character_set.CharacterSet.TheVariants.{Ebcdic}
use Rattle.text.specs.declared.data_types.DataType.TheVariants.{ANS}
use Rattle.text.specs.DataTypes.{every, admits}
use Rattle.layout.specs.Layout.{Line, Layout, sized_parts}
use Rattle.layout.specs.Layouts.{layouts}
use Rattle.layout.specs.Laid.{end_to_end}
use Rattle.judge.specs.Alone.{Sound}
use Rattle.judge.specs.Alone.{characters_of, line_holds, first_wrong, is_variable, judged, alone, among_layouts, judged_as}
use Rattle.judge.proofs.Laws.{both_true, kept, length-not-sound, field-not-sound}
use Rattle.ascii_copy.proofs.Characters.{is_characters}
use Rattle.ascii_copy.proofs.Fields.{holds-characters}

abbrev all : (Layout → Bool) → List Layout → Bool
all test [] = true
all test (k ∷ ks) = test k && all test ks

-- the length of the fixed part of the kind that a type number names; 0 where it names none
abbrev pub width_in : List Layout → ℕ → ℕ
width_in [] t = 0
width_in (k ∷ ks) t = cond (eqb t k.type_number) k.fixed_length (width_in ks t)

abbrev pub width_of : ℕ → ℕ
width_of t = width_in layouts t

abbrev all_characters : List Line → Bool
all_characters [] = true
all_characters (l ∷ ls) = is_characters l.data_type && all_characters ls

-- computed of a layout: the lines lie end to end through the fixed length, and none is Binary
abbrev filled : Layout → Bool
filled k = end_to_end 1 1 k.fixed_length k.lines && all_characters k.lines

every_append : (test : ℕ → Bool) (xs ys : List ℕ) → every test xs ≡ true → every test ys ≡ true → every test (xs ++ ys) ≡ true
every_append test [] ys e f = f
every_append test (x ∷ xs) ys e f =
    let both = both_true (test x) (every test xs) e in
    rw both.0 (every_append test xs ys both.1 f)

-- a field that is not the first that is wrong
right-line : (t : Bool) (n others : ℕ) → 1 ≤ n → cond t others n ≡ 0 → (t ≡ true) × (others ≡ 0)
right-line true n others h e = (refl, e)
right-line false n others h e = absurd (omega arith)

-- a line that lies from a place on, and what is left of the positions behind it
record Laid (l : Line) (n from fixed : ℕ) (ls : List Line) : Type 0 where
  number : l.number ≡ n
  first : l.first ≡ from
  last : l.last + 1 ≡ from + l.size
  others : end_to_end (n + 1) (l.last + 1) fixed ls ≡ true

laid : (l : Line) (n from fixed : ℕ) (ls : List Line) → end_to_end n from fixed (l ∷ ls) ≡ true → Laid l n from fixed ls
laid l n from fixed ls e =
    let number = both_true (eqb l.number n) _ e in
    let first = both_true (eqb l.first from) _ number.1 in
    let last = both_true (eqb (l.last + 1) (l.first + l.size)) _ first.1 in
    let starts = eqb-true l.first from first.0 in
    record {
      number = eqb-true l.number n number.0;
      first = starts;
      last = eqb-true (l.last + 1) (l.first + l.size) last.0 ∙ ap (λ (k : ℕ). k + l.size) starts;
      others = last.1;
    }

-- a sound record is at least as long as its fixed part, of which no field is wrong
alone-right : (set : CharacterSet) (b : List ℕ) (k : Layout) → alone set k b ≡ Sound → (k.fixed_length ≤ length b) × (first_wrong set k.lines b ≡ 0)
unfolding judged
alone-right set b k sound =
    let long = kept (leb k.fixed_length (length b)) length-not-sound sound in
    let short = kept (is_variable (sized_parts k) || leb (length b) k.fixed_length) length-not-sound long.1 in
    let field = kept (eqb (first_wrong set k.lines b) 0) (field-not-sound (first_wrong set k.lines b)) short.1 in
    (leb-true k.fixed_length (length b) long.0, eqb-true (first_wrong set k.lines b) 0 field.0)

-- what holds of the fixed length of each sound record, by a test of the layouts, holds of the width of its type
module _ (set : CharacterSet) (t : ℕ) (b : List ℕ) (test : Layout → Bool) (P : ℕ → Type 0) (none : P 0)
    (one : (k : Layout) → test k ≡ true → alone set k b ≡ Sound → P k.fixed_length) where
  among : (ks : List Layout) → all test ks ≡ true → among_layouts set ks t b ≡ Sound → P (width_in ks t)
  among [] e sound = none
  among (k ∷ ks) e sound =
      let tests = both_true (test k) (all test ks) e in
      by (eqb t k.type_number) sound (one k tests.0) (among ks tests.1)
    where
      by : (c : Bool) → cond c (alone set k b) (among_layouts set ks t b) ≡ Sound → (alone set k b ≡ Sound → P k.fixed_length)
          → (among_layouts set ks t b ≡ Sound → P (width_in ks t)) → P (cond c k.fixed_length (width_in ks t))
      by true s here later = here s
      by false s here later = later s

module _ (b : List ℕ) where
  lines-characters : (ls : List Line) (n from fixed : ℕ) → 1 ≤ n → 1 ≤ from → end_to_end n from fixed ls ≡ true → all_characters ls ≡ true
      → first_wrong Ebcdic ls b ≡ 0 → (from ≤ fixed + 1) × (every (admits Ebcdic ANS) (take (fixed + 1 - from) (drop (from - 1) b)) ≡ true)
  unfolding first_wrong line_holds
  lines-characters [] n from fixed p q e c w =
      let ends = eqb-true from (fixed + 1) e in
      let none : fixed + 1 - from ≡ 0 = omega arith in
      (omega arith, rw none)
  lines-characters (l ∷ ls) n from fixed p q e c w =
      let here = laid l n from fixed ls e in
      let kinds = both_true (is_characters l.data_type) (all_characters ls) c in
      let right = right-line (line_holds Ebcdic l b) l.number (first_wrong Ebcdic ls b) (omega arith) w in
      let own = rw here.first at (holds-characters l.usage l.data_type l.rule (characters_of l b) b kinds.0 right.0) in
      let others = lines-characters ls (n + 1) (l.last + 1) fixed (omega arith) (omega arith) here.others kinds.1 right.1 in
      let size : fixed + 1 - from ≡ l.size + (fixed + 1 - (l.last + 1)) = omega arith in
      let place : from - 1 + l.size ≡ l.last + 1 - 1 = omega arith in (
        omega arith,
        rw (size, take-add l.size (fixed + 1 - (l.last + 1)) (drop (from - 1) b), drop-drop l.size (from - 1) b, place)
            (every_append (admits Ebcdic ANS) (take l.size (drop (from - 1) b)) (take (fixed + 1 - (l.last + 1)) (drop (l.last + 1 - 1) b)) own others.1),
      )

  alone-characters : (k : Layout) → filled k ≡ true → alone Ebcdic k b ≡ Sound → every (admits Ebcdic ANS) (take k.fixed_length b) ≡ true
  alone-characters k e sound =
      let both = both_true (end_to_end 1 1 k.fixed_length k.lines) (all_characters k.lines) e in
      let width : k.fixed_length ≡ k.fixed_length + 1 - 1 = omega arith in
      ap (λ (n : ℕ). every (admits Ebcdic ANS) (take n b)) width
      ∙ (lines-characters k.lines 1 1 k.fixed_length (omega arith) (omega arith) both.0 both.1 (alone-right Ebcdic b k sound).1).1

pub sound-long : (set : CharacterSet) (t : ℕ) (b : List ℕ) → judged_as set t b ≡ Sound → width_of t ≤ length b
unfolding judged_as
sound-long set t b =
    among set t b (λ k. true) (λ w. w ≤ length b) (omega arith) (λ k e sound. (alone-right set b k sound).0) layouts refl

pub sound-characters : (t : ℕ) (b : List ℕ) → judged_as Ebcdic t b ≡ Sound → every (admits Ebcdic ANS) (take (width_of t) b) ≡ true
unfolding judged_as
sound-characters t b = among Ebcdic t b filled (λ w. every (admits Ebcdic ANS) (take w b) ≡ true) refl (alone-characters b) layouts refl
