-- A sound record is its lines and its parts one after the other, and each of those that are given is taken from it. Assumes nothing.
use Prim.Native.Nat.{ℕ, ◌+◌, ◌-◌, ◌≤◌}
use native.Mathlib.Nat.{zero-add}
use native.Mathlib.Omega.{arith}
use mathlib.Core.Bool.{Bool, true, false, ◌&&◌, ◌||◌, cond}
use mathlib.Core.Path.{◌≡◌, refl, sym, ap, ap₂, ◌∙◌, subst}
use mathlib.Core.List.{List, [], ◌∷◌, ◌++◌, map}
use lib.Dec.{leb, eqb}
use lib.ListN.{length, take, drop, length-drop, take-append-drop, drop_of_length-le}
use lib.Seq.{take-add, drop-drop, length-take-le}
use borrow.Author.Tests.{leb-true, le-leb, eqb-true}
use Rattle.text.specs.declared.character_set.CharacterSet.TheVariants.{Ascii}
use Rattle.text.specs.declared.data_types.DataType.{DataType}
use Rattle.text.specs.DataTypes.{of_type}
use Rattle.decimal.specs.Digits.{fits}
use Rattle.frame.specs.Frames.{part}
use Rattle.layout.specs.Layout.{Line, Sized}
use Rattle.layout.specs.Laid.{end_to_end}
use Rattle.judge.specs.Alone.{line_holds, first_wrong, stated_size, stated_sizes, first_wrong_part}
use Rattle.judge.proofs.Laws.{both_true}
use Rattle.standing.specs.declared.Standing.{Standing}
use Rattle.file_as_records.specs.Framed.{Body}
use Rattle.arrangement.specs.Sound.{All}
use Rattle.draft.specs.Values.{Piece, here, missing, Values, is_given, piece, fields_given, parts_given}
use Rattle.draft.specs.Completed.{next, size_of, is_here, characters_of, own_statement, worked_out, fixed_part, all_parts, first_unfit, first_unfit_part, part_sized_at}
use Rattle.judge.specs.Alone as judge

-- the lines that are worked out
abbrev pub worked : List Line → List Line
worked [] = []
worked (l ∷ ls) = cond (is_given l.origin) (worked ls) (l ∷ worked ls)

-- a line that is worked out as the characters that stand there
pub record Said (v : Values) (addenda : ℕ) (s : Standing) (b : Body) (l : Line) : Type 0 where
  pub again : line_holds Ascii l b ≡ true → length (judge.characters_of l b) ≡ l.size → worked_out v addenda s l ≡ judge.characters_of l b
  pub fit : length (judge.characters_of l b) ≡ l.size → fits l.size (own_statement v addenda l.first l.origin) ≡ true

-- the first that is wrong is not this one, nor one behind it
pub right-one : (t : Bool) (n others : ℕ) → 1 ≤ n → cond t others n ≡ 0 → (t ≡ true) × (others ≡ 0)
right-one true n others h e = (refl, e)
right-one false n others h e = absurd (omega arith)

or-second : (a b : Bool) → b ≡ true → a || b ≡ true
or-second true b e = refl
or-second false b e = e

-- a piece that lies in the record
piece-here : (b : Body) (t : DataType) (start size : ℕ) → start + size ≤ length b → piece Ascii b t start size ≡ here (part start size b)
piece-here b t start size h = rw (or-second (eqb size 0) (leb (start + size) (length b)) (le-leb (start + size) (length b) h))

-- the pieces from a line on, which is given or not
abbrev pieces_from : Body → Line → List Line → Bool → List Piece
pieces_from b l ls given =
    cond given (piece Ascii b l.data_type (0 + (l.first - 1)) l.size ∷ fields_given Ascii b 0 ls) (fields_given Ascii b 0 ls)

-- the lines of a list that lies from a position to the end of the fixed part
pub record LinesAgain (v : Values) (addenda : ℕ) (s : Standing) (b : Body) (from fixed : ℕ) (ls : List Line) : Type 0 where
  pub ends : from ≤ fixed + 1
  pub same : fixed_part v addenda s ls (fields_given Ascii b 0 ls) ≡ part (from - 1) (fixed + 1 - from) b
  pub fit : first_unfit v addenda ls (fields_given Ascii b 0 ls) ≡ 0

module _ (v : Values) (addenda : ℕ) (s : Standing) (b : Body) where
  -- one line, and those behind it
  module _ (l : Line) (ls : List Line) (fixed : ℕ) (long : fixed ≤ length b) (holds : line_holds Ascii l b ≡ true) (from_one : 1 ≤ l.first)
      (ended : l.last + 1 ≡ l.first + l.size) (others : All (Said v addenda s b) (worked ls) → LinesAgain v addenda s b (l.last + 1) fixed ls) where
    step : (c : Bool) → All (Said v addenda s b) (cond c (worked ls) (l ∷ worked ls))
        → (l.last + 1 ≤ fixed + 1)
        × (cond c (characters_of (next (pieces_from b l ls c)) ++ fixed_part v addenda s ls (drop 1 (pieces_from b l ls c)))
        (worked_out v addenda s l ++ fixed_part v addenda s ls (pieces_from b l ls c))
        ≡ judge.characters_of l b ++ part (l.last + 1 - 1) (fixed + 1 - (l.last + 1)) b)
        × (cond c (cond (is_here (next (pieces_from b l ls c))) (first_unfit v addenda ls (drop 1 (pieces_from b l ls c))) l.number)
        (cond (fits l.size (own_statement v addenda l.first l.origin)) (first_unfit v addenda ls (pieces_from b l ls c)) l.number)
        ≡ 0)
    step true said =
        let o = others said in
        let at = piece-here b l.data_type (0 + (l.first - 1)) l.size (omega (arith, o.ends, ended, from_one, long)) in
        (o.ends, rw (at, zero-add (l.first - 1)) (ap (λ (x : List ℕ). judge.characters_of l b ++ x) o.same), rw at o.fit)
    step false said =
        let o = others said.1 in
        let size : length (judge.characters_of l b) ≡ l.size =
        length-take-le l.size (drop (l.first - 1) b) (simp length-drop (omega (arith, o.ends, ended, from_one, long))) in (
          o.ends,
          rw (said.0.again holds size) (ap (λ (x : List ℕ). judge.characters_of l b ++ x) o.same),
          rw (said.0.fit size) o.fit,
        )

    line-and : All (Said v addenda s b) (worked (l ∷ ls)) → LinesAgain v addenda s b l.first fixed (l ∷ ls)
    unfolding fixed_part first_unfit
    line-and said =
        let all = step (is_given l.origin) said in
        let size : fixed + 1 - l.first ≡ l.size + (fixed + 1 - (l.last + 1)) = omega (arith, ended, all.0) in
        let place : l.first - 1 + l.size ≡ l.last + 1 - 1 = omega (arith, ended, from_one) in
        record {
          ends = omega (arith, ended, all.0);
          same =
              all.1
              ∙ rw (size, take-add l.size (fixed + 1 - (l.last + 1)) (drop (l.first - 1) b), drop-drop l.size (l.first - 1) b, place);
          fit = all.2;
        }

  pub lines-again : (ls : List Line) (n from fixed : ℕ) → 1 ≤ n → 1 ≤ from → fixed ≤ length b → end_to_end n from fixed ls ≡ true
      → first_wrong Ascii ls b ≡ 0 → All (Said v addenda s b) (worked ls) → LinesAgain v addenda s b from fixed ls
  unfolding fixed_part first_unfit first_wrong
  lines-again [] n from fixed p q long e w said =
      let ends = eqb-true from (fixed + 1) e in
      let none : fixed + 1 - from ≡ 0 = omega arith in
      record { ends = omega arith; same = rw none; fit = refl }
  lines-again (l ∷ ls) n from fixed p q long e w said =
      let number = both_true (eqb l.number n) _ e in
      let first = both_true (eqb l.first from) _ number.1 in
      let last = both_true (eqb (l.last + 1) (l.first + l.size)) _ first.1 in
      let starts = eqb-true l.first from first.0 in
      let ended = eqb-true (l.last + 1) (l.first + l.size) last.0 in
      let one : 1 ≤ l.number = omega (arith, p, eqb-true l.number n number.0) in
      let right = right-one (line_holds Ascii l b) l.number (first_wrong Ascii ls b) one w in
      subst (λ (k : ℕ). LinesAgain v addenda s b k fixed (l ∷ ls)) starts
      (line-and l ls fixed long right.0 (omega (arith, starts, q)) ended
      (lines-again ls (n + 1) (l.last + 1) fixed (omega arith) (omega arith) long last.1 right.1) said)

-- the sizes that a record states for its parts, and its parts by them
abbrev pub sizes_in : Body → List Sized → List ℕ
sizes_in b ss = map (λ (s : Sized). stated_size Ascii s b) ss

abbrev pub parts_in : Body → ℕ → List Sized → List Piece
parts_in b at ss = parts_given Ascii b at ss (sizes_in b ss)

abbrev pub numbered : List Sized → Bool
numbered [] = true
numbered (s ∷ ss) = leb 1 s.number && numbered ss

module _ (b : Body) where
  -- the parts, from a place on to the end
  pub record PartsAgain (at : ℕ) (ss : List Sized) : Type 0 where
    pub same : all_parts (parts_in b at ss) ≡ drop at b
    pub fit : first_unfit_part ss (parts_in b at ss) ≡ 0

  pub parts_again : (ss : List Sized) (at : ℕ) → length b ≡ at + stated_sizes Ascii ss b → numbered ss ≡ true
      → first_wrong_part Ascii ss b (drop at b) ≡ 0 → PartsAgain at ss
  unfolding all_parts first_unfit_part stated_sizes first_wrong_part
  parts_again [] at long n w = record { same = sym (drop_of_length-le b {i = at} (omega arith)); fit = refl }
  parts_again (s ∷ ss) at long n w =
      let size = stated_size Ascii s b in
      let tests = both_true (leb 1 s.number) (numbered ss) n in
      let right =
      right-one (of_type Ascii s.data_type (take size (drop at b))) s.number (first_wrong_part Ascii ss b (drop size (drop at b)))
      (leb-true 1 s.number tests.0) w in
      let o = parts_again ss (at + size) (omega arith) tests.1 (ap (first_wrong_part Ascii ss b) (sym (drop-drop size at b)) ∙ right.1) in
      let there = piece-here b s.data_type at size (omega arith) in
      record {
        same =
            rw there (ap (λ (x : List ℕ). part at size b ++ x) (o.same ∙ sym (drop-drop size at b)) ∙ take-append-drop size (drop at b));
        fit = rw (there, right.0) o.fit;
      }

  -- the size of a part, whether or not it lies in the record
  piece-sized : (t : DataType) (start size : ℕ) → size_of (piece Ascii b t start size) ≡ size
  piece-sized t start size = by (eqb size 0) refl (leb (start + size) (length b)) refl
    where
      by : (none : Bool) → eqb size 0 ≡ none → (fits : Bool) → leb (start + size) (length b) ≡ fits
          → size_of (cond (none || fits) (here (part start size b)) (missing size)) ≡ size
      by true e fits f = rw (eqb-true size 0 e)
      by false e true f = length-take-le size (drop start b) (simp length-drop (omega (arith, leb-true (start + size) (length b) f)))
      by false e false f = refl

  -- the size of the part whose size stands at a position, as the record states it
  abbrev pub size_stated_at : ℕ → List Sized → ℕ
  size_stated_at first [] = 0
  size_stated_at first (s ∷ ss) = cond (eqb s.first first) (stated_size Ascii s b) (size_stated_at first ss)

  pub sized-at : (first at : ℕ) (ss : List Sized) → part_sized_at first ss (parts_in b at ss) ≡ size_stated_at first ss
  sized-at first at [] = refl
  sized-at first at (s ∷ ss) =
      ap₂ (cond (eqb s.first first)) (piece-sized s.data_type at (stated_size Ascii s b)) (sized-at first (at + stated_size Ascii s b) ss)
