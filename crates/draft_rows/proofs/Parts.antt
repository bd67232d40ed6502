-- The sizes that a row gives the parts of its record, found by where they are stated. Assumes nothing.
use mathlib.Core.Path.{◌≡◌, refl, sym, ◌∙◌, ap}
use mathlib.Core.Bool.{Bool, true, false, ◌&&◌, ◌||◌, cond}
use mathlib.Core.List.{List, [], ◌∷◌}
use Prim.Native.Nat.{ℕ, zero, suc, ◌+◌, ◌-◌, ◌/◌, ◌≤◌, ◌<◌}
use native.Mathlib.Nat.{add-zero, not-suc-le-zero, le_of_suc-le-suc}
use native.Mathlib.Omega.{arith}
use borrow.Author.Tests.{eq-eqb, ne_eqb, eqb-true, leb-true}
use lib.Dec.{leb, eqb}
use lib.ListN.{length, get_or, take, drop, length-take, length-drop, length-map, drop_of_length-le}
use lib.Seq.{drop-drop, take-nil, get_or-take, get_or-drop}
use Rattle.text.specs.declared.character_set.CharacterSet.{CharacterSet}
use Rattle.text.specs.declared.character_set.CharacterSet.TheVariants.{Ascii, Ebcdic}
use Rattle.text.specs.declared.data_types.DataType.{DataType}
use Rattle.text.specs.declared.data_types.DataType.TheVariants.{AB, A, AN, ANS, Binary, N, NB, NBD, NBQ, NBMc, NBMcd, NBMcdo, NBMU}
use Rattle.text.proofs.Laws.{rest}
use Rattle.layout.specs.Layout.{Layout, Sized, sized_parts}
use Rattle.layout.specs.Layouts.{layouts}
use Rattle.layout.specs.Packing.{Block, fields_in, parts_in, lines_in, lines_from, sized_of, sized_from}
use Rattle.judge.proofs.Laws.{both_true}
use Rattle.judge.proofs.Dispatch.{whole}
use Rattle.draft.specs.Owned.{Owned}
use Rattle.draft.specs.Values.{here, missing, in_ascii, piece, parts_given, values_at, values_of_row, layout_among, layout_of}
use Rattle.draft.specs.Completed.{size_of, part_sized_at}

-- no layout has more parts than a row has sizes
abbrev all_few : List Layout → Bool
all_few [] = true
all_few (k ∷ ks) = leb (length (sized_parts k)) 7 && all_few ks

few-among : (ks : List Layout) → all_few ks ≡ true → (t : ℕ) → length (sized_parts (layout_among ks t)) ≤ 7
few-among [] e t = omega arith
few-among (k ∷ ks) e t =
    let both = both_true (leb (length (sized_parts k)) 7) (all_few ks) e in
    picked (eqb t k.type_number) (layout_among ks t) (leb-true (length (sized_parts k)) 7 both.0) (few-among ks both.1 t)
  where
    picked : (there : Bool) (others : Layout) → length (sized_parts k) ≤ 7 → length (sized_parts others) ≤ 7
        → length (sized_parts (cond there k others)) ≤ 7
    picked true others h o = h
    picked false others h o = o

few-parts : (t : ℕ) → length (sized_parts (layout_of t)) ≤ 7
unfolding layout_of
few-parts t = few-among layouts refl t

-- a part is as long as its size says, there or not, in either set
module _ (xs : List ℕ) where
  length-in-ascii : (set : CharacterSet) (t : DataType) → length (in_ascii set t xs) ≡ length xs
  length-in-ascii Ascii t = refl
  length-in-ascii Ebcdic AB = length-map xs _
  length-in-ascii Ebcdic A = length-map xs _
  length-in-ascii Ebcdic AN = length-map xs _
  length-in-ascii Ebcdic ANS = length-map xs _
  length-in-ascii Ebcdic Binary = refl
  length-in-ascii Ebcdic N = length-map xs _
  length-in-ascii Ebcdic NB = length-map xs _
  length-in-ascii Ebcdic NBD = length-map xs _
  length-in-ascii Ebcdic NBQ = length-map xs _
  length-in-ascii Ebcdic NBMc = length-map xs _
  length-in-ascii Ebcdic NBMcd = length-map xs _
  length-in-ascii Ebcdic NBMcdo = length-map xs _
  length-in-ascii Ebcdic NBMU = length-map xs _

pub piece-size : (set : CharacterSet) (text : List ℕ) (t : DataType) (start size : ℕ) → size_of (piece set text t start size) ≡ size
piece-size set text t start size = by-test (eqb size 0) (leb (start + size) (length text)) refl refl
  where
    there : size ≤ length text - start → length (in_ascii set t (take size (drop start text))) ≡ size
    there h = length-in-ascii (take size (drop start text)) set t ∙ omega (arith, length-take size (drop start text), length-drop start text)

    by-test : (none enough : Bool) → eqb size 0 ≡ none → leb (start + size) (length text) ≡ enough
        → size_of (cond (none || enough) (here (in_ascii set t (take size (drop start text)))) (missing size)) ≡ size
    by-test true enough n e = there (omega (arith, eqb-true size 0 n))
    by-test false true n e = there (omega (arith, leb-true (start + size) (length text) e))
    by-test false false n e = refl

-- the size of the part whose size stands at a position, by the numbers of the parts
abbrev pub size_at : ℕ → List ℕ → List ℕ → ℕ
size_at first [] sizes = 0
size_at first (p ∷ ps) sizes = cond (eqb (p / 0x1_0000_0000_0000) first) (get_or sizes 0 0) (size_at first ps (drop 1 sizes))

sizes-behind : (k : ℕ) (xs : List ℕ) → take k (drop 1 xs) ≡ drop 1 (take (suc k) xs)
sizes-behind k [] = take-nil k
sizes-behind k (x ∷ xs) = refl

sizes-given : (set : CharacterSet) (text : List ℕ) (first n at k : ℕ) (ps xs : List ℕ) → length ps ≤ k
    → size_at first ps xs ≡ part_sized_at first (sized_from n ps) (parts_given set text at (sized_from n ps) (take k xs))
sizes-given set text first n at k [] xs h = refl
sizes-given set text first n at zero (p ∷ ps) xs h = absurd (not-suc-le-zero h)
sizes-given set text first n at (suc k) (p ∷ ps) xs h =
    let size = get_or (take (suc k) xs) 0 0 in
    let ss = sized_from (n + 1) ps in
    either (eqb (p / 0x1_0000_0000_0000) first)
    (sym (piece-size set text (sized_of n p).data_type at size ∙ get_or-take (suc k) xs 0 0 (omega arith)))
    (sizes-given set text first (n + 1) (at + size) k ps (drop 1 xs) (le_of_suc-le-suc h)
    ∙ ap (λ (ys : List ℕ). part_sized_at first ss (parts_given set text (at + size) ss ys)) (sizes-behind k xs))
  where
    either : (b : Bool) {x x' y y' : ℕ} → x ≡ x' → y ≡ y' → cond b x y ≡ cond b x' y'
    either true e f = e
    either false e f = f

length-sized : (n : ℕ) (ps : List ℕ) → length (sized_from n ps) ≡ length ps
length-sized n [] = refl
length-sized n (p ∷ ps) = ap suc (length-sized (n + 1) ps)

length-lines : (n : ℕ) (ps : List ℕ) → length (lines_from n ps) ≡ length ps
length-lines n [] = refl
length-lines n (p ∷ ps) = ap suc (length-lines (n + 1) ps)

-- the numbers of a row's layout, taken apart
module _ (own rows : List ℕ) (owned : Owned (layout_of (get_or rows 0 0)) own) where
  fields-there : (parts_in (get_or own 0 0) ≤ fields_in (get_or own 0 0)) × (fields_in (get_or own 0 0) + 1 ≤ length own)
  fields-there = let w = whole own owned.some owned.whole in (w.parts, w.fields)

  module _ (parts end : ℕ) (to : end ≡ fields_in (get_or own 0 0) + 1) (from : parts ≡ end - parts_in (get_or own 0 0)) where
    pub parts-own : sized_from (length (layout_of (get_or rows 0 0)).lines + 1) (take (end - parts) (drop parts own)) ≡ sized_parts (layout_of (get_or rows 0 0))
    parts-own = rw (first, sizes, behind) (ap (λ (b : Block). b.parts) owned.means)
      where
        first : length (layout_of (get_or rows 0 0)).lines ≡ lines_in (get_or own 0 0)
        first =
            let lent = take (lines_in (get_or own 0 0)) (drop 1 own) in
            omega (arith, fields-there, ap (λ (b : Block). length b.lines) owned.means, length-lines 1 lent, length-take (lines_in (get_or own 0 0)) (drop 1 own), length-drop 1 own)

        sizes : end - parts ≡ parts_in (get_or own 0 0)
        sizes = omega (arith, fields-there)

        at : 1 + lines_in (get_or own 0 0) ≡ parts
        at = omega (arith, fields-there)

        behind : drop parts own ≡ drop (lines_in (get_or own 0 0)) (drop 1 own)
        behind = ap (λ (k : ℕ). drop k own) (sym at) ∙ sym (drop-drop (lines_in (get_or own 0 0)) 1 own)

-- the size that is looked for
abbrev pub asked : List ℕ → ℕ → CharacterSet → List ℕ → ℕ
asked rows first set text = part_sized_at first (sized_parts (layout_of (get_or rows 0 0))) (values_of_row set text rows).parts

-- It stands from the place k on among the numbers of the parts, with the row's sizes beside them.
pub record Left (rows ps : List ℕ) (first k : ℕ) : Type 0 where
  pub few : length ps ≤ 7
  pub gives : (set : CharacterSet) (text : List ℕ) → size_at first (drop k ps) (drop (3 + k) rows) ≡ asked rows first set text

-- all of them to begin with
module _ (rows ps : List ℕ) (n : ℕ) (are : sized_from n ps ≡ sized_parts (layout_of (get_or rows 0 0))) where
  pub few-own : length ps ≤ 7
  few-own = omega (arith, few-parts (get_or rows 0 0), length-sized n ps, ap length are)

  told : (first : ℕ) (set : CharacterSet) (text : List ℕ) → size_at first ps (drop 3 rows) ≡ asked rows first set text
  unfolding values_of_row values_at
  told first set text =
      let at = get_or rows 1 0 + (layout_of (get_or rows 0 0)).fixed_length in
      sizes-given set text first n at 7 ps (drop 3 rows) few-own
      ∙ ap (λ (ss : List Sized). part_sized_at first ss (parts_given set text at ss (take 7 (drop 3 rows)))) are

  pub left-first : (first : ℕ) → Left rows ps first 0
  left-first first = record { few = few-own; gives = told first }

-- one turn of the loop
module _ {rows ps : List ℕ} {first k : ℕ} (l : Left rows ps first k) where
  pub left-none : length ps ≤ k → (set : CharacterSet) (text : List ℕ) → 0 ≡ asked rows first set text
  left-none h set text = ap (λ (xs : List ℕ). size_at first xs (drop (3 + k) rows)) (sym (drop_of_length-le ps h)) ∙ l.gives set text

  module _ (inside : k < length ps) where
    pub left_here : get_or ps k 0 / 0x1_0000_0000_0000 ≡ first → (set : CharacterSet) (text : List ℕ) → get_or rows (3 + k) 0 ≡ asked rows first set text
    left_here h set text = sym found ∙ l.gives set text
      where
        found : size_at first (drop k ps) (drop (3 + k) rows) ≡ get_or rows (3 + k) 0
        found = rw (rest ps k inside, eq-eqb (get_or ps k 0 / 0x1_0000_0000_0000) first h, get_or-drop (3 + k) rows 0 0, add-zero (3 + k))

    pub left-on : (get_or ps k 0 / 0x1_0000_0000_0000 ≡ first → ⊥) → Left rows ps first (k + 1)
    left-on h = record { few = l.few; gives = λ set text. sym later ∙ l.gives set text }
      where
        at : 3 + k + 1 ≡ 3 + (k + 1)
        at = omega arith

        later : size_at first (drop k ps) (drop (3 + k) rows) ≡ size_at first (drop (k + 1) ps) (drop (3 + (k + 1)) rows)
        later = rw (rest ps k inside, ne_eqb (get_or ps k 0 / 0x1_0000_0000_0000) first h, drop-drop 1 (3 + k) rows, at)
