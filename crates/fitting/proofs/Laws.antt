-- Pieces that fit, and one turn of each loop over the lines and the parts of a layout's numbers. Assumes nothing.
use mathlib.Core.Path.{◌≡◌, refl, sym, ◌∙◌, ap, ap₂}
use mathlib.Core.Bool.{Bool, true, false, ◌&&◌, ◌||◌, not, cond}
use mathlib.Core.List.{List, [], ◌∷◌}
use Prim.Native.Nat.{ℕ, suc, ◌+◌, ◌-◌, ◌/◌, ◌%◌, ◌≤◌, ◌<◌, min}
use native.Mathlib.Nat.{add-zero, add_assoc}
use native.Mathlib.Omega.{arith}
use borrow.Author.Tests.{ne_eqb, eqb-true, eqb-false, leb-true, leb-false, le-leb, lt-leb}
use lib.Dec.{leb, eqb}
use lib.ListN.{length, get_or, take, drop, drop_of_length-le, length-take, length-drop}
use lib.Seq.{drop-drop, get_or-take, get_or-drop}
use Rattle.text.specs.declared.character_set.CharacterSet.{CharacterSet}
use Rattle.text.specs.declared.character_set.CharacterSet.TheVariants.{Ascii, Ebcdic}
use Rattle.text.specs.declared.data_types.DataType.{DataType}
use Rattle.text.specs.DataTypes.{every, keeps_digits_together, of_type}
use Rattle.text.proofs.Laws.{rest}
use Rattle.frame.specs.Frames.{part}
use Rattle.decimal.specs.Digits.{fits}
use Rattle.std.specs.Prelude.{None, Some}
use Rattle.layout.specs.Fault.{as_field}
use Rattle.layout.proofs.Fault.{no-field, a-field}
use Rattle.layout.specs.Layout.{Line, Sized, sized_parts}
use Rattle.layout.specs.Packing.{origin_of, line_of, lines_from, lies_within, sized_of, sized_from}
use Rattle.judge.proofs.Laws.{both_true, lies, line-within}
use Rattle.ascii_copy.proofs.Fields.{as-alike}
use Rattle.draft.specs.Values.{Piece, here, missing, is_given, in_ascii, piece, fields_given, parts_given, layout_of, values_at, values_of_row}
use Rattle.draft.specs.Completed.{next, is_here, characters_of, all_sizes, own_statement, first_unfit, first_unfit_part}
use Rattle.draft_rows.proofs.Parts.{piece-size, few-own}

-- a field at fault, and none, as the code tells it
pub field_at : (n m : ℕ) → 1 ≤ n → n ≡ m → Some n ≡ as_field m
field_at n m h e = ap Some e ∙ sym (a-field m (omega arith))

pub none_at : (m : ℕ) → 0 ≡ m → None ≡ as_field m
none_at m e = sym (no-field m (sym e))

-- a part that lies in the text is of its data type in ASCII as it is in its own set
alike : (set : CharacterSet) (t : DataType) (xs : List ℕ) → of_type Ascii t (in_ascii set t xs) ≡ of_type set t xs
alike Ascii t xs = refl
alike Ebcdic t xs = as-alike t xs

none-wrong : (set : CharacterSet) (t : DataType) → of_type set t [] ≡ true
unfolding of_type
none-wrong set t = by (keeps_digits_together t)
  where
    by : (b : Bool) → not (b && false) ≡ true
    by true = refl
    by false = refl

abbrev pub part_fits : CharacterSet → List ℕ → DataType → ℕ → ℕ → Bool
part_fits set text t start size = is_here (piece set text t start size) && of_type Ascii t (characters_of (piece set text t start size))

module _ (set : CharacterSet) (text : List ℕ) (t : DataType) (start size : ℕ) where
  pub piece-here : eqb size 0 || leb (start + size) (length text) ≡ is_here (piece set text t start size)
  piece-here = by (eqb size 0 || leb (start + size) (length text))
    where
      by : (b : Bool) → b ≡ is_here (cond b (here (in_ascii set t (part start size text))) (missing size))
      by true = refl
      by false = refl

  pub part-outside : eqb size 0 || leb (start + size) (length text) ≡ false → false ≡ part_fits set text t start size
  part-outside e = rw e

  pub part-empty : size ≡ 0 → true ≡ part_fits set text t start size
  part-empty e = rw e (sym (alike set t [] ∙ none-wrong set t))

  pub part-inside : eqb size 0 || leb (start + size) (length text) ≡ true → of_type set t (part start size text) ≡ part_fits set text t start size
  part-inside e = rw e (sym (alike set t (part start size text)))

pub lies_in : (n start size : ℕ) → eqb size 0 || leb (start + size) n ≡ true → (size ≡ 0 → ⊥) → start + size ≤ n
lies_in n start size e some = leb-true (start + size) n (rw (ne_eqb size 0 some) at e)

-- what lies within a stretch that lies in the text lies in it too
pub lies-too : (n start long place size : ℕ) → place + size ≤ long → eqb long 0 || leb (start + 0 + long) n ≡ true
    → eqb size 0 || leb (start + place + size) n ≡ true
lies-too n start long place size h e = by (eqb size 0) refl
  where
    by : (b : Bool) → eqb size 0 ≡ b → b || leb (start + place + size) n ≡ true
    by true q = refl
    by false q =
        let some = eqb-false size 0 q in
        le-leb (start + place + size) n (omega (arith, lies_in n (start + 0) long e (λ z. some (omega arith))))

-- a place that stops at 2^64 - 1: a text is no longer, so that no part lies there, but for one of size 0
pub stopped : (set : CharacterSet) (text : List ℕ) (t : DataType) (start place far size : ℕ) → length text ≤ 0xFFFF_FFFF_FFFF_FFFF
    → place ≡ min far 0xFFFF_FFFF_FFFF_FFFF → piece set text t (start + place) size ≡ piece set text t (start + far) size
stopped set text t start place far size long e = by (eqb size 0) refl (leb far 0xFFFF_FFFF_FFFF_FFFF) refl
  where
    by : (b : Bool) → eqb size 0 ≡ b → (c : Bool) → leb far 0xFFFF_FFFF_FFFF_FFFF ≡ c → piece set text t (start + place) size ≡ piece set text t (start + far) size
    by true q c r = rw (eqb-true size 0 q)
    by false q true r = let same : place ≡ far = omega (arith, leb-true far 0xFFFF_FFFF_FFFF_FFFF r) in rw same
    by false q false r =
        let some = eqb-false size 0 q in
        let past = leb-false far 0xFFFF_FFFF_FFFF_FFFF r in
        rw (q, lt-leb (start + place + size) (length text) (omega arith), lt-leb (start + far + size) (length text) (omega arith))

-- a line that can be had
abbrev pub line_fits : CharacterSet → List ℕ → List ℕ → ℕ → Line → Bool
line_fits set text rows addenda l =
    cond (is_given l.origin) (is_here (piece set text l.data_type (get_or rows 1 0 + (l.first - 1)) l.size))
    (fits l.size (own_statement (values_of_row set text rows) addenda l.first l.origin))

module _ (set : CharacterSet) (text rows : List ℕ) (addenda : ℕ) where
  pub given-fits : (l : Line) → is_given l.origin ≡ true
      → eqb l.size 0 || leb (get_or rows 1 0 + (l.first - 1) + l.size) (length text) ≡ line_fits set text rows addenda l
  given-fits l e = rw e (piece-here set text l.data_type (get_or rows 1 0 + (l.first - 1)) l.size)

  pub worked-fits : (l : Line) → is_given l.origin ≡ false
      → fits l.size (own_statement (values_of_row set text rows) addenda l.first l.origin) ≡ line_fits set text rows addenda l
  worked-fits l e = rw e

  -- the first of some lines that cannot be had, and the first of all
  abbrev pub unfit_in : List Line → ℕ
  unfit_in ls = first_unfit (values_of_row set text rows) addenda ls (fields_given set text (get_or rows 1 0) ls)

  abbrev pub unfit : ℕ
  unfit = first_unfit (values_of_row set text rows) addenda (layout_of (get_or rows 0 0)).lines (values_of_row set text rows).fields

  all_lines : unfit_in (layout_of (get_or rows 0 0)).lines ≡ unfit
  unfolding values_of_row values_at
  all_lines = refl

  line-turn : (l : Line) (ls : List Line) → unfit_in (l ∷ ls) ≡ cond (line_fits set text rows addenda l) (unfit_in ls) l.number
  unfolding first_unfit
  line-turn l ls = by (is_given l.origin)
    where
      own : Piece
      own = piece set text l.data_type (get_or rows 1 0 + (l.first - 1)) l.size

      others : List Piece
      others = fields_given set text (get_or rows 1 0) ls

      holds : Bool
      holds = fits l.size (own_statement (values_of_row set text rows) addenda l.first l.origin)

      at : List Piece → ℕ
      at ps = first_unfit (values_of_row set text rows) addenda ls ps

      by : (b : Bool)
          → cond b (cond (is_here (next (cond b (own ∷ others) others))) (at (drop 1 (cond b (own ∷ others) others))) l.number)
          (cond holds (at (cond b (own ∷ others) others)) l.number)
          ≡ cond (cond b (is_here own) holds) (at others) l.number
      by true = refl
      by false = refl

-- the lines from a place on
module _ (text rows : List ℕ) (addenda : ℕ) (ps : List ℕ) where
  abbrev pub lines_at : ℕ → List Line
  lines_at k = lines_from (k + 1) (drop k ps)

  -- the first of them that cannot be had is the first of all
  pub record LinesLeft (k : ℕ) : Type 0 where
    pub gives : (set : CharacterSet) → unfit_in set text rows addenda (lines_at k) ≡ unfit set text rows addenda

  pub lines-first : lines_from 1 ps ≡ (layout_of (get_or rows 0 0)).lines → LinesLeft 0
  lines-first are = record { gives = λ set. ap (unfit_in set text rows addenda) are ∙ all_lines set text rows addenda }

  module _ {k : ℕ} (left : LinesLeft k) where
    pub lines_none : length ps ≤ k → (set : CharacterSet) → 0 ≡ unfit set text rows addenda
    unfolding first_unfit
    lines_none h set = ap (λ (xs : List ℕ). unfit_in set text rows addenda (lines_from (k + 1) xs)) (sym (drop_of_length-le ps h)) ∙ left.gives set

    module _ (inside : k < length ps) where
      abbrev this : Line
      this = line_of (k + 1) (get_or ps k 0)

      next-line : lines_at k ≡ this ∷ lines_at (k + 1)
      next-line = rw (rest ps k inside)

      turn : (set : CharacterSet) → cond (line_fits set text rows addenda this) (unfit_in set text rows addenda (lines_at (k + 1))) (k + 1) ≡ unfit set text rows addenda
      turn set =
          sym (line-turn set text rows addenda this (lines_at (k + 1)))
          ∙ ap (unfit_in set text rows addenda) (sym next-line)
          ∙ left.gives set

      pub line-unfit : ((set : CharacterSet) → line_fits set text rows addenda this ≡ false) → (set : CharacterSet) → k + 1 ≡ unfit set text rows addenda
      line-unfit e set = rw (e set) at (turn set)

      pub lines-on : ((set : CharacterSet) → line_fits set text rows addenda this ≡ true) → LinesLeft (k + 1)
      lines-on e = record { gives = λ set. rw (e set) at (turn set) }

      -- where the whole fixed part lies in the text, a line that is given can be had
      pub line-here : (long : ℕ) → every (lies_within long) ps ≡ true → {here : Bool} → here ≡ (eqb long 0 || leb (get_or rows 1 0 + 0 + long) (length text))
          → here && eqb (get_or ps k 0 / 0x2_0000_0000 % 0x80) 0 ≡ true → (set : CharacterSet) → line_fits set text rows addenda this ≡ true
      line-here long lines {here} told e set =
          let both = both_true here (eqb (get_or ps k 0 / 0x2_0000_0000 % 0x80) 0) e in
          let given : is_given this.origin ≡ true = ap (λ (n : ℕ). is_given (origin_of n)) (eqb-true (get_or ps k 0 / 0x2_0000_0000 % 0x80) 0 both.1) in
          let within : this.first - 1 + this.size ≤ long = lies long (get_or ps k 0) (line-within ps long k lines inside) in
          sym (given-fits set text rows addenda this given)
          ∙ lies-too (length text) (get_or rows 1 0) long (this.first - 1) this.size within (sym told ∙ both.0)

length-from : (n : ℕ) (ps : List ℕ) → length (lines_from n ps) ≡ length ps
length-from n [] = refl
length-from n (p ∷ ps) = ap suc (length-from (n + 1) ps)

-- the parts are numbered from behind the lines on
pub numbered : {ls : List Line} (lines : List ℕ) → lines_from 1 lines ≡ ls → {ss : List Sized} (ps : List ℕ) → sized_from (length ls + 1) ps ≡ ss
    → sized_from (length lines + 1) ps ≡ ss
numbered lines are ps e = ap (λ (n : ℕ). sized_from (n + 1) ps) (sym (length-from 1 lines) ∙ ap length are) ∙ e

-- the parts from a place on, the first of them with its number, with the row's sizes beside them
module _ (rows ps : List ℕ) (n : ℕ) where
  abbrev pub parts_at : ℕ → List Sized
  parts_at k = sized_from (n + k) (drop k ps)

  abbrev pub pieces_at : CharacterSet → List ℕ → ℕ → ℕ → List Piece
  pieces_at set text far k = parts_given set text (get_or rows 1 0 + far) (parts_at k) (drop k (take 7 (drop 3 rows)))

  abbrev pub size_at : ℕ → ℕ
  size_at k = get_or rows (3 + k) 0

  -- what is told of them, which begin so far into the record; the place is known up to 2^64 - 1
  pub record PartsLeft (told : ℕ → Type 0) (place k : ℕ) : Type 0 where
    pub few : length ps ≤ 7
    pub far : ℕ
    pub stops : place ≡ min far 0xFFFF_FFFF_FFFF_FFFF
    pub tells : told far

  -- those before them and their sizes come to the whole; the first of them at fault is the first of all
  abbrev pub Summed : ℕ → ℕ → Type 0
  Summed k far =
      (set : CharacterSet) (text : List ℕ)
      → far + all_sizes (pieces_at set text far k) ≡ (layout_of (get_or rows 0 0)).fixed_length + all_sizes (values_of_row set text rows).parts

  abbrev pub Faulted : CharacterSet → List ℕ → ℕ → ℕ → Type 0
  Faulted set text k far =
      first_unfit_part (parts_at k) (pieces_at set text far k) ≡ first_unfit_part (sized_parts (layout_of (get_or rows 0 0))) (values_of_row set text rows).parts

  module _ (are : sized_from n ps ≡ sized_parts (layout_of (get_or rows 0 0))) where
    all-parts : parts_at 0 ≡ sized_parts (layout_of (get_or rows 0 0))
    all-parts = rw (add-zero n) are

    -- all of them to begin with
    pub all-pieces : (set : CharacterSet) (text : List ℕ) → pieces_at set text (layout_of (get_or rows 0 0)).fixed_length 0 ≡ (values_of_row set text rows).parts
    unfolding values_of_row values_at
    all-pieces set text = rw all-parts

    pub parts_first : {told : ℕ → Type 0} → told (layout_of (get_or rows 0 0)).fixed_length → {place : ℕ} → place ≡ (layout_of (get_or rows 0 0)).fixed_length → place ≤ 0xFFFF_FFFF_FFFF_FFFF
        → PartsLeft told place 0
    parts_first t e h = record { few = few-own rows ps n are; far = (layout_of (get_or rows 0 0)).fixed_length; stops = omega (arith, e, h); tells = t }

    module _ {place : ℕ} (e : place ≡ (layout_of (get_or rows 0 0)).fixed_length) (h : place ≤ 0xFFFF_FFFF_FFFF_FFFF) where
      pub sizes-first : PartsLeft (Summed 0) place 0
      sizes-first = parts_first (λ set text. ap (λ (ps : List Piece). (layout_of (get_or rows 0 0)).fixed_length + all_sizes ps) (all-pieces set text)) e h

      pub faults-first : (set : CharacterSet) (text : List ℕ) → PartsLeft (Faulted set text 0) place 0
      faults-first set text = parts_first (ap₂ first_unfit_part all-parts (all-pieces set text)) e h

  -- one turn
  module _ {told : ℕ → Type 0} {place k : ℕ} (left : PartsLeft told place k) (inside : k < length ps) where
    next-part : parts_at k ≡ sized_of (n + k) (get_or ps k 0) ∷ parts_at (k + 1)
    next-part = let e : n + k + 1 ≡ n + (k + 1) = omega arith in rw (rest ps k inside, e)

    next-size : get_or (drop k (take 7 (drop 3 rows))) 0 0 ≡ size_at k
    next-size =
        get_or-drop k (take 7 (drop 3 rows)) 0 0
        ∙ rw (add-zero k) (get_or-take 7 (drop 3 rows) k 0 (omega (arith, left.few)) ∙ get_or-drop 3 rows k 0)

    pub next-piece : (set : CharacterSet) (text : List ℕ) (far : ℕ)
        → pieces_at set text far k
        ≡ piece set text (sized_of (n + k) (get_or ps k 0)).data_type (get_or rows 1 0 + far) (size_at k) ∷ pieces_at set text (far + size_at k) (k + 1)
    next-piece set text far = rw (next-part, next-size, drop-drop 1 k (take 7 (drop 3 rows)), add_assoc (get_or rows 1 0) far (size_at k))

    pub parts-on : {then : ℕ → Type 0} {next : ℕ} → next ≡ min (place + size_at k) 0xFFFF_FFFF_FFFF_FFFF → then (left.far + size_at k) → PartsLeft then next (k + 1)
    parts-on e t = record { few = left.few; far = left.far + size_at k; stops = omega (arith, left.stops); tells = t }

  module _ {place k : ℕ} (left : PartsLeft (Summed k) place k) where
    pub sizes-none : length ps ≤ k → (set : CharacterSet) (text : List ℕ)
        → place ≡ min ((layout_of (get_or rows 0 0)).fixed_length + all_sizes (values_of_row set text rows).parts) 0xFFFF_FFFF_FFFF_FFFF
    unfolding all_sizes
    sizes-none h set text = omega (arith, left.stops, rw (drop_of_length-le ps h) at (left.tells set text))

    pub sizes-on : k < length ps → {next : ℕ} → next ≡ min (place + size_at k) 0xFFFF_FFFF_FFFF_FFFF → PartsLeft (Summed (k + 1)) next (k + 1)
    unfolding all_sizes
    sizes-on inside e =
        let t = (sized_of (n + k) (get_or ps k 0)).data_type in
        parts-on left inside e (λ set text. omega (arith, left.tells set text, ap all_sizes (next-piece left inside set text left.far), piece-size set text t (get_or rows 1 0 + left.far) (size_at k)))

  module _ (set : CharacterSet) (text : List ℕ) {place k : ℕ} (left : PartsLeft (Faulted set text k) place k) where
    abbrev asked : ℕ
    asked = first_unfit_part (sized_parts (layout_of (get_or rows 0 0))) (values_of_row set text rows).parts

    pub faults-none : length ps ≤ k → 0 ≡ asked
    unfolding first_unfit_part
    faults-none h = rw (drop_of_length-le ps h) at left.tells

    module _ (inside : k < length ps) (short : length text ≤ 0xFFFF_FFFF_FFFF_FFFF) where
      abbrev fits_here : Bool
      fits_here = part_fits set text (sized_of (n + k) (get_or ps k 0)).data_type (get_or rows 1 0 + place) (size_at k)

      abbrev others : ℕ
      others = first_unfit_part (parts_at (k + 1)) (pieces_at set text (left.far + size_at k) (k + 1))

      part-turn : cond fits_here others (n + k) ≡ asked
      unfolding first_unfit_part
      part-turn =
          let t = (sized_of (n + k) (get_or ps k 0)).data_type in
          ap (λ (p : Piece). cond (is_here p && of_type Ascii t (characters_of p)) others (n + k))
          (stopped set text t (get_or rows 1 0) place left.far (size_at k) short left.stops)
          ∙ sym (ap₂ first_unfit_part (next-part left inside) (next-piece left inside set text left.far))
          ∙ left.tells

      pub part-unfit : fits_here ≡ false → n + k ≡ asked
      part-unfit e = rw e at part-turn

      pub faults-on : fits_here ≡ true → {next : ℕ} → next ≡ min (place + size_at k) 0xFFFF_FFFF_FFFF_FFFF → PartsLeft (Faulted set text (k + 1)) next (k + 1)
      faults-on f e = parts-on left inside e (rw f at part-turn)

-- the sizes of the parts from a place on, as the row gives them
pub record SizesLeft (rows sizes : List ℕ) (size k : ℕ) : Type 0 where
  pub ps : List ℕ
  pub n : ℕ
  pub are : sizes ≡ take (length ps) (drop 3 rows)
  pub whole : 10 ≤ length rows
  pub left : PartsLeft rows ps n (Summed rows ps n k) size k

pub sizes_first : (rows ps : List ℕ) (n : ℕ) → sized_from n ps ≡ sized_parts (layout_of (get_or rows 0 0)) → {place : ℕ} → place ≡ (layout_of (get_or rows 0 0)).fixed_length
    → place ≤ 0xFFFF_FFFF_FFFF_FFFF → 10 ≤ length rows → {sizes : List ℕ} → sizes ≡ take (length ps) (drop 3 rows) → SizesLeft rows sizes place 0
sizes_first rows ps n is e h whole are = record { ps = ps; n = n; are = are; whole = whole; left = sizes-first rows ps n is e h }

module _ {rows sizes : List ℕ} {size k : ℕ} (s : SizesLeft rows sizes size k) where
  long : length sizes ≡ length s.ps
  long = omega (arith, s.left.few, s.whole, ap length s.are, length-take (length s.ps) (drop 3 rows), length-drop 3 rows)

  pub sizes_on : k < length sizes → {next : ℕ} → next ≡ min (size + get_or sizes k 0) 0xFFFF_FFFF_FFFF_FFFF → SizesLeft rows sizes next (k + 1)
  sizes_on inside e =
      let within : k < length s.ps = omega (arith, long) in
      let same : get_or sizes k 0 ≡ get_or rows (3 + k) 0 =
      ap (λ (xs : List ℕ). get_or xs k 0) s.are ∙ get_or-take (length s.ps) (drop 3 rows) k 0 within ∙ get_or-drop 3 rows k 0 in
      record { ps = s.ps; n = s.n; are = s.are; whole = s.whole; left = sizes-on rows s.ps s.n s.left within (e ∙ ap (λ (x : ℕ). min (size + x) 0xFFFF_FFFF_FFFF_FFFF) same) }

  pub sizes_none : length sizes ≤ k → (set : CharacterSet) (text : List ℕ)
      → size ≡ min ((layout_of (get_or rows 0 0)).fixed_length + all_sizes (values_of_row set text rows).parts) 0xFFFF_FFFF_FFFF_FFFF
  sizes_none h = sizes-none rows s.ps s.n s.left (omega (arith, long))
