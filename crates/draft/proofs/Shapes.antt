-- Values have a piece for each given field, as long as the field, and one for each part: so a completed record is as long as its layout and its
-- parts say. Assumes nothing.
use Prim.Native.Nat.{ℕ, zero, suc, ◌+◌, ◌-◌, ◌/◌, ◌≤◌}
use native.Mathlib.Omega.{arith}
use mathlib.Core.Bool.{Bool, true, false, ◌||◌, cond}
use mathlib.Core.List.{List, [], ◌∷◌, ◌++◌, map}
use mathlib.Core.Path.{◌≡◌, refl, ap, ap₂, ◌∙◌}
use borrow.Author.Tests.{eqb-true, leb-true}
use lib.Dec.{leb, eqb}
use lib.ListN.{length, get_or, take, drop, length-append, length-take, length-drop}
use Rattle.text.specs.declared.character_set.CharacterSet.{CharacterSet}
use Rattle.text.specs.declared.character_set.CharacterSet.TheVariants.{Ascii, Ebcdic}
use Rattle.text.specs.declared.data_types.DataType.{DataType}
use Rattle.decimal.specs.Digits.{digits, fits}
use Rattle.decimal.proofs.Laws.{digits_long}
use Rattle.copying.specs.Times.{times}
use Rattle.frame.specs.Frames.{part}
use Rattle.layout.specs.Layout.{Line, Sized, sized_parts}
use Rattle.judge.specs.Alone.{type_of}
use Rattle.standing.specs.declared.Standing.{Standing}
use Rattle.standing.specs.Standing.{capped_figures}
use Rattle.ascii_copy.proofs.Records.{length-as}
use Rattle.draft.specs.Values.{Piece, here, missing, Values, is_given, in_ascii, piece, fields_given, parts_given, layout_of, values_at, values_of_row, values_of_rows, values_of_draft, values_of_body, set_of_text}
use Rattle.draft.specs.Completed.{size_of, is_here, characters_of, own_statement, statement, leaves_blank, worked_out, fixed_part, all_parts, all_sizes, completed, first_unfit}
use Rattle.draft.proofs.Own.{every-layout}

-- the sizes of the given fields among lines, and of all of them together
abbrev pub given_sizes : List Line → List ℕ
given_sizes [] = []
given_sizes (l ∷ ls) = cond (is_given l.origin) (l.size ∷ given_sizes ls) (given_sizes ls)

abbrev line_sizes : List Line → ℕ
line_sizes [] = 0
line_sizes (l ∷ ls) = l.size + line_sizes ls

-- pieces that are as long as the lines that they stand for, and one for each part
pub record Shaped (v : Values) : Type 0 where
  pub fields : map size_of v.fields ≡ given_sizes (layout_of v.type).lines
  pub parts : length v.parts ≡ length (sized_parts (layout_of v.type))

-- a piece is as long as it was asked for
module _ (set : CharacterSet) (text : List ℕ) where
  length-ascii : (s : CharacterSet) (t : DataType) (xs : List ℕ) → length (in_ascii s t xs) ≡ length xs
  length-ascii Ascii t xs = refl
  length-ascii Ebcdic t xs = length-as t xs

  part-long : (start size : ℕ) → eqb size 0 || leb (start + size) (length text) ≡ true → length (part start size text) ≡ size
  part-long start size e = by (eqb size 0) refl e
    where
      by : (c : Bool) → eqb size 0 ≡ c → c || leb (start + size) (length text) ≡ true → length (part start size text) ≡ size
      by true q f = let none = eqb-true size 0 q in simp (length-take, length-drop) (omega arith)
      by false q f = let fits = leb-true (start + size) (length text) f in simp (length-take, length-drop) (omega arith)

  size-of-piece : (t : DataType) (start size : ℕ) → size_of (piece set text t start size) ≡ size
  size-of-piece t start size = by (eqb size 0 || leb (start + size) (length text)) refl
    where
      by : (c : Bool) → eqb size 0 || leb (start + size) (length text) ≡ c
          → size_of (cond c (here (in_ascii set t (part start size text))) (missing size)) ≡ size
      by true q = length-ascii set t (part start size text) ∙ part-long start size q
      by false q = refl

  sizes-given : (start : ℕ) (ls : List Line) → map size_of (fields_given set text start ls) ≡ given_sizes ls
  sizes-given start [] = refl
  sizes-given start (l ∷ ls) = by (is_given l.origin) (sizes-given start ls)
    where
      by : (c : Bool) → map size_of (fields_given set text start ls) ≡ given_sizes ls
          → map size_of (cond c (piece set text l.data_type (start + (l.first - 1)) l.size ∷ fields_given set text start ls) (fields_given set text start ls))
          ≡ cond c (l.size ∷ given_sizes ls) (given_sizes ls)
      by true e = ap₂ (λ (n : ℕ) (ns : List ℕ). n ∷ ns) (size-of-piece l.data_type (start + (l.first - 1)) l.size) e
      by false e = e

  parts-given : (at : ℕ) (ss : List Sized) (sizes : List ℕ) → length (parts_given set text at ss sizes) ≡ length ss
  parts-given at [] sizes = refl
  parts-given at (s ∷ ss) sizes = ap suc (parts-given (at + get_or sizes 0 0) ss (drop 1 sizes))

pub shaped-at : (set : CharacterSet) (text : List ℕ) (t : ℕ) (blank : Bool) (start : ℕ) (sizes : List ℕ) → Shaped (values_at set text t blank start sizes)
unfolding values_at
shaped-at set text t blank start sizes =
    record {
      fields = sizes-given set text start (layout_of t).lines;
      parts = parts-given set text (start + (layout_of t).fixed_length) (sized_parts (layout_of t)) sizes;
    }

pub shaped_row : (set : CharacterSet) (text numbers : List ℕ) → Shaped (values_of_row set text numbers)
unfolding values_of_row
shaped_row set text numbers = shaped-at set text (get_or numbers 0 0) _ (get_or numbers 1 0) (take 7 (drop 3 numbers))

pub shaped-body : (set : CharacterSet) (b : List ℕ) → Shaped (values_of_body set b)
unfolding values_of_body
shaped-body set b = shaped-at set b (type_of set b) _ 0 _

abbrev pub AllShaped : List Values → Type 0
AllShaped [] = Unit {0}
AllShaped (v ∷ vs) = Shaped v × AllShaped vs

shaped-rows : (set : CharacterSet) (text : List ℕ) (n : ℕ) (numbers : List ℕ) → AllShaped (values_of_rows set text n numbers)
unfolding values_of_rows
shaped-rows set text zero numbers = tt
shaped-rows set text (suc n) numbers = (shaped_row set text numbers, shaped-rows set text n (drop 10 numbers))

pub shaped-draft : (text draft : List ℕ) → AllShaped (values_of_draft text draft)
unfolding values_of_draft
shaped-draft text draft = shaped-rows (set_of_text text draft) text (length draft / 10) draft

-- what stands for a piece is as long as the piece
length-times : (n x : ℕ) → length (times n x) ≡ n
length-times zero x = refl
length-times (suc n) x = ap suc (length-times n x)

pub piece-long : (p : Piece) → length (characters_of p) ≡ size_of p
piece-long (here xs) = refl
piece-long (missing n) = length-times n 0

pub parts-long : (ps : List Piece) → length (all_parts ps) ≡ all_sizes ps
unfolding all_parts all_sizes
parts-long [] = refl
parts-long (p ∷ ps) = length-append (characters_of p) (all_parts ps) ∙ ap₂ ◌+◌ (piece-long p) (parts-long ps)

-- a field that is not the first at fault
pub right-line : (t : Bool) (n others : ℕ) → 1 ≤ n → cond t others n ≡ 0 → (t ≡ true) × (others ≡ 0)
right-line true n others h e = (refl, e)
right-line false n others h e = absurd (omega arith)

-- and a line as its size says
module _ (v : Values) (addenda : ℕ) (s : Standing) where
  pub worked-out-long : (l : Line) → length (worked_out v addenda s l) ≡ l.size
  worked-out-long l = by (leaves_blank v l.origin)
    where
      by : (c : Bool) → length (cond c (times l.size 0x20) (digits l.size (statement v addenda s l.first l.origin))) ≡ l.size
      by true = length-times l.size 0x20
      by false = digits_long l.size (statement v addenda s l.first l.origin)

  -- the characters of a line in front of the others, with the pieces that are left for those
  pub record Front (l : Line) (ls : List Line) (ps : List Piece) : Type 0 where
    pub own : List ℕ
    pub others : List Piece
    pub is : fixed_part v addenda s (l ∷ ls) ps ≡ own ++ fixed_part v addenda s ls others
    pub long : length own ≡ l.size
    pub shape : map size_of others ≡ given_sizes ls
    pub fit : 1 ≤ l.number → first_unfit v addenda (l ∷ ls) ps ≡ 0 → first_unfit v addenda ls others ≡ 0

  pub front : (l : Line) (ls : List Line) (ps : List Piece) → map size_of ps ≡ given_sizes (l ∷ ls) → Front l ls ps
  unfolding fixed_part first_unfit
  front l ls ps e = by (is_given l.origin) refl ps e
    where
      by : (c : Bool) → is_given l.origin ≡ c → (ps : List Piece) → map size_of ps ≡ cond c (l.size ∷ given_sizes ls) (given_sizes ls) → Front l ls ps
      by true q [] e = let z : ◌≡◌ {A = ℕ} 0 1 = cc in absurd (omega arith)
      by true q (p ∷ ps) e =
          let same : size_of p ≡ l.size = cc in
          record {
            own = characters_of p;
            others = ps;
            is = rw q;
            long = piece-long p ∙ same;
            shape = cc;
            fit = λ h f. (right-line (is_here p) l.number (first_unfit v addenda ls ps) h (rw q at f)).1;
          }
      by false q ps e =
          record {
            own = worked_out v addenda s l;
            others = ps;
            is = rw q;
            long = worked-out-long l;
            shape = e;
            fit = λ h f. (right-line (fits l.size (own_statement v addenda l.first l.origin)) l.number (first_unfit v addenda ls ps) h (rw q at f)).1;
          }

  lines_long : (ls : List Line) (ps : List Piece) → map size_of ps ≡ given_sizes ls → length (fixed_part v addenda s ls ps) ≡ line_sizes ls
  unfolding fixed_part
  lines_long [] ps e = refl
  lines_long (l ∷ ls) ps e =
      let f = front l ls ps e in
      ap length f.is ∙ length-append f.own (fixed_part v addenda s ls f.others) ∙ ap₂ ◌+◌ f.long (lines_long ls f.others f.shape)

  pub fixed-long : Shaped v → length (fixed_part v addenda s (layout_of v.type).lines v.fields) ≡ (layout_of v.type).fixed_length
  fixed-long shaped =
      lines_long (layout_of v.type).lines v.fields shaped.fields
      ∙ eqb-true (line_sizes (layout_of v.type).lines) (layout_of v.type).fixed_length
      (every-layout (λ k. eqb (line_sizes k.lines) k.fixed_length) v.type refl)

pub completed-long : (v : Values) (addenda : ℕ) (s : Standing) → Shaped v
    → length (completed v addenda s) ≡ (layout_of v.type).fixed_length + all_sizes v.parts
unfolding completed
completed-long v addenda s shaped =
    length-append (fixed_part v addenda (capped_figures s) (layout_of v.type).lines v.fields) (all_parts v.parts)
    ∙ ap₂ ◌+◌ (fixed-long v addenda (capped_figures s) shaped) (parts-long v.parts)
