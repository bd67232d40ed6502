-- A record's lines set down one after the other: what is still to be set down gives the whole fixed part. Assumes nothing.
use Prim.Native.Nat.{ℕ, suc, ◌+◌, ◌-◌, ◌≤◌, ◌<◌}
use native.Mathlib.Nat.{add-zero}
use native.Mathlib.Omega.{arith}
use mathlib.Core.Bool.{Bool, true, false, ◌||◌, cond}
use mathlib.Core.List.{List, [], ◌∷◌, ◌++◌, map}
use mathlib.Core.Path.{◌≡◌, refl, ap, sym, ◌∙◌}
use borrow.Author.Tests.{ne_eqb, leb-true}
use lib.Dec.{leb, eqb}
use lib.ListN.{length, get_or, drop, set, length-append, drop_of_length-le}
use lib.Seq.{sets, length-sets}
use Rattle.text.specs.declared.character_set.CharacterSet.{CharacterSet}
use Rattle.text.specs.declared.character_set.CharacterSet.TheVariants.{Ascii, Ebcdic}
use Rattle.text.specs.declared.data_types.DataType.{DataType}
use Rattle.text.proofs.Laws.{rest}
use Rattle.frame.specs.Frames.{part}
use Rattle.copying.specs.Times.{times}
use Rattle.decimal.specs.Digits.{digits}
use Rattle.layout.specs.declared.packing.Origin.{Origin}
use Rattle.layout.specs.Layout.{Line}
use Rattle.layout.specs.Packing.{line_of, lines_from}
use Rattle.standing.specs.declared.Standing.{Standing}
use Rattle.ascii_copy.specs.AsciiCopy.{translated}
use Rattle.ascii_copy.proofs.Records.{length-as}
use Rattle.draft.specs.Values.{Piece, is_given, in_ascii, piece, fields_given, layout_of, values_at, values_of_row}
use Rattle.draft.specs.Completed.{size_of, characters_of, statement, leaves_blank, worked_out, fixed_part}
use Rattle.draft.proofs.Shapes.{given_sizes, shaped_row, piece-long, worked-out-long, fixed-long}

-- nothing is given in no characters
nothing : (xs : List ℕ) → length xs ≡ 0 → xs ≡ []
nothing [] e = refl
nothing (x ∷ xs) e = absurd (omega arith)

none-given : (set : CharacterSet) (t : DataType) → in_ascii set t [] ≡ []
none-given Ascii t = refl
none-given Ebcdic t = nothing (in_ascii Ebcdic t []) (length-as t [])

-- what stands for a piece: its characters as they are or translated, 00s outside the text, none of none
module _ (set : CharacterSet) (text : List ℕ) (t : DataType) (start size : ℕ) where
  pub piece-as : eqb size 0 || leb (start + size) (length text) ≡ true → {kept b : Bool}
      → in_ascii set t (part start size text) ≡ cond kept (part start size text) (translated (part start size text)) → kept ≡ b
      → cond b (part start size text) (translated (part start size text)) ≡ characters_of (piece set text t start size)
  piece-as e is k = rw e (sym (is ∙ rw k))

  pub piece-missing : eqb size 0 || leb (start + size) (length text) ≡ false → times size 0 ≡ characters_of (piece set text t start size)
  piece-missing e = rw e

  pub piece-none : size ≡ 0 → [] ≡ characters_of (piece set text t start size)
  piece-none e = rw e (sym (none-given set t))

pub lies_in : (n start size : ℕ) → eqb size 0 || leb (start + size) n ≡ true → (size ≡ 0 → ⊥) → start + size ≤ n
lies_in n start size e some = leb-true (start + size) n (rw (ne_eqb size 0 some) at e)

-- one list behind another
pub sets_behind : (l : List ℕ) (at : ℕ) (xs ys : List ℕ) → sets l at (xs ++ ys) ≡ sets (sets l at xs) (at + length xs) ys
sets_behind l at [] ys = ap (λ (k : ℕ). sets l k ys) (sym (add-zero at))
sets_behind l at (x ∷ xs) ys =
    let e : suc at + length xs ≡ at + suc (length xs) = omega arith in
    sets_behind (set l at x) (suc at) xs ys ∙ ap (λ (k : ℕ). sets (sets (set l at x) (suc at) xs) k ys) e

-- the characters of a line, given or worked out
module _ (set : CharacterSet) (text rows : List ℕ) (addenda : ℕ) (s : Standing) where
  abbrev pub own_of : Line → List ℕ
  own_of l =
      cond (is_given l.origin) (characters_of (piece set text l.data_type (get_or rows 1 0 + (l.first - 1)) l.size))
      (worked_out (values_of_row set text rows) addenda s l)

  -- they are set down as its origin says
  module _ (l : Line) {o : Origin} (is : o ≡ l.origin) where
    pub line-given : {given : Bool} → given ≡ is_given o → given ≡ true → {t : DataType} → t ≡ l.data_type → {place : ℕ} → place ≡ l.first - 1
        → characters_of (piece set text t (get_or rows 1 0 + place) l.size) ≡ own_of l
    line-given g e same at = let q : is_given l.origin ≡ true = ap is_given (sym is) ∙ sym g ∙ e in rw (same, at, q)

    module _ {given : Bool} (g : given ≡ is_given o) (not : given ≡ false) where
      told : is_given l.origin ≡ false
      told = ap is_given (sym is) ∙ sym g ∙ not

      module _ {blank : Bool} (b : blank ≡ leaves_blank (values_of_row set text rows) o) where
        blank-told : leaves_blank (values_of_row set text rows) l.origin ≡ blank
        blank-told = ap (leaves_blank (values_of_row set text rows)) (sym is) ∙ sym b

        pub line-blank : blank ≡ true → times l.size 0x20 ≡ own_of l
        line-blank e = rw (told, blank-told, e)

        pub line-worked-out : blank ≡ false → {n : ℕ} → n ≡ statement (values_of_row set text rows) addenda s l.first o → digits l.size n ≡ own_of l
        line-worked-out e states = rw (told, blank-told, e, states, is)

  -- those of lines, with the pieces that are given of them
  abbrev pub given : List Line → List Piece
  given ls = fields_given set text (get_or rows 1 0) ls

  abbrev pub together : List Line → List ℕ
  together ls = fixed_part (values_of_row set text rows) addenda s ls (given ls)

  -- pieces that are as long as their lines
  abbrev pub InShape : List Line → Type 0
  InShape ls = map size_of (given ls) ≡ given_sizes ls

  -- a line in front of the others
  pub record Turn (l : Line) (ls : List Line) : Type 0 where
    pub is : together (l ∷ ls) ≡ own_of l ++ together ls
    pub long : length (own_of l) ≡ l.size
    pub shape : InShape ls

  turn : (l : Line) (ls : List Line) → InShape (l ∷ ls) → Turn l ls
  unfolding fixed_part
  turn l ls e = by (is_given l.origin) refl e
    where
      p : Piece
      p = piece set text l.data_type (get_or rows 1 0 + (l.first - 1)) l.size

      by : (c : Bool) → is_given l.origin ≡ c
          → map size_of (cond c (p ∷ given ls) (given ls)) ≡ cond c (l.size ∷ given_sizes ls) (given_sizes ls)
          → Turn l ls
      by true q e =
          let same : size_of p ≡ l.size = cc in
          record { is = rw q; long = rw q (piece-long p ∙ same); shape = cc }
      by false q e = record { is = rw q; long = rw q (worked-out-long (values_of_row set text rows) addenda s l); shape = e }

  -- the whole fixed part
  abbrev pub whole_of : List ℕ
  whole_of = fixed_part (values_of_row set text rows) addenda s (layout_of (get_or rows 0 0)).lines (values_of_row set text rows).fields

  all : together (layout_of (get_or rows 0 0)).lines ≡ whole_of
  unfolding values_of_row values_at
  all = refl

  all-in-shape : InShape (layout_of (get_or rows 0 0)).lines
  unfolding values_of_row values_at
  all-in-shape = (shaped_row set text rows).fields

  pub all-long : length whole_of ≡ (layout_of (get_or rows 0 0)).fixed_length
  unfolding values_of_row values_at
  all-long = fixed-long (values_of_row set text rows) addenda s (shaped_row set text rows)

  module _ (ps : List ℕ) where
    -- the lines from a place on among the numbers
    abbrev pub lines_at : ℕ → List Line
    lines_at k = lines_from (k + 1) (drop k ps)

    pub next : (k : ℕ) → k < length ps → lines_at k ≡ line_of (k + 1) (get_or ps k 0) ∷ lines_at (k + 1)
    next k h = rw (rest ps k h)

    -- they are all the lines to begin with
    pub first-whole : lines_from 1 ps ≡ (layout_of (get_or rows 0 0)).lines → together (lines_at 0) ≡ whole_of
    first-whole are = ap together are ∙ all

    -- what is left of them behind what has been set down gives the whole
    pub record Left (out₀ : List ℕ) (at : ℕ) (out : List ℕ) (place k : ℕ) : Type 0 where
      pub long : length out ≡ length out₀
      pub room : place + length (together (lines_at k)) ≤ length out₀
      pub shape : InShape (lines_at k)
      pub onward : sets out place (together (lines_at k)) ≡ sets out₀ at whole_of

    pub left-all : lines_from 1 ps ≡ (layout_of (get_or rows 0 0)).lines → (out : List ℕ) (at : ℕ) → at + (layout_of (get_or rows 0 0)).fixed_length ≤ length out
        → Left out at out at 0
    left-all are out at h =
        record {
          long = refl;
          room = rw (first-whole are, all-long) h;
          shape = rw are all-in-shape;
          onward = ap (sets out at) (first-whole are);
        }

    module _ {out₀ out : List ℕ} {at place k : ℕ} (left : Left out₀ at out place k) where
      pub left-none : length ps ≤ k → out ≡ sets out₀ at whole_of
      unfolding fixed_part
      left-none h = rw (drop_of_length-le ps h) at left.onward

      module _ (inside : k < length ps) where
        abbrev pub this : Line
        this = line_of (k + 1) (get_or ps k 0)

        pub one : Turn this (lines_at (k + 1))
        one = turn this (lines_at (k + 1)) (rw (next k inside) at left.shape)

        pub both : together (lines_at k) ≡ own_of this ++ together (lines_at (k + 1))
        both = rw (next k inside) one.is

        roomy : place + (this.size + length (together (lines_at (k + 1)))) ≤ length out₀
        roomy = rw (both, length-append, one.long) at left.room

        pub left-room : place + this.size ≤ length out
        left-room = omega (arith, roomy, left.long)

        pub left-on : (out' : List ℕ) → out' ≡ sets out place (own_of this) → Left out₀ at out' (place + this.size) (k + 1)
        left-on out' e =
            record {
              long = ap length e ∙ length-sets out place (own_of this) ∙ left.long;
              room = omega (arith, roomy);
              shape = one.shape;
              onward =
                  ap (λ (l : List ℕ). sets l (place + this.size) (together (lines_at (k + 1)))) e
                  ∙ ap (λ (n : ℕ). sets (sets out place (own_of this)) (place + n) (together (lines_at (k + 1)))) (sym one.long)
                  ∙ sym (ap (sets out place) both ∙ sets_behind out place (own_of this) (together (lines_at (k + 1))))
                  ∙ left.onward;
            }
