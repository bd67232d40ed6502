-- The fixed part set down at once, as characters, and the lines that are worked out over it: what is given stands there already. Assumes nothing.
use Prim.Native.Nat.{ℕ, suc, ◌+◌, ◌-◌, ◌/◌, ◌%◌, ◌≤◌, ◌<◌}
use native.Mathlib.Nat.{add-zero}
use native.Mathlib.Omega.{arith}
use mathlib.Core.Bool.{Bool, true, false, ◌&&◌, ◌||◌}
use mathlib.Core.List.{List, [], ◌∷◌, ◌++◌, append_assoc}
use mathlib.Core.Path.{◌≡◌, refl, ap, ap₂, sym, ◌∙◌}
use borrow.Author.Tests.{eqb-true, ne_eqb, leb-true, le-leb}
use lib.Dec.{leb, eqb}
use lib.ListN.{length, get_or, take, drop, set, length-append, get_or-append}
use lib.Seq.{sets, sets-eq, length-sets, length-take-le, set-get_or, get_or-set_other, get_or-append-add, take_at, drop_at}
use Rattle.text.specs.declared.character_set.CharacterSet.{CharacterSet}
use Rattle.text.specs.declared.character_set.CharacterSet.TheVariants.{Ascii, Ebcdic}
use Rattle.text.specs.declared.data_types.DataType.{DataType}
use Rattle.text.specs.declared.data_types.DataType.TheVariants.{N}
use Rattle.frame.specs.Frames.{part}
use Rattle.layout.specs.Layout.{Line}
use Rattle.layout.specs.Packing.{origin_of, lines_from}
use Rattle.standing.specs.declared.Standing.{Standing}
use Rattle.ascii_copy.specs.CodePage037.{counterpart}
use Rattle.ascii_copy.proofs.Characters.{is_characters, copied-as, and_left, and_right}
use Rattle.copying.proofs.Laws.{part_at, translated-at}
use Rattle.draft.specs.Values.{is_given, in_ascii, piece, layout_of}
use Rattle.draft.specs.Completed.{characters_of}
use Rattle.draft.proofs.Own.{every-layout}
use Rattle.draft.proofs.Shapes.{piece-long}
use Rattle.draft_rows.proofs.Parts.{piece-size}
use Rattle.completing.proofs.Laws.{own_of, together, whole_of, all-long, lines_at, next, first-whole, Left, left-all, left-none, this, one, both, left-on}

-- what stands in a list after another is set down in it
get_d-behind : (xs l : List ℕ) (at k : ℕ) → at + length xs ≤ k → get_or (sets l at xs) k 0 ≡ get_or l k 0
get_d-behind [] l at k h = refl
get_d-behind (x ∷ xs) l at k h = get_d-behind xs (set l at x) (suc at) k (omega arith) ∙ get_or-set_other l at k x 0 (λ e. omega arith)

module _ (xs l : List ℕ) (at : ℕ) (fits : at + length xs ≤ length l) where
  front_long : length (take at l) ≡ at
  front_long = length-take-le at l (omega arith)

  both_long : length (take at l ++ xs) ≡ at + length xs
  both_long = length-append (take at l) xs ∙ rw front_long

  get_d-within : (j : ℕ) → j < length xs → get_or (sets l at xs) (at + j) 0 ≡ get_or xs j 0
  get_d-within j h =
      rw (sets-eq xs l at fits)
      (get_or-append (take at l ++ xs) (drop (at + length xs) l) 0 (at + j) (omega (arith, both_long))
      ∙ ap (λ (k : ℕ). get_or (take at l ++ xs) (k + j) 0) (sym front_long)
      ∙ get_or-append-add (take at l) xs j 0)

  -- one list over another that is as long
  pub sets_over : (ys : List ℕ) → length ys ≡ length xs → sets (sets l at xs) at ys ≡ sets l at ys
  sets_over ys same =
      let rest = drop (at + length xs) l in
      let room : at + length ys ≤ length (sets l at xs) = omega (arith, length-sets l at xs) in
      let front : take at (sets l at xs) ≡ take at l =
      ap (take at) (sets-eq xs l at fits ∙ append_assoc (take at l) xs rest) ∙ take_at (take at l) (xs ++ rest) at front_long in
      let behind : drop (at + length ys) (sets l at xs) ≡ drop (at + length ys) l =
      ap (drop (at + length ys)) (sets-eq xs l at fits)
      ∙ drop_at (take at l ++ xs) rest (at + length ys) (omega (arith, both_long))
      ∙ ap (λ (n : ℕ). drop (at + n) l) (sym same) in
      sets-eq ys (sets l at xs) at room ∙ ap₂ (λ (a b : List ℕ). a ++ ys ++ b) front behind ∙ sym (sets-eq ys l at (omega arith))

-- what stands already is set down in vain
sets-again : (xs l : List ℕ) (at : ℕ) → ((j : ℕ) → j < length xs → get_or l (at + j) 0 ≡ get_or xs j 0) → l ≡ sets l at xs
sets-again [] l at e = refl
sets-again (x ∷ xs) l at e =
    let first : get_or l at 0 ≡ x = ap (λ (k : ℕ). get_or l k 0) (sym (add-zero at)) ∙ e 0 (omega arith) in
    let same : set l at x ≡ l = ap (set l at) (sym first) ∙ set-get_or l at 0 in
    rw same
    (sets-again xs l (suc at)
    (λ j h. let k : suc at + j ≡ at + suc j = omega arith in ap (λ (n : ℕ). get_or l n 0) k ∙ e (suc j) (omega arith)))

-- a byte of the text in ASCII
abbrev pub shown : CharacterSet → ℕ → ℕ
shown Ascii x = x
shown Ebcdic x = counterpart x

or-second : (a b : Bool) → b ≡ true → a || b ≡ true
or-second true b e = refl
or-second false b e = e

-- characters that lie in the text, one by one
module _ (text : List ℕ) (t : DataType) (characters : is_characters t ≡ true) (from size : ℕ) (lies : from + size ≤ length text) where
  shown-at : (set : CharacterSet) (j : ℕ) → j < size → shown set (get_or text (from + j) 0) ≡ get_or (in_ascii set t (part from size text)) j 0
  shown-at Ascii j h = part_at text from size lies j h
  shown-at Ebcdic j h = translated-at text from size lies j h ∙ ap (λ (xs : List ℕ). get_or xs j 0) (sym (copied-as t (part from size text) characters))

  piece-at : (set : CharacterSet) (j : ℕ) → j < size → shown set (get_or text (from + j) 0) ≡ get_or (characters_of (piece set text t from size)) j 0
  piece-at set j h = rw (or-second (eqb size 0) (leb (from + size) (length text)) (le-leb (from + size) (length text) lies)) (shown-at set j h)

-- computed of the layouts: lines that lie end to end from a place on, and none of them Binary
abbrev pub laid : ℕ → List Line → Bool
laid far [] = true
laid far (l ∷ ls) = eqb (l.first - 1) far && (is_characters l.data_type && laid (far + l.size) ls)

all_laid_lem : (t : ℕ) → laid 0 (layout_of t).lines ≡ true
all_laid_lem t = every-layout (λ k. laid 0 k.lines) t refl

-- no fixed part is empty, so that one lies in the text as far as its length says
pub fixed-lies : (t n start size : ℕ) → size ≡ (layout_of t).fixed_length → eqb size 0 || leb (start + 0 + size) n ≡ true → start + (layout_of t).fixed_length ≤ n
fixed-lies t n start size is e =
    let some = leb-true 1 (layout_of t).fixed_length (every-layout (λ k. leb 1 k.fixed_length) t refl) in
    omega (arith, leb-true (start + 0 + size) n (rw (ne_eqb size 0 (λ z. omega arith)) at e))

module _ (set : CharacterSet) (text rows : List ℕ) (addenda : ℕ) (s : Standing) where
  abbrev start : ℕ
  start = get_or rows 1 0

  module _ (ps : List ℕ) where
    abbrev left : ℕ → ℕ
    left k = length (together set text rows addenda s (lines_at set text rows addenda s ps k))

    -- the lines that are left, before which so many bytes of the record lie, stand as the text has them
    pub record Over (out₀ : List ℕ) (at : ℕ) (out : List ℕ) (place k : ℕ) : Type 0 where
      pub lines : Left set text rows addenda s ps out₀ at out place k
      pub far : ℕ
      pub follow : laid far (lines_at set text rows addenda s ps k) ≡ true
      pub lies : start + far + left k ≤ length text
      pub stands : (j : ℕ) → j < left k → get_or out (place + j) 0 ≡ shown set (get_or text (start + far + j) 0)

    -- the whole of it set down
    module _ (are : lines_from 1 ps ≡ (layout_of (get_or rows 0 0)).lines) (size : ℕ) (fixed : size ≡ (layout_of (get_or rows 0 0)).fixed_length)
        (out : List ℕ) (at : ℕ) (room : at + (layout_of (get_or rows 0 0)).fixed_length ≤ length out) (out₀ : List ℕ)
        (is : out₀ ≡ sets out at (characters_of (piece set text N (start + 0) size))) where
      whole_long : length (characters_of (piece set text N (start + 0) size)) ≡ size
      whole_long = piece-long (piece set text N (start + 0) size) ∙ piece-size set text N (start + 0) size

      pub over-long : length out₀ ≡ length out
      over-long = ap length is ∙ length-sets out at (characters_of (piece set text N (start + 0) size))

      pub over_first : start + (layout_of (get_or rows 0 0)).fixed_length ≤ length text → Over out₀ at out₀ at 0
      over_first lies =
          let same : left 0 ≡ size = ap length (first-whole set text rows addenda s ps are) ∙ all-long set text rows addenda s ∙ sym fixed in
          record {
            lines = left-all set text rows addenda s ps are out₀ at (omega (arith, over-long));
            far = 0;
            follow = rw are (all_laid_lem (get_or rows 0 0));
            lies = omega (arith, same, fixed);
            stands =
                λ j h. ap (λ (l : List ℕ). get_or l (at + j) 0) is
                ∙ get_d-within (characters_of (piece set text N (start + 0) size)) out at (omega (arith, whole_long, fixed)) j (omega (arith, whole_long, same))
                ∙ sym (piece-at text N refl (start + 0) size (omega (arith, fixed)) set j (omega (arith, same)));
          }

      pub over_last : {out' : List ℕ} {place k : ℕ} → Over out₀ at out' place k → length ps ≤ k → out' ≡ sets out at (whole_of set text rows addenda s)
      over_last over h =
          left-none set text rows addenda s ps over.lines h
          ∙ ap (λ (l : List ℕ). sets l at (whole_of set text rows addenda s)) is
          ∙ sets_over (characters_of (piece set text N (start + 0) size)) out at (omega (arith, whole_long, fixed)) (whole_of set text rows addenda s)
          (all-long set text rows addenda s ∙ sym (whole_long ∙ fixed))

    module _ {out₀ out : List ℕ} {at place k : ℕ} (over : Over out₀ at out place k) (inside : k < length ps) where
      abbrev line : Line
      line = this set text rows addenda s ps over.lines inside

      long : length (own_of set text rows addenda s line) ≡ line.size
      long = (one set text rows addenda s ps over.lines inside).long

      count : left k ≡ line.size + left (k + 1)
      count =
          ap length (both set text rows addenda s ps over.lines inside)
          ∙ length-append (own_of set text rows addenda s line) (together set text rows addenda s (lines_at set text rows addenda s ps (k + 1)))
          ∙ ap (λ (n : ℕ). n + left (k + 1)) long

      follows : laid over.far (line ∷ lines_at set text rows addenda s ps (k + 1)) ≡ true
      follows = rw (next set text rows addenda s ps k inside) at over.follow

      place-told : line.first - 1 ≡ over.far
      place-told = eqb-true (line.first - 1) over.far (and_left (eqb (line.first - 1) over.far) _ follows)

      kinds : is_characters line.data_type && laid (over.far + line.size) (lines_at set text rows addenda s ps (k + 1)) ≡ true
      kinds = and_right (eqb (line.first - 1) over.far) _ follows

      -- a line that is given is set down in vain
      pub over-given : get_or ps k 0 / 0x2_0000_0000 % 0x80 ≡ 0 → out ≡ sets out place (own_of set text rows addenda s line)
      over-given e =
          let given : is_given line.origin ≡ true = ap (λ (n : ℕ). is_given (origin_of n)) e in
          let own_is : own_of set text rows addenda s line ≡ characters_of (piece set text line.data_type (start + over.far) line.size) = rw (given, place-told) in
          rw own_is
          (sets-again (characters_of (piece set text line.data_type (start + over.far) line.size)) out place
          (λ j h. over.stands j (omega (arith, count, ap length own_is, long))
          ∙ piece-at text line.data_type (and_left (is_characters line.data_type) _ kinds) (start + over.far) line.size (omega (arith, over.lies, count)) set j
          (omega (arith, ap length own_is, long))))

      pub over-on : (out' : List ℕ) → out' ≡ sets out place (own_of set text rows addenda s line) → Over out₀ at out' (place + line.size) (k + 1)
      over-on out' e =
          record {
            lines = left-on set text rows addenda s ps over.lines inside out' e;
            far = over.far + line.size;
            follow = and_right (is_characters line.data_type) _ kinds;
            lies = omega (arith, over.lies, count);
            stands =
                λ j h. let p : place + line.size + j ≡ place + (line.size + j) = omega arith in
                let q : start + over.far + (line.size + j) ≡ start + (over.far + line.size) + j = omega arith in
                ap (λ (l : List ℕ). get_or l (place + line.size + j) 0) e
                ∙ get_d-behind (own_of set text rows addenda s line) out place (place + line.size + j) (omega (arith, long))
                ∙ ap (λ (k : ℕ). get_or out k 0) p
                ∙ over.stands (line.size + j) (omega (arith, count))
                ∙ ap (λ (k : ℕ). shown set (get_or text k 0)) q;
          }
