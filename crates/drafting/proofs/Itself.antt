-- The rows of an arranged file give its own values, the file itself being the text. Assumes nothing.
use Prim.Native.Nat.{ℕ, zero, suc, ◌+◌, ◌-◌, ◌*◌, ◌/◌, ◌≤◌}
use native.Mathlib.Nat.{zero-add, add_assoc, not-suc-le-zero, le_of_suc-le-suc}
use native.Mathlib.Omega.{arith}
use mathlib.Core.Bool.{Bool, true, false, ◌&&◌, ◌||◌, cond}
use mathlib.Core.Path.{◌≡◌, refl, sym, ap, ap₂, ◌∙◌}
use mathlib.Core.List.{List, [], ◌∷◌, ◌++◌, map}
use borrow.Author.Tests.{leb-true, le-leb}
use lib.Dec.{leb, eqb}
use lib.ListN.{length, get_or, take, drop, length-append, length-drop}
use lib.Seq.{take_at, drop_at}
use Rattle.text.specs.CharacterSet.{set_of}
use Rattle.text.specs.declared.character_set.CharacterSet.{CharacterSet}
use Rattle.text.specs.declared.data_types.DataType.{DataType}
use Rattle.text.specs.Characters.{is_blank}
use Rattle.text.specs.DataTypes.{every}
use Rattle.frame.specs.Frames.{part}
use Rattle.layout.specs.Layout.{Line, Sized, sized_parts}
use Rattle.layout.specs.Layouts.{bundle_control}
use Rattle.judge.specs.Alone.{Sound}
use Rattle.judge.specs.Alone.{type_of, stated_size, stated_sizes, alone}
use Rattle.judge.proofs.Laws.{both_true, sound-fills}
use Rattle.standing.specs.History.{one}
use Rattle.file_as_records.specs.Framed.{Body, framed, field_of}
use Rattle.file_as_records.proofs.Good.{GoodAll}
use Rattle.file_as_records.proofs.Held.{HeldAt, within, part_held}
use Rattle.file_as_records.proofs.ReadThrough.{long, body_is, part-is, rest-is, frame_is}
use Rattle.arrangement.specs.Tree.{File}
use Rattle.arrangement.specs.Written.{records}
use Rattle.arrangement.specs.Arranged.{Arranges}
use Rattle.arrangement.proofs.Goodness.{sound-good}
use Rattle.copying.specs.Times.{times}
use Rattle.draft.specs.Values.{Piece, Values, is_given, piece, fields_given, parts_given, layout_of, values_at, values_of_row, values_of_rows, set_of_text, values_of_draft, values_of_body, values_of}
use Rattle.draft.proofs.Own.{every-layout, few-parts}
use Rattle.draft.proofs.Judged.{judged-carried}
use Rattle.drafting.specs.DraftOf.{sizes_in, row_of, rows_from, draft_rows_of}
use Rattle.drafting.proofs.Sizes.{seven}
use Rattle.drafting.proofs.Rows.{row-long, rows_end, rows_on}

or-second : (a b : Bool) → b ≡ true → a || b ≡ true
or-second true b e = refl
or-second false b e = e

-- the same bytes in two texts are the same piece
piece-same : (set : CharacterSet) (xs ys : List ℕ) (t : DataType) (i j size : ℕ) → i + size ≤ length xs → j + size ≤ length ys
    → part i size xs ≡ part j size ys → piece set xs t i size ≡ piece set ys t j size
piece-same set xs ys t i j size h k e =
    rw (
      or-second (eqb size 0) (leb (i + size) (length xs)) (le-leb (i + size) (length xs) h),
      or-second (eqb size 0) (leb (j + size) (length ys)) (le-leb (j + size) (length ys) k),
      e,
    )

-- what a row says of a blank total
flag_same : (a b : Bool) → a && eqb (one (a && b)) 1 ≡ a && b
flag_same true true = refl
flag_same true false = refl
flag_same false b = refl

-- the 0s of a row behind its last size are not looked at
sizes-enough : (set : CharacterSet) (text : List ℕ) (f : Sized → ℕ) (zs : List ℕ) (ss : List Sized) (at m : ℕ) → length ss ≤ m
    → parts_given set text at ss (take m (map f ss ++ zs)) ≡ parts_given set text at ss (map f ss)
sizes-enough set text f zs [] at m few = refl
sizes-enough set text f zs (s ∷ ss) at zero few = absurd (not-suc-le-zero few)
sizes-enough set text f zs (s ∷ ss) at (suc m) few =
    ap (λ (ps : List Piece). piece set text s.data_type at (f s) ∷ ps) (sizes-enough set text f zs ss (at + f s) m (le_of_suc-le-suc few))

-- a record's row gives the values of the record in a text that has its fields and its parts
values_same : (set : CharacterSet) (text : List ℕ) (start : ℕ) (b : Body) (others : List ℕ)
    → fields_given set text start (layout_of (type_of set b)).lines ≡ fields_given set b 0 (layout_of (type_of set b)).lines
    → parts_given set text (start + (layout_of (type_of set b)).fixed_length) (sized_parts (layout_of (type_of set b)))
    (map (λ (s : Sized). stated_size set s b) (sized_parts (layout_of (type_of set b))))
    ≡ parts_given set b (0 + (layout_of (type_of set b)).fixed_length) (sized_parts (layout_of (type_of set b)))
    (map (λ (s : Sized). stated_size set s b) (sized_parts (layout_of (type_of set b))))
    → values_of_row set text (row_of set b start ++ others) ≡ values_of_body set b
unfolding values_of_row values_of_body values_at
values_same set text start b others fields parts =
    let t = type_of set b in
    let ss = sized_parts (layout_of t) in
    let sizes : take 7 (sizes_in set b ++ others) ≡ sizes_in set b = take_at (sizes_in set b) others 7 (seven set b ss) in
    let blank = flag_same (eqb t 70) (every (is_blank set) (field_of bundle_control 4 b)) in
    let enough = sizes-enough set text (λ s. stated_size set s b) (times 7 0) ss (start + (layout_of t).fixed_length) 7 (few-parts t) in
    rw (sizes, blank, fields, enough, parts)

-- a sound record where it stands in the file
module _ (set : CharacterSet) {file : List ℕ} {at : ℕ} {b : Body} (h : HeldAt set file at b) (whole : at + 4 + length b ≤ length file) where
  piece-here : (t : DataType) (i size : ℕ) → i + size ≤ length b → piece set file t (at + 4 + i) size ≡ piece set b t (0 + i) size
  piece-here t i size l = piece-same set file b t (at + 4 + i) (0 + i) size (omega arith) (omega arith)
      (part_held set h i size l ∙ ap (λ (n : ℕ). part n size b) (sym (zero-add i)))

  fields-here : (ls : List Line) (fixed : ℕ) → within fixed ls ≡ true → fixed ≤ length b → fields_given set file (at + 4) ls ≡ fields_given set b 0 ls
  fields-here [] fixed w l = refl
  fields-here (x ∷ xs) fixed w l =
      let tests = both_true (leb (x.first - 1 + x.size) fixed) (within fixed xs) w in
      let others = fields-here xs fixed tests.1 l in
      let own = piece-here x.data_type (x.first - 1) x.size (omega (arith, leb-true (x.first - 1 + x.size) fixed tests.0)) in
      ap₂ (cond (is_given x.origin)) (ap₂ (λ (p : Piece) (ps : List Piece). p ∷ ps) own others) others

  parts-here : (ss : List Sized) (k : ℕ) → k + stated_sizes set ss b ≤ length b
      → parts_given set file (at + 4 + k) ss (map (λ (s : Sized). stated_size set s b) ss) ≡ parts_given set b (0 + k) ss (map (λ (s : Sized). stated_size set s b) ss)
  unfolding stated_sizes
  parts-here [] k l = refl
  parts-here (s ∷ ss) k l =
      let size = stated_size set s b in
      let sizes = map (λ (x : Sized). stated_size set x b) ss in
      ap₂ (λ (p : Piece) (ps : List Piece). p ∷ ps) (piece-here s.data_type k size (omega arith))
      (ap (λ (n : ℕ). parts_given set file n ss sizes) (add_assoc (at + 4) k size)
      ∙ parts-here ss (k + size) (omega arith)
      ∙ ap (λ (n : ℕ). parts_given set b n ss sizes) (sym (add_assoc 0 k size)))

  values-here : alone set (layout_of (type_of set b)) b ≡ Sound → (others : List ℕ) → values_of_row set file (row_of set b (at + 4) ++ others) ≡ values_of_body set b
  values-here sound others =
      let t = type_of set b in
      let k = layout_of t in
      let fills : length b ≡ k.fixed_length + stated_sizes set (sized_parts k) b =
      sound-fills set k.fixed_length k.lines (sized_parts k) b sound in
      values_same set file (at + 4) b others
      (fields-here k.lines k.fixed_length (every-layout (λ x. within x.fixed_length x.lines) t refl) (omega (arith, fills)))
      (parts-here (sized_parts k) k.fixed_length (omega (arith, fills)))

-- whatever the record is: where it is itself the text
pub values-itself : (set : CharacterSet) (b : Body) (others : List ℕ) → values_of_row set b (row_of set b 0 ++ others) ≡ values_of_body set b
values-itself set b others = values_same set b 0 b others refl refl

-- the records from an offset on
record Given (set : CharacterSet) (file numbers : List ℕ) (bodies : List Body) : Type 0 where
  count : length numbers ≡ 10 * length bodies
  values : values_of_rows set file (length bodies) numbers ≡ map (values_of_body set) bodies

given-from : (set : CharacterSet) (file : List ℕ) → length file ≤ 268_435_456 → (bodies past : List Body) (n at : ℕ) → drop at file ≡ framed bodies
    → GoodAll set past bodies → length file ≤ at + n → Given set file (rows_from set n file at) bodies
unfolding values_of_rows
given-from set file small [] past n at e g l =
    let none = rows_end set file at n (omega (arith, ap length e, length-drop at file)) in record { count = ap length none; values = refl }
given-from set file small (b ∷ bs) past n at e g l =
    let more = long file at b (framed bs) e in
    let others = given-from set file small bs (b ∷ past) (n - 1) (at + 4 + length b) (rest-is file at b (framed bs) e) g.rest (omega arith) in
    let behind = rows_from set (n - 1) file (at + 4 + length b) in
    let row = row_of set b (at + 4) in
    let held : HeldAt set file at b = record { rest = framed bs; body = body_is file at b (framed bs) e; sound = g.first.alone } in
    let rows : rows_from set n file at ≡ row ++ behind =
    rows_on set file at n (at + 4) (length b) (omega arith) (omega arith) (frame_is file at b (framed bs) e small)
    ∙ ap (λ (x : List ℕ). row_of set x (at + 4) ++ behind) (part-is file at b (framed bs) e) in
    record {
      count = omega (arith, ap length rows, length-append row behind, row-long set b (at + 4), others.count);
      values =
          ap (values_of_rows set file (suc (length bs))) rows
          ∙ ap₂ (λ (v : Values) (vs : List Values). v ∷ vs)
          (values-here set held (omega arith) (sym (judged-carried set (type_of set b) b g.first.carried) ∙ g.first.alone) behind)
          (ap (values_of_rows set file (length bs)) (drop_at row behind 10 (row-long set b (at + 4))) ∙ others.values);
    }

-- the first record starts behind its length
first-start : (set : CharacterSet) (file : List ℕ) → length file ≤ 268_435_456 → (b : Body) (bs : List Body) → framed (b ∷ bs) ≡ file
    → get_or (rows_from set (length file) file 0) 1 0 ≡ 4
first-start set file small b bs e =
    let more = long file 0 b (framed bs) (sym e) in
    ap (λ (numbers : List ℕ). get_or numbers 1 0)
    (rows_on set file 0 (length file) 4 (length b) (omega arith) (omega arith) (frame_is file 0 b (framed bs) (sym e) small))

set_same : (file numbers : List ℕ) → get_or numbers 1 0 ≡ 4 → set_of_text file numbers ≡ set_of file
unfolding set_of_text set_of
set_same file numbers e = rw e

pub draft-itself : (file : List ℕ) (x : File) → Arranges file x → values_of_draft file (draft_rows_of file) ≡ values_of (set_of file) x
unfolding values_of_draft values_of
draft-itself file x a =
    let set = set_of file in
    let given = given-from set file a.size (records x) [] (length file) 0 (sym a.bytes) (sound-good set x a.sound) (omega arith) in
    let many : length (draft_rows_of file) / 10 ≡ length (records x) = omega (arith, given.count) in
    let first = first-start set file a.size x.header (drop 1 (records x)) a.bytes in
    rw (set_same file (draft_rows_of file) first, many) given.values
