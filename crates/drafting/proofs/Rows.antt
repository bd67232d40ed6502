-- The rows of a file's records: each set down in the draft, and as many as the reader's rows. Assumes nothing.
use Prim.Native.Nat.{ℕ, zero, suc, ◌+◌, ◌-◌, ◌*◌, ◌≤◌, ◌<◌}
use native.Mathlib.Numerals.{add-one, add-two, add-three, sub-one}
use native.Mathlib.Omega.{arith}
use mathlib.Core.Bool.{Bool, true, false, ◌&&◌, cond}
use mathlib.Core.Path.{◌≡◌, refl, sym, ap, ap₂, ◌∙◌}
use mathlib.Core.List.{List, [], ◌∷◌, ◌++◌}
use borrow.Author.Tests.{le-leb, lt-leb}
use lib.Dec.{leb, eqb}
use lib.ListN.{length, drop, length-append}
use lib.Seq.{sets, length-sets}
use Rattle.std.specs.Prelude.{Some}
use Rattle.text.specs.CharacterSet.{set_of}
use Rattle.text.specs.declared.character_set.CharacterSet.{CharacterSet}
use Rattle.text.specs.Characters.{is_blank}
use Rattle.text.specs.DataTypes.{every}
use Rattle.frame.specs.Frames.{part, frame_at}
use Rattle.frame.specs.Frames.{Frame}
use Rattle.frame.specs.Frames.{Cut, Whole}
use Rattle.frame.proofs.Laws.{whole-within, whole-start}
use Rattle.layout.specs.Layout.{sized_parts}
use Rattle.layout.specs.Layouts.{bundle_control}
use Rattle.layout.specs.Packing.{own_in, Packed}
use Rattle.judge.specs.Alone.{type_of}
use Rattle.standing.specs.History.{Entry, entry, one}
use Rattle.passes.proofs.Laws.{splice, splice-none, splice-more}
use Rattle.passes.proofs.Passes.{splice-first}
use Rattle.file_as_records.specs.Framed.{field_of}
use Rattle.draft.specs.Values.{layout_of}
use Rattle.drafting.specs.ByNumbers.{seven_sizes, parts_own}
use Rattle.drafting.specs.DraftOf.{row_of, row_and, rows_from, draft_rows_of}
use Rattle.drafting.proofs.Sizes.{seven, parts-own}
use Rattle.passes.specs.Rows as reader
use lib.ListN as lists

pub row-long : (set : CharacterSet) (body : List ℕ) (start : ℕ) → length (row_of set body start) ≡ 10
row-long set body start = ap (λ (n : ℕ). suc (suc (suc n))) (seven set body (sized_parts (layout_of (type_of set body))))

-- a row, set down number by number
pub row_put : (set : CharacterSet) (numbers body : List ℕ) (start base : ℕ) (draft : List ℕ) (t flag : ℕ) (own after : List ℕ) → Packed numbers
    → t ≡ type_of set body → flag ≡ one (eqb t 70 && every (is_blank set) (field_of bundle_control 4 body)) → own ≡ own_in t (length numbers) numbers
    → after ≡ sets (lists.set (lists.set (lists.set draft base t) (base + 1) start) (base + 2) flag) (base + 3) (seven_sizes set (parts_own own) body)
    → after ≡ sets draft base (row_of set body start)
row_put set numbers body start base draft t flag own after p type blank numbered put =
    put
    ∙ rw (blank, numbered, parts-own numbers t p, type) (simp (add-one, add-two, add-three))

module _ (set : CharacterSet) (file : List ℕ) (at : ℕ) where
  pub rows_end : (n : ℕ) → length file ≤ at → rows_from set n file at ≡ []
  unfolding rows_from
  rows_end zero h = refl
  rows_end (suc n) h = rw (le-leb (length file) at h)

  rows_cut : (n : ℕ) → at < length file → frame_at file at ≡ Cut → rows_from set n file at ≡ []
  unfolding rows_from
  rows_cut zero h e = refl
  rows_cut (suc n) h e = rw (lt-leb (length file) at h, e)

  pub rows_on : (n start size : ℕ) → at < length file → 0 < n → frame_at file at ≡ Whole start size
      → rows_from set n file at ≡ row_of set (part start size file) start ++ rows_from set (n - 1) file (start + size)
  unfolding rows_from
  rows_on zero start size h k e = absurd (omega arith)
  rows_on (suc n) start size h k e = rw (sub-one (suc n)) (rw (lt-leb (length file) at h, e))

-- ten numbers of the draft for seven of the reader's table
counted-from : (set : CharacterSet) (n : ℕ) (file : List ℕ) (at : ℕ) (past : List Entry)
    → 7 * length (rows_from set n file at) ≡ 10 * length (reader.rows_from set n file at past)
unfolding rows_from reader.rows_from
counted-from set zero file at past = refl
counted-from set (suc n) file at past = by (leb (length file) at) (frame_at file at) (λ next newer. counted-from set n file next newer)
  where
    by : (ended : Bool) (f : Frame)
        → ((next : ℕ) (newer : List Entry) → 7 * length (rows_from set n file next) ≡ 10 * length (reader.rows_from set n file next newer))
        → 7 * length (cond ended [] (row_and set file f (λ next. rows_from set n file next)))
        ≡ 10 * length (cond ended [] (reader.row_and set file at past f (λ next newer. reader.rows_from set n file next newer)))
    by true f others = refl
    by false Cut others = refl
    by false (Some x) others =
        let body = part x.start x.size file in
        let newer = entry (type_of set body) at x.size ∷ past in
        omega (
          arith,
          others (x.start + x.size) newer,
          length-append (row_of set body x.start) (rows_from set n file (x.start + x.size)),
          row-long set body x.start,
        )

pub counted : (file : List ℕ) (records : ℕ) → length (reader.rows_of file) ≡ 7 * records → length (draft_rows_of file) ≡ 10 * records
counted file records e = omega (arith, e, counted-from (set_of file) (length file) file 0 [])

-- at the head of the loop: the rows so far, and those from here, are the whole draft
pub record Fill (set : CharacterSet) (file draft₀ : List ℕ) (at base : ℕ) (draft : List ℕ) : Type 0 where
  pub fuel : ℕ
  pub limit : length file ≤ 268_435_456
  pub enough : length file ≤ at + fuel
  pub long : length draft ≡ length draft₀
  pub room : base + length (rows_from set fuel file at) ≤ length draft
  pub same : splice draft₀ 0 (draft_rows_of file) ≡ splice draft base (rows_from set fuel file at)

pub fill-first : (set : CharacterSet) (file draft : List ℕ) → set ≡ set_of file → length file ≤ 268_435_456 → length (draft_rows_of file) ≤ length draft
    → Fill set file draft 0 0 draft
fill-first set file draft q h l =
    let rows : rows_from set (length file) file 0 ≡ draft_rows_of file = rw q in
    record {
      fuel = length file;
      limit = h;
      enough = omega arith;
      long = refl;
      room = omega (arith, ap length rows);
      same = ap (splice draft 0) (sym rows);
    }

module _ {set : CharacterSet} {file draft₀ : List ℕ} {at base : ℕ} {draft : List ℕ} (v : Fill set file draft₀ at base draft) where
  filled : rows_from set v.fuel file at ≡ [] → draft ≡ draft_rows_of file ++ drop (length (draft_rows_of file)) draft₀
  filled none = sym (v.same ∙ ap (splice draft base) none ∙ splice-none draft base) ∙ splice-first draft₀ (draft_rows_of file)

  pub fill-cut : at < length file → frame_at file at ≡ Cut → draft ≡ draft_rows_of file ++ drop (length (draft_rows_of file)) draft₀
  fill-cut h e = filled (rows_cut set file at v.fuel h e)

  pub fill_end : length file ≤ at → draft ≡ draft_rows_of file ++ drop (length (draft_rows_of file)) draft₀
  fill_end h = filled (rows_end set file at v.fuel h)

  module _ (h : at < length file) (start size : ℕ) (e : frame_at file at ≡ Whole start size) where
    abbrev row : List ℕ
    row = row_of set (part start size file) start

    abbrev others : List ℕ
    others = rows_from set (v.fuel - 1) file (start + size)

    rows-here : rows_from set v.fuel file at ≡ row ++ others
    rows-here = rows_on set file at v.fuel start size h (omega (arith, v.enough)) e

    ten : length (rows_from set v.fuel file at) ≡ 10 + length others
    ten = ap length rows-here ∙ length-append row others ∙ ap (λ (n : ℕ). n + length others) (row-long set (part start size file) start)

    -- the row has its place, and what lies behind the record is no further than the file
    pub fill-room : base + 10 ≤ length draft
    fill-room = omega (arith, v.room, ten)

    pub fill-within : at < start + size × start + size ≤ 268_435_456
    fill-within = let begins = whole-start file at start size e in let fits = whole-within file at start size e in (omega arith, omega (arith, v.limit))

    pub fill_on : (body after : List ℕ) → body ≡ part start size file → after ≡ sets draft base (row_of set body start)
        → Fill set file draft₀ (start + size) (base + 10) after
    fill_on body after b w =
        let begins = whole-start file at start size e in
        let written : after ≡ sets draft base row = w ∙ ap (λ (x : List ℕ). sets draft base (row_of set x start)) b in
        let width : length after ≡ length draft = ap length written ∙ length-sets draft base row in
        let r = row-long set (part start size file) start in
        record {
          fuel = v.fuel - 1;
          limit = v.limit;
          enough = omega (arith, v.enough);
          long = width ∙ v.long;
          room = omega (arith, v.room, ten);
          same =
              v.same
              ∙ ap (splice draft base) rows-here
              ∙ sym (splice-more draft base row others (omega (arith, v.room, ten)))
              ∙ ap₂ (λ (x : List ℕ) (n : ℕ). splice x (base + n) others) (sym written) r;
        }
