-- Entries set down one by one, each in the first free row; and what lies before the rows stays. Assumes nothing.
use Prim.Native.Nat.{ℕ, zero, suc, ◌+◌, ◌-◌, ◌*◌, ◌≤◌, ◌<◌}
use native.Mathlib.Numerals.{sub-one}
use native.Mathlib.Omega.{arith}
use mathlib.Core.Bool.{Bool, true, false, ◌&&◌, cond}
use mathlib.Core.List.{List, [], ◌∷◌}
use mathlib.Core.Path.{◌≡◌, refl, sym, ap, ◌∙◌}
use lib.Dec.{eqb}
use lib.ListN.{length, get_or, drop}
use lib.Seq.{sets, length-sets, get_or-drop, drop-drop}
use Rattle.copying.specs.Times.{times}
use Rattle.figures.specs.Figures.{figures_at}
use Rattle.book_model.specs.declared.Entry.{Entry}
use Rattle.book_model.specs.PlainList.{entry}
use Rattle.book_model.specs.Table.{is_owner, entry_at, row_of, rows_of, entries_from, placed, cleared}
use Rattle.book_model.proofs.Steps.{kept}
use Rattle.book_gaps.specs.declared.Spot.{Spot}
use Rattle.book_gaps.specs.Spots.{spot_from}
use Rattle.book_gaps.proofs.Laws.{used_in, used-none, used-here, used-behind}
use Rattle.book_gaps.proofs.Closing.{sets_behind, drop-stored}

-- entry by entry
pub placed-none : (o : ℕ) (book : List ℕ) (n at : ℕ) → placed o book n at [] ≡ book
unfolding placed rows_of
placed-none o book zero at = refl
placed-none o book (suc n) at = refl

pub placed_one : (o : ℕ) (book : List ℕ) (n at : ℕ) (e : Entry) (es : List Entry)
    → placed o book n at (e ∷ es)
    ≡ placed o (sets book (spot_from book n at).at (row_of o e)) (spot_from book n at).rows ((spot_from book n at).at + 9) es
unfolding placed spot_from rows_of
placed_one o book zero at e es = sets_behind book at (row_of o e) (rows_of o es)
placed_one o book (suc n) at e es = by-owner (is_owner (get_or book at 0)) (placed_one o book n (at + 9) e es)
  where
    by-owner : (t : Bool)
        → placed o book n (at + 9) (e ∷ es)
        ≡ placed o (sets book (spot_from book n (at + 9)).at (row_of o e)) (spot_from book n (at + 9)).rows ((spot_from book n (at + 9)).at + 9) es
        → cond t (placed o book n (at + 9) (e ∷ es)) (placed o (sets book at (row_of o e)) n (at + 9) es)
        ≡ placed o (sets book (cond t (spot_from book n (at + 9)) (record { at = at; rows = n })).at (row_of o e)) (cond t (spot_from book n (at + 9)) (record { at = at; rows = n })).rows ((cond t (spot_from book n (at + 9)) (record { at = at; rows = n })).at + 9) es
    by-owner true behind = behind
    by-owner false behind = refl

-- from a place on, the first free row: it lies within a table that has as many rows as are used and one more, and so do the rows behind it
pub record Onward (book : List ℕ) (n at : ℕ) (s : Spot) : Type 0 where
  pub behind : at ≤ s.at
  pub used : s.at + 9 * used_in book s.rows (s.at + 9) ≡ at + 9 * used_in book n at
  pub within : (long : ℕ) → at + 9 * n ≤ long → at + 9 * (used_in book n at + 1) ≤ long → s.at + 9 + 9 * s.rows ≤ long

pub onward : (book : List ℕ) (n at : ℕ) → Onward book n at (spot_from book n at)
unfolding spot_from
onward book zero at =
    let none = used-none book at 0 (omega arith) in
    let last = used-none book (at + 9) 0 (omega arith) in
    record { behind = omega arith; used = omega arith; within = λ long h k. omega arith }
onward book (suc n) at = by-owner (is_owner (get_or book at 0)) refl (onward book n (at + 9))
  where
    same : used_in book (suc n - 1) (at + 9) ≡ used_in book n (at + 9)
    same = rw (sub-one (suc n)) refl

    by-owner : (t : Bool) → is_owner (get_or book at 0) ≡ t → Onward book n (at + 9) (spot_from book n (at + 9))
        → Onward book (suc n) at (cond t (spot_from book n (at + 9)) (record { at = at; rows = n }))
    by-owner true e v =
        let more = used-here book at (suc n) (omega arith) e in
        record {
          behind = omega (arith, v.behind);
          used = omega (arith, v.used, more, same);
          within = λ long h k. v.within long (omega arith) (omega (arith, more, same));
        }
    by-owner false e v =
        let more = used-behind book at (suc n) (omega arith) e in
        record { behind = omega arith; used = omega (arith, more, same); within = λ long h k. omega arith }

-- the rows from a place on are those of what lies from there on
module _ (a b : List ℕ) where
  number-kept : (at i : ℕ) → drop at a ≡ drop at b → get_or a (at + i) 0 ≡ get_or b (at + i) 0
  number-kept at i e = sym (get_or-drop at a i 0) ∙ ap (λ (l : List ℕ). get_or l i 0) e ∙ get_or-drop at b i 0

  first-kept : (at : ℕ) → drop at a ≡ drop at b → get_or a at 0 ≡ get_or b at 0
  first-kept at e =
      let here : at + 0 ≡ at = omega arith in
      ap (λ (k : ℕ). get_or a k 0) (sym here) ∙ number-kept at 0 e ∙ ap (λ (k : ℕ). get_or b k 0) here

  behind-kept : (at m : ℕ) → drop at a ≡ drop at b → drop (at + m) a ≡ drop (at + m) b
  behind-kept at m e = sym (drop-drop m at a) ∙ ap (drop m) e ∙ drop-drop m at b

  figures-kept : (at : ℕ) → drop at a ≡ drop at b → figures_at a at ≡ figures_at b at
  unfolding figures_at
  figures-kept at e =
      rw (first-kept at e, number-kept at 1 e, number-kept at 2 e, number-kept at 3 e, number-kept at 4 e, number-kept at 5 e)

  pub entries-kept : (o n at : ℕ) → drop at a ≡ drop at b → entries_from o a n at ≡ entries_from o b n at
  unfolding entries_from entry_at
  entries-kept o zero at e = refl
  entries-kept o (suc n) at e =
      let rest = entries-kept o n (at + 9) (behind-kept at 9 e) in
      let figures = figures-kept (at + 3) (behind-kept at 3 e) in
      λ i.
      cond (eqb (first-kept at e i) o)
      (entry (number-kept at 1 e i) (number-kept at 2 e i) (figures i) ∷ rest i)
      (rest i)

-- a row set down before them
pub used-stored : (book : List ℕ) (to : ℕ) (o : ℕ) (e : Entry) (n : ℕ) → used_in (sets book to (row_of o e)) n (to + 9) ≡ used_in book n (to + 9)
used-stored book to o e n =
    let same = drop-stored (to + 9) book to (row_of o e) (omega arith) in
    let one = entries-kept (sets book to (row_of o e)) book 1 n (to + 9) same in
    let two = entries-kept (sets book to (row_of o e)) book 2 n (to + 9) same in
    λ i. length (one i) + length (two i)

-- the head stays, and how long the table is
pub placed-before : (o : ℕ) (book : List ℕ) (n at : ℕ) (es : List Entry) (j : ℕ) → j < at → get_or (placed o book n at es) j 0 ≡ get_or book j 0
unfolding placed
placed-before o book zero at es j h = kept book at (rows_of o es) j h
placed-before o book (suc n) at [] j h = refl
placed-before o book (suc n) at (e ∷ es) j h =
    by-owner (is_owner (get_or book at 0)) (placed-before o book n (at + 9) (e ∷ es) j (omega arith))
    (placed-before o (sets book at (row_of o e)) n (at + 9) es j (omega arith) ∙ kept book at (row_of o e) j h)
  where
    by-owner : (t : Bool) → get_or (placed o book n (at + 9) (e ∷ es)) j 0 ≡ get_or book j 0
        → get_or (placed o (sets book at (row_of o e)) n (at + 9) es) j 0 ≡ get_or book j 0
        → get_or (cond t (placed o book n (at + 9) (e ∷ es)) (placed o (sets book at (row_of o e)) n (at + 9) es)) j 0 ≡ get_or book j 0
    by-owner true used free = used
    by-owner false used free = free

pub placed-long : (o : ℕ) (book : List ℕ) (n at : ℕ) (es : List Entry) → length (placed o book n at es) ≡ length book
unfolding placed
placed-long o book zero at es = length-sets book at (rows_of o es)
placed-long o book (suc n) at [] = refl
placed-long o book (suc n) at (e ∷ es) =
    by-owner (is_owner (get_or book at 0)) (placed-long o book n (at + 9) (e ∷ es))
    (placed-long o (sets book at (row_of o e)) n (at + 9) es ∙ length-sets book at (row_of o e))
  where
    by-owner : (t : Bool) → length (placed o book n (at + 9) (e ∷ es)) ≡ length book
        → length (placed o (sets book at (row_of o e)) n (at + 9) es) ≡ length book
        → length (cond t (placed o book n (at + 9) (e ∷ es)) (placed o (sets book at (row_of o e)) n (at + 9) es)) ≡ length book
    by-owner true used free = used
    by-owner false used free = free

pub cleared-before : (o m : ℕ) (book : List ℕ) (n at : ℕ) (j : ℕ) → j < at → get_or (cleared o m book n at) j 0 ≡ get_or book j 0
unfolding cleared
cleared-before o m book zero at j h = refl
cleared-before o m book (suc n) at j h =
    by_row (eqb (get_or book at 0) o && eqb (get_or book (at + 1) 0) m) (cleared-before o m book n (at + 9) j (omega arith))
  where
    by_row : (t : Bool) → get_or (cleared o m book n (at + 9)) j 0 ≡ get_or book j 0
        → get_or (cond t (sets book at (times 9 0)) (cleared o m book n (at + 9))) j 0 ≡ get_or book j 0
    by_row true behind = kept book at (times 9 0) j h
    by_row false behind = behind

pub cleared-long : (o m : ℕ) (book : List ℕ) (n at : ℕ) → length (cleared o m book n at) ≡ length book
unfolding cleared
cleared-long o m book zero at = refl
cleared-long o m book (suc n) at =
    by_row (eqb (get_or book at 0) o && eqb (get_or book (at + 1) 0) m) (cleared-long o m book n (at + 9))
  where
    by_row : (t : Bool) → length (cleared o m book n (at + 9)) ≡ length book
        → length (cond t (sets book at (times 9 0)) (cleared o m book n (at + 9))) ≡ length book
    by_row true behind = length-sets book at (times 9 0)
    by_row false behind = behind
