-- Two lists with the same entries in whatever order, each number given once and none above the last: they answer alike, and do so with the same entries more
-- or the same entry less. Assumes nothing.
use Rattle.std.specs.Prelude.{Ok}
use Prim.Native.Nat.{ℕ, suc, ◌+◌, ◌≤◌, ◌<◌}
use native.Mathlib.Omega.{arith}
use mathlib.Core.Bool.{Bool, true, false, cond}
use mathlib.Core.Path.{◌≡◌, refl, sym, ap, ◌∙◌}
use mathlib.Core.List.{List, [], ◌∷◌, ◌++◌}
use lib.Dec.{leb, eqb}
use lib.ListN.{length}
use borrow.Author.Tests.{leb-true, leb-false, eqb-true, ne_eqb}
use Rattle.figures.specs.declared.Figures.{Figures}
use Rattle.figures.specs.Figures.{plus, all_of}
use Rattle.book_model.specs.declared.Entry.{Entry}
use Rattle.book_model.specs.PlainList.{totals_of, entries_on, finding, without}
use Rattle.book_model.proofs.Merged.{Merged, behind, flipped, merged-many, merged-totals, Absent, merged-found, merged-without}
use Rattle.book_model.proofs.Without.{absent-still, others-still, without-across, found-many, found-totals, plus-cancel}

-- the entries of a file: as many as its letters, with their figures, numbered on
pub new-many : (last m : ℕ) (letters : List Figures) → length (entries_on last m letters) ≡ length letters
unfolding entries_on
new-many last m [] = refl
new-many last m (f ∷ fs) = ap suc (new-many (last + 1) m fs)

pub new-totals : (last m : ℕ) (letters : List Figures) → totals_of (entries_on last m letters) ≡ all_of letters
unfolding entries_on totals_of all_of
new-totals last m [] = refl
new-totals last m (f ∷ fs) = ap (plus f) (new-totals (last + 1) m fs)

module _ (n m : ℕ) where
  pub none_below : (last : ℕ) (letters : List Figures) → n ≤ last → Absent n (entries_on last m letters)
  unfolding entries_on finding
  none_below last [] h = refl
  none_below last (f ∷ fs) h = rw (ne_eqb (last + 1) n (λ e. omega arith)) (none_below (last + 1) fs (omega arith))

  none_above : (last : ℕ) (letters : List Figures) → last + length letters < n → Absent n (entries_on last m letters)
  unfolding entries_on finding
  none_above last [] h = refl
  none_above last (f ∷ fs) h = rw (ne_eqb (last + 1) n (λ e. omega arith)) (none_above (last + 1) fs (omega arith))

  new-once : (last : ℕ) (letters : List Figures) → Absent n (without n (entries_on last m letters))
  unfolding entries_on finding without
  new-once last [] = refl
  new-once last (f ∷ fs) = by-test (eqb (last + 1) n) refl (new-once (last + 1) fs)
    where
      by-test : (t : Bool) → eqb (last + 1) n ≡ t → Absent n (without n (entries_on (last + 1) m fs))
          → Absent n (cond t (entries_on (last + 1) m fs) (record { number = last + 1; file = m; figures = f } ∷ without n (entries_on (last + 1) m fs)))
      by-test true q later = none_below (last + 1) fs (omega (arith, eqb-true (last + 1) n q))
      by-test false q later = rw q later

-- numbers up to the last one given, each once
pub record Numbered (last : ℕ) (es : List Entry) : Type 0 where
  pub above : (n : ℕ) → last < n → Absent n es
  pub once : (n : ℕ) → Absent n (without n es)

module _ (last : ℕ) (es : List Entry) (s : Numbered last es) where
  numbered_more : (m : ℕ) (letters : List Figures) (gs : List Entry) → Merged es (entries_on last m letters) gs → Numbered (last + length letters) gs
  numbered_more m letters gs merged =
      record {
        above = λ n h. merged-found n merged (s.above n (omega arith)) ∙ none_above n m last letters h;
        once = λ n. by-test n (leb n last) refl;
      }
    where
      by-test : (n : ℕ) (t : Bool) → leb n last ≡ t → Absent n (without n gs)
      by-test n true e =
          let old = none_below n m last letters (leb-true n last e) in
          merged-found n (merged-without n (flipped merged) old) old ∙ s.once n
      by-test n false e =
          let new = s.above n (leb-false n last e) in
          merged-found n (merged-without n merged new) new ∙ new-once n m last letters

  numbered-fewer : (n : ℕ) → Numbered last (without n es)
  numbered-fewer n =
      record {
        above = λ k h. absent-still n k es (s.above k h);
        once = λ k. rw (without-across n k es) (absent-still n k (without k es) (s.once k));
      }

pub record Matched (last : ℕ) (es fs : List Entry) : Type 0 where
  pub found : (n : ℕ) → finding es n ≡ finding fs n
  pub totals : totals_of es ≡ totals_of fs
  pub many : length es ≡ length fs
  pub first : Numbered last es
  pub second : Numbered last fs

module _ (last : ℕ) (es fs : List Entry) (s : Matched last es fs) where
  pub matched-more : (m : ℕ) (letters : List Figures) (gs : List Entry) → Merged es (entries_on last m letters) gs
      → Matched (last + length letters) gs (fs ++ entries_on last m letters)
  matched-more m letters gs merged =
      record {
        found = λ n. by-test n (leb n last) refl;
        totals = merged-totals merged ∙ ap (λ (f : Figures). plus f (totals_of new)) s.totals ∙ sym (merged-totals plain);
        many = omega (arith, merged-many merged, merged-many plain, s.many);
        first = numbered_more last es s.first m letters gs merged;
        second = numbered_more last fs s.second m letters (fs ++ new) plain;
      }
    where
      new : List Entry
      new = entries_on last m letters

      plain : Merged fs new (fs ++ new)
      plain = behind fs new

      by-test : (n : ℕ) (t : Bool) → leb n last ≡ t → finding gs n ≡ finding (fs ++ new) n
      by-test n true e =
          let old = none_below n m last letters (leb-true n last e) in
          merged-found n (flipped merged) old ∙ s.found n ∙ sym (merged-found n (flipped plain) old)
      by-test n false e =
          let h = leb-false n last e in
          merged-found n merged (s.first.above n h) ∙ sym (merged-found n plain (s.second.above n h))

  module _ (n : ℕ) (x : Entry) (there : finding es n ≡ Ok x) where
    there-too : finding fs n ≡ Ok x
    there-too = sym (s.found n) ∙ there

    pub totals-fewer : totals_of (without n es) ≡ totals_of (without n fs)
    totals-fewer =
        plus-cancel x.figures (totals_of (without n es)) (totals_of (without n fs))
        (sym (found-totals n x es there) ∙ s.totals ∙ found-totals n x fs there-too)

    pub matched-fewer : Matched last (without n es) (without n fs)
    matched-fewer =
        record {
          found = λ k. by-test k (eqb n k) refl;
          totals = totals-fewer;
          many = omega (arith, found-many n x es there, found-many n x fs there-too, s.many);
          first = numbered-fewer last es s.first n;
          second = numbered-fewer last fs s.second n;
        }
      where
        by-test : (k : ℕ) (t : Bool) → eqb n k ≡ t → finding (without n es) k ≡ finding (without n fs) k
        by-test k true e = rw (sym (eqb-true n k e)) (s.first.once n ∙ sym (s.second.once n))
        by-test k false e = others-still n k e es ∙ s.found k ∙ sym (others-still n k e fs)
