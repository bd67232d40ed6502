-- A list of entries without the one that a look-up gives. Assumes nothing.
use Rattle.std.specs.Prelude.{Ok}
use Prim.Native.Nat.{ℕ, suc, ◌+◌}
use native.Mathlib.Omega.{arith}
use mathlib.Core.Bool.{Bool, true, false, cond}
use mathlib.Core.Path.{◌≡◌, refl, sym, ap, ◌∙◌}
use mathlib.Core.List.{List, [], ◌∷◌}
use lib.Dec.{eqb}
use lib.ListN.{length}
use borrow.Author.Tests.{eqb-true}
use Rattle.measure.specs.Measures.{sums}
use Rattle.figures.specs.declared.Figures.{Figures}
use Rattle.figures.specs.Figures.{figures, plus}
use Rattle.book_model.specs.declared.Entry.{Entry}
use Rattle.book_model.specs.PlainList.{totals_of, finding, without}
use Rattle.book_model.proofs.Merged.{Absent, NotHere, not-here, plus-across}

module _ (n : ℕ) where
  -- what is not there is not there afterwards, and the other numbers give what they gave
  pub absent-still : (m : ℕ) (es : List Entry) → Absent m es → Absent m (without n es)
  unfolding finding without
  absent-still m [] a = refl
  absent-still m (e ∷ es) a = let h = not-here m e es a in by-test (eqb e.number n) h (absent-still m es h.behind)
    where
      by-test : (t : Bool) → NotHere m e es → Absent m (without n es) → Absent m (cond t es (e ∷ without n es))
      by-test true h later = h.behind
      by-test false h later = rw h.here later

  pub others-still : (m : ℕ) → eqb n m ≡ false → (es : List Entry) → finding (without n es) m ≡ finding es m
  unfolding finding without
  others-still m differ [] = refl
  others-still m differ (e ∷ es) = by-test (eqb e.number n) refl (others-still m differ es)
    where
      by-test : (t : Bool) → eqb e.number n ≡ t → finding (without n es) m ≡ finding es m
          → finding (cond t es (e ∷ without n es)) m ≡ cond (eqb e.number m) (Ok e) (finding es m)
      by-test true q later = rw (eqb-true e.number n q, differ)
      by-test false q later = rw later

  pub without-across : (m : ℕ) (es : List Entry) → without m (without n es) ≡ without n (without m es)
  unfolding without
  without-across m [] = refl
  without-across m (e ∷ es) = by_tests (eqb e.number n) refl (eqb e.number m) refl (without-across m es)
    where
      by_tests : (s : Bool) → eqb e.number n ≡ s → (t : Bool) → eqb e.number m ≡ t → without m (without n es) ≡ without n (without m es)
          → without m (cond s es (e ∷ without n es)) ≡ without n (cond t es (e ∷ without m es))
      by_tests true q true r later = ap (λ (k : ℕ). without k es) (sym (eqb-true e.number m r) ∙ eqb-true e.number n q)
      by_tests true q false r later = rw q
      by_tests false q true r later = rw r
      by_tests false q false r later = rw (q, r) (ap (λ (l : List Entry). e ∷ l) later)

  -- an entry that is there is what is less
  module _ (x : Entry) where
    pub found-many : (es : List Entry) → finding es n ≡ Ok x → length es ≡ suc (length (without n es))
    unfolding finding without
    found-many [] h = absurd (let z : ◌≡◌ {A = ℕ} 0 1 = cc in omega arith)
    found-many (e ∷ es) h = by-test (eqb e.number n) h (found-many es)
      where
        by-test : (t : Bool) → cond t (Ok e) (finding es n) ≡ Ok x → (finding es n ≡ Ok x → length es ≡ suc (length (without n es)))
            → suc (length es) ≡ suc (length (cond t es (e ∷ without n es)))
        by-test true q later = refl
        by-test false q later = ap suc (later q)

    pub found-totals : (es : List Entry) → finding es n ≡ Ok x → totals_of es ≡ plus x.figures (totals_of (without n es))
    unfolding finding without totals_of
    found-totals [] h = absurd (let z : ◌≡◌ {A = ℕ} 0 1 = cc in omega arith)
    found-totals (e ∷ es) h = by-test (eqb e.number n) h (found-totals es)
      where
        by-test : (t : Bool) → cond t (Ok e) (finding es n) ≡ Ok x
            → (finding es n ≡ Ok x → totals_of es ≡ plus x.figures (totals_of (without n es)))
            → plus e.figures (totals_of es) ≡ plus x.figures (totals_of (cond t es (e ∷ without n es)))
        by-test true q later = let same : e ≡ x = cc in ap (λ (y : Entry). plus y.figures (totals_of es)) same
        by-test false q later = ap (plus e.figures) (later q) ∙ plus-across e.figures x.figures (totals_of (without n es))

pub plus-cancel : (a b c : Figures) → plus a b ≡ plus a c → b ≡ c
plus-cancel a b c e =
    λ i. figures (cancel a.bundles _ _ (ap (λ (f : Figures). f.bundles) e) i) (sums (cancel a.sums.debits.0 _ _ (ap (λ (f : Figures). f.sums.debits.0) e) i) (cancel a.sums.debit.0 _ _ (ap (λ (f : Figures). f.sums.debit.0) e) i) (cancel a.sums.credits.0 _ _ (ap (λ (f : Figures). f.sums.credits.0) e) i) (cancel a.sums.credit.0 _ _ (ap (λ (f : Figures). f.sums.credit.0) e) i) (cancel a.sums.views.0 _ _ (ap (λ (f : Figures). f.sums.views.0) e) i))
  where
    cancel : (x y z : ℕ) → x + y ≡ x + z → y ≡ z
    cancel x y z e = omega arith
