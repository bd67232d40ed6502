-- Two lists of entries merged into one, each in its own order, and what is looked up, taken out and summed in the one. Assumes nothing.
use Rattle.std.specs.Prelude.{Ok, Err}
use Prim.Native.Nat.{ℕ, ◌+◌}
use native.Mathlib.Omega.{arith}
use mathlib.Core.Bool.{Bool, true, false, cond}
use mathlib.Core.Path.{◌≡◌, refl, sym, ap, ◌∙◌}
use mathlib.Core.List.{List, [], ◌∷◌, ◌++◌}
use lib.Dec.{eqb}
use lib.ListN.{length}
use Rattle.measure.specs.Measures.{sums}
use Rattle.figures.specs.declared.Figures.{Figures}
use Rattle.figures.specs.Figures.{figures, plus}
use Rattle.figures.proofs.Laws.{none-plus, plus-apart}
use Rattle.passes.specs.declared.Fault.TheVariants.{NoEntry}
use Rattle.book_model.specs.declared.Entry.{Entry}
use Rattle.book_model.specs.PlainList.{totals_of, finding, without}

pub data Merged : List Entry → List Entry → List Entry → Type 0 where
  none : Merged [] [] []
  left : {e : Entry} {es fs gs : List Entry} → Merged es fs gs → Merged (e ∷ es) fs (e ∷ gs)
  right : {e : Entry} {es fs gs : List Entry} → Merged es fs gs → Merged es (e ∷ fs) (e ∷ gs)

pub all_left : (es : List Entry) → Merged es [] es
all_left [] = none
all_left (e ∷ es) = left (all_left es)

pub none-shared : (t : Bool) (es : List Entry) → Merged es (cond t [] []) es
none-shared true es = all_left es
none-shared false es = all_left es

pub all_right : (es : List Entry) → Merged [] es es
all_right [] = none
all_right (e ∷ es) = right (all_right es)

pub behind : (es fs : List Entry) → Merged es fs (es ++ fs)
behind [] fs = all_right fs
behind (e ∷ es) fs = left (behind es fs)

pub flipped : {es fs gs : List Entry} → Merged es fs gs → Merged fs es gs
flipped none = none
flipped (left m) = right (flipped m)
flipped (right m) = left (flipped m)

pub alone : {es gs : List Entry} → Merged es [] gs → gs ≡ es
alone none = refl
alone (left {e = e} m) = ap (λ (l : List Entry). e ∷ l) (alone m)

pub merged-many : {es fs gs : List Entry} → Merged es fs gs → length gs ≡ length es + length fs
merged-many none = refl
merged-many (left m) = omega (arith, merged-many m)
merged-many (right m) = omega (arith, merged-many m)

pub plus-across : (a b c : Figures) → plus a (plus b c) ≡ plus b (plus a c)
plus-across a b c =
    λ i. figures (across a.bundles b.bundles c.bundles i) (sums (across a.sums.debits.0 b.sums.debits.0 c.sums.debits.0 i) (across a.sums.debit.0 b.sums.debit.0 c.sums.debit.0 i) (across a.sums.credits.0 b.sums.credits.0 c.sums.credits.0 i) (across a.sums.credit.0 b.sums.credit.0 c.sums.credit.0 i) (across a.sums.views.0 b.sums.views.0 c.sums.views.0 i))
  where
    across : (x y z : ℕ) → x + (y + z) ≡ y + (x + z)
    across x y z = omega arith

pub merged-totals : {es fs gs : List Entry} → Merged es fs gs → totals_of gs ≡ plus (totals_of es) (totals_of fs)
unfolding totals_of
merged-totals none = sym (none-plus (totals_of []))
merged-totals (left {e = e} {es = es} {fs = fs} m) = ap (plus e.figures) (merged-totals m) ∙ sym (plus-apart e.figures (totals_of es) (totals_of fs))
merged-totals (right {e = e} {es = es} {fs = fs} m) = ap (plus e.figures) (merged-totals m) ∙ plus-across e.figures (totals_of es) (totals_of fs)

-- a number that no entry has
abbrev pub Absent : ℕ → List Entry → Type 0
Absent n es = finding es n ≡ Err NoEntry

pub record NotHere (n : ℕ) (e : Entry) (es : List Entry) : Type 0 where
  pub here : eqb e.number n ≡ false
  pub behind : Absent n es

pub not-here : (n : ℕ) (e : Entry) (es : List Entry) → Absent n (e ∷ es) → NotHere n e es
unfolding finding
not-here n e es a = by-test (eqb e.number n) refl a
  where
    by-test : (t : Bool) → eqb e.number n ≡ t → cond t (Ok e) (finding es n) ≡ Err NoEntry → NotHere n e es
    by-test true q h = absurd (let z : ◌≡◌ {A = ℕ} 0 1 = cc in omega arith)
    by-test false q h = record { here = q; behind = h }

module _ (n : ℕ) where
  pub merged-found : {es fs gs : List Entry} → Merged es fs gs → Absent n es → finding gs n ≡ finding fs n
  unfolding finding
  merged-found none a = refl
  merged-found (left {e = e} {es = es} m) a = let h = not-here n e es a in rw h.here (merged-found m h.behind)
  merged-found (right {e = e} {fs = fs} {gs = gs} m) a = rw (merged-found m a)

  pub merged-without : {es fs gs : List Entry} → Merged es fs gs → Absent n es → Merged es (without n fs) (without n gs)
  unfolding finding without
  merged-without none a = none
  merged-without (left {e = e} {es = es} m) a = let h = not-here n e es a in rw h.here (left (merged-without m h.behind))
  merged-without (right {e = e} {es = es} {fs = fs} {gs = gs} m) a = by-test (eqb e.number n) (merged-without m a)
    where
      by-test : (t : Bool) → Merged es (without n fs) (without n gs) → Merged es (cond t fs (e ∷ without n fs)) (cond t gs (e ∷ without n gs))
      by-test true later = m
      by-test false later = right later
