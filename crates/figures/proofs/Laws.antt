-- What the tests on figures say of each of the six. Assumes nothing.
use Prim.Native.Nat.{ℕ, ◌+◌, ◌-◌, ◌≤◌}
use native.Mathlib.Nat.{add-zero, add_assoc}
use native.Mathlib.Omega.{arith}
use mathlib.Core.Bool.{Bool, true, false, ◌&&◌}
use mathlib.Core.Path.{◌≡◌, refl}
use lib.Dec.{leb, eqb}
use borrow.Author.Tests.{leb-true, leb-false, le-leb, lt-leb, eqb-true, eq-eqb, ne_eqb, eqb-false}
use Rattle.measure.specs.Measures.{sums}
use Rattle.figures.specs.declared.Figures.{Figures}
use Rattle.figures.specs.Figures.{figures, no_figures, plus, minus, same, covers, most, fits}

pub both : (p q : Bool) → p && q ≡ true → (p ≡ true) × (q ≡ true)
both true q e = (refl, e)
both false q e = (e, cc)

-- the first has each figure of the second in it
pub record Covered (a b : Figures) : Type 0 where
  pub bundles : b.bundles ≤ a.bundles
  pub debits : b.sums.debits.0 ≤ a.sums.debits.0
  pub credits : b.sums.credits.0 ≤ a.sums.credits.0
  pub views : b.sums.views.0 ≤ a.sums.views.0
  pub debit : b.sums.debit.0 ≤ a.sums.debit.0
  pub credit : b.sums.credit.0 ≤ a.sums.credit.0

pub covered : (a b : Figures) → covers a b ≡ true → Covered a b
unfolding covers
covered a b e =
    let u = both _ (leb b.sums.credit.0 a.sums.credit.0) e in
    let v = both _ (leb b.sums.debit.0 a.sums.debit.0) u.0 in
    let w = both _ (leb b.sums.views.0 a.sums.views.0) v.0 in
    let x = both _ (leb b.sums.credits.0 a.sums.credits.0) w.0 in
    let y = both (leb b.bundles a.bundles) (leb b.sums.debits.0 a.sums.debits.0) x.0 in
    record {
      bundles = leb-true b.bundles a.bundles y.0;
      debits = leb-true b.sums.debits.0 a.sums.debits.0 y.1;
      credits = leb-true b.sums.credits.0 a.sums.credits.0 x.1;
      views = leb-true b.sums.views.0 a.sums.views.0 w.1;
      debit = leb-true b.sums.debit.0 a.sums.debit.0 v.1;
      credit = leb-true b.sums.credit.0 a.sums.credit.0 u.1;
    }

pub fitting : (a : Figures) → fits a ≡ true → Covered most a
unfolding fits
fitting a e = covered most a e

pub same_true : (a b : Figures) → same a b ≡ true → a ≡ b
unfolding same
same_true a b e =
    let u = both _ (eqb a.sums.credit.0 b.sums.credit.0) e in
    let v = both _ (eqb a.sums.debit.0 b.sums.debit.0) u.0 in
    let w = both _ (eqb a.sums.views.0 b.sums.views.0) v.0 in
    let x = both _ (eqb a.sums.credits.0 b.sums.credits.0) w.0 in
    let y = both (eqb a.bundles b.bundles) (eqb a.sums.debits.0 b.sums.debits.0) x.0 in
    let bundles = eqb-true a.bundles b.bundles y.0 in
    let debits = eqb-true a.sums.debits.0 b.sums.debits.0 y.1 in
    let credits = eqb-true a.sums.credits.0 b.sums.credits.0 x.1 in
    let views = eqb-true a.sums.views.0 b.sums.views.0 w.1 in
    let debit = eqb-true a.sums.debit.0 b.sums.debit.0 v.1 in
    let credit = eqb-true a.sums.credit.0 b.sums.credit.0 u.1 in
    λ i. figures (bundles i) (sums (debits i) (debit i) (credits i) (credit i) (views i))

pub same_refl : (a : Figures) → same a a ≡ true
unfolding same
same_refl a =
    rw (
      eq-eqb a.bundles a.bundles refl,
      eq-eqb a.sums.debits.0 a.sums.debits.0 refl,
      eq-eqb a.sums.credits.0 a.sums.credits.0 refl,
      eq-eqb a.sums.views.0 a.sums.views.0 refl,
      eq-eqb a.sums.debit.0 a.sums.debit.0 refl,
      eq-eqb a.sums.credit.0 a.sums.credit.0 refl,
    )

-- nothing added, on either side, and in which order three are added
figures-eq : (a b : Figures) → a.bundles ≡ b.bundles → a.sums.debits.0 ≡ b.sums.debits.0 → a.sums.debit.0 ≡ b.sums.debit.0
    → a.sums.credits.0 ≡ b.sums.credits.0 → a.sums.credit.0 ≡ b.sums.credit.0 → a.sums.views.0 ≡ b.sums.views.0 → a ≡ b
figures-eq a b p q r s t u = λ i. figures (p i) (sums (q i) (r i) (s i) (t i) (u i))

none_left : (n : ℕ) → 0 + n ≡ n
none_left n = omega arith

pub plus_none : (a : Figures) → plus a no_figures ≡ a
plus_none a = figures-eq (plus a no_figures) a (add-zero _) (add-zero _) (add-zero _) (add-zero _) (add-zero _) (add-zero _)

pub none-plus : (a : Figures) → plus no_figures a ≡ a
none-plus a = figures-eq (plus no_figures a) a (none_left _) (none_left _) (none_left _) (none_left _) (none_left _) (none_left _)

pub plus-apart : (a b c : Figures) → plus (plus a b) c ≡ plus a (plus b c)
plus-apart a b c =
    figures-eq (plus (plus a b) c) (plus a (plus b c)) (add_assoc _ _ _) (add_assoc _ _ _) (add_assoc _ _ _) (add_assoc _ _ _) (add_assoc _ _ _) (add_assoc _ _ _)

-- taking a row's figures away: what is left is the rest exactly where the whole was the row and the rest
one-step : (l a b : ℕ) → eqb l (a + b) ≡ leb a l && eqb (l - a) b
one-step l a b = by_order (leb a l) refl
  where
    by_order : (t : Bool) → leb a l ≡ t → eqb l (a + b) ≡ t && eqb (l - a) b
    by_order true e = by-rest (eqb (l - a) b) refl
      where
        by-rest : (t : Bool) → eqb (l - a) b ≡ t → eqb l (a + b) ≡ t
        by-rest true q = eq-eqb l (a + b) (omega (arith, leb-true a l e, eqb-true (l - a) b q))
        by-rest false q = ne_eqb l (a + b) (λ h. eqb-false (l - a) b q (omega (arith, leb-true a l e)))
    by_order false e = ne_eqb l (a + b) (λ h. omega (arith, leb-false a l e))

swap : (p q r s : Bool) → (p && q) && (r && s) ≡ (p && r) && (q && s)
swap true true r s = refl
swap true false true s = refl
swap true false false s = refl
swap false q r s = refl

-- two tests, each of six, joined pair by pair or apart
six : (a b c d e f u v w x y z : Bool)
    → (a && u) && (b && v) && (c && w) && (d && x) && (e && y) && (f && z) ≡ (a && b && c && d && e && f) && (u && v && w && x && y && z)
six a b c d e f u v w x y z =
    rw (swap a u b v, swap (a && b) (u && v) c w, swap (a && b && c) (u && v && w) d x, swap (a && b && c && d) (u && v && w && x) e y)
    (swap (a && b && c && d && e) (u && v && w && x && y) f z)

pub same_step : (l a b : Figures) → same l (plus a b) ≡ covers l a && same (minus l a) b
unfolding same covers
same_step l a b =
    rw (one-step l.bundles, one-step l.sums.debits.0, one-step l.sums.credits.0, one-step l.sums.views.0, one-step l.sums.debit.0, one-step l.sums.credit.0)
    (six (leb a.bundles l.bundles) (leb a.sums.debits.0 l.sums.debits.0) (leb a.sums.credits.0 l.sums.credits.0) (leb a.sums.views.0 l.sums.views.0) (leb a.sums.debit.0 l.sums.debit.0) (leb a.sums.credit.0 l.sums.credit.0) (eqb (l.bundles - a.bundles) b.bundles) (eqb (l.sums.debits.0 - a.sums.debits.0) b.sums.debits.0) (eqb (l.sums.credits.0 - a.sums.credits.0) b.sums.credits.0) (eqb (l.sums.views.0 - a.sums.views.0) b.sums.views.0) (eqb (l.sums.debit.0 - a.sums.debit.0) b.sums.debit.0) (eqb (l.sums.credit.0 - a.sums.credit.0) b.sums.credit.0))

-- a sum keeps within a limit where the one leaves room for the other
pub room : (limit a b : ℕ) → a ≤ limit → leb (a + b) limit ≡ leb b (limit - a)
room limit a b h = by_order (leb b (limit - a)) refl
  where
    by_order : (t : Bool) → leb b (limit - a) ≡ t → leb (a + b) limit ≡ t
    by_order true e = le-leb (a + b) limit (omega (arith, leb-true b (limit - a) e))
    by_order false e = lt-leb (a + b) limit (omega (arith, leb-false b (limit - a) e))

-- every six figures of 64 bits fit; what is then left of the most has room for others just where the sum fits
abbrev greatest : ℕ
greatest = 0xFFFF_FFFF_FFFF_FFFF

pub within_most : (a : Figures) → Covered most a → covers most a ≡ true
unfolding covers
within_most a h =
    rw (le-leb a.bundles greatest h.bundles, le-leb a.sums.debits.0 greatest h.debits, le-leb a.sums.credits.0 greatest h.credits, le-leb a.sums.views.0 greatest h.views, le-leb a.sums.debit.0 greatest h.debit, le-leb a.sums.credit.0 greatest h.credit)

pub room-left : (a b : Figures) → Covered most a → covers (minus most a) b ≡ fits (plus a b)
unfolding fits covers
room-left a b h =
    rw (room greatest a.bundles b.bundles h.bundles, room greatest a.sums.debits.0 b.sums.debits.0 h.debits, room greatest a.sums.credits.0 b.sums.credits.0 h.credits, room greatest a.sums.views.0 b.sums.views.0 h.views, room greatest a.sums.debit.0 b.sums.debit.0 h.debit, room greatest a.sums.credit.0 b.sums.credit.0 h.credit)

-- none has only none in it
zero-alone : (n : ℕ) → leb n 0 ≡ eqb n 0
zero-alone n = by-test (eqb n 0) refl
  where
    by-test : (t : Bool) → eqb n 0 ≡ t → leb n 0 ≡ t
    by-test true e = let zero : n ≡ 0 = eqb-true n 0 e in le-leb n 0 (omega arith)
    by-test false e = let some : n ≡ 0 → ⊥ = eqb-false n 0 e in lt-leb n 0 (omega arith)

pub none-covers : (a : Figures) → covers no_figures a ≡ same a no_figures
unfolding covers same
none-covers a =
    rw (zero-alone a.bundles, zero-alone a.sums.debits.0, zero-alone a.sums.credits.0, zero-alone a.sums.views.0, zero-alone a.sums.debit.0, zero-alone a.sums.credit.0)
