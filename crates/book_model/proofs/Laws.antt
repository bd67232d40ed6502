-- Rows of a book one behind the other, and what each call makes of one row and those behind it. Assumes nothing.
use Rattle.std.specs.Prelude.{Ok, Err}
use Prim.Native.Nat.{ℕ, zero, suc, ◌+◌, ◌-◌, ◌*◌, ◌≤◌, ◌<◌}
use native.Mathlib.Numerals.{sub-one}
use native.Mathlib.Omega.{arith}
use mathlib.Core.Bool.{Bool, true, false, ◌&&◌, cond}
use mathlib.Core.List.{List, [], ◌∷◌}
use mathlib.Core.Path.{◌≡◌, refl, sym, ap, ◌∙◌, subst}
use lib.Dec.{leb, eqb}
use lib.ListN.{length, get_or}
use borrow.Author.Tests.{leb-true, eqb-true, eq-eqb, ne_eqb}
use Rattle.figures.specs.declared.Figures.{Figures}
use Rattle.figures.specs.Figures.{no_figures, plus, minus, same, covers}
use Rattle.figures.proofs.Laws.{both, same_true, same_step, none-plus}
use Rattle.net.specs.Net.{is_net}
use Rattle.passes.specs.declared.Fault.TheVariants.{NoEntry}
use Rattle.book_model.specs.declared.Entry.{Entry}
use Rattle.book_model.specs.PlainList.{totals_of, position_of, finding}
use Rattle.book_model.specs.Table.{is_owner, block_of, rows_claimed, running_totals, net_number, rows_there, entry_at, own_figures_at, entries_from, entries_of, adds_up, is_book}

-- where a walk over the rows claimed stands with so many still to come; the next of them lies within the table
abbrev pub Walk : ℕ → ℕ → ℕ → Type 0
Walk claimed n at = (17 ≤ at) × (at + 9 * n ≡ 17 + 9 * claimed)

module _ (book : List ℕ) (claimed n at : ℕ) (h : claimed ≤ rows_there book) (w : Walk claimed n at) (k : 0 < n) where
  pub row_within : at + 9 ≤ length book
  row_within = omega arith

  pub row_at : (i : ℕ) → i < 9 → at + i < length book
  row_at i b = omega (arith, row_within)

  pub row_here : at < length book
  row_here = omega (arith, row_within)

-- the walk in a loop over the rows claimed, at its row k
pub walk-at : (claimed k : ℕ) → k ≤ claimed → Walk claimed (claimed - k) (17 + 9 * k)
walk-at claimed k h = (omega arith, omega arith)

pub fewer : (claimed k : ℕ) → claimed - k - 1 ≡ claimed - (k + 1)
fewer claimed k = omega arith

pub further : (at k : ℕ) → at + 9 * k + 9 ≡ at + 9 * (k + 1)
further at k = omega arith

-- where an owner's numbers stand: behind the rows claimed, and before the rows
pub block_within : (o : ℕ) → (1 ≤ block_of o) × (block_of o ≤ 9)
unfolding block_of
block_within o = by-owner (eqb o 2)
  where
    by-owner : (t : Bool) → (1 ≤ cond t 9 1) × (cond t 9 1 ≤ 9)
    by-owner true = (omega arith, omega arith)
    by-owner false = (omega arith, omega arith)

-- an entry that is the owner's, or is not, before others
module _ (e : Entry) (es : List Entry) where
  found-if : (t : Bool) (m : ℕ) → finding (cond t (e ∷ es) es) m ≡ cond (t && eqb e.number m) (Ok e) (finding es m)
  unfolding finding
  found-if true m = refl
  found-if false m = refl

  sums-if : (t : Bool) → totals_of (cond t (e ∷ es) es) ≡ plus (cond t e.figures no_figures) (totals_of es)
  unfolding totals_of
  sums-if true = refl
  sums-if false = sym (none-plus (totals_of es))

module _ (o : ℕ) (book : List ℕ) (at : ℕ) where
  rows_none : (n : ℕ) → n ≤ 0 → entries_from o book n at ≡ []
  unfolding entries_from
  rows_none zero h = refl
  rows_none (suc n) h = absurd (omega arith)

  rows_more : (n : ℕ) → 0 < n
      → entries_from o book n at
      ≡ cond (eqb (get_or book at 0) o) (entry_at book at ∷ entries_from o book (n - 1) (at + 9)) (entries_from o book (n - 1) (at + 9))
  unfolding entries_from
  rows_more zero h = absurd (omega arith)
  rows_more (suc n) h = rw (sub-one (suc n))

  module _ (n : ℕ) where
    others : List Entry
    others = entries_from o book (n - 1) (at + 9)

    module _ (m : ℕ) where
      -- an entry number
      pub found_none : n ≤ 0 → finding (entries_from o book n at) m ≡ Err NoEntry
      unfolding finding
      found_none h = rw (rows_none n h)

      found-more : 0 < n
          → finding (entries_from o book n at) m
          ≡ cond (eqb (get_or book at 0) o && eqb (get_or book (at + 1) 0) m) (Ok (entry_at book at)) (finding (entries_from o book (n - 1) (at + 9)) m)
      unfolding entry_at
      found-more h = rw (rows_more n h) (found-if (entry_at book at) (entries_from o book (n - 1) (at + 9)) (eqb (get_or book at 0) o) m)

      pub found_here : 0 < n → eqb (get_or book at 0) o && eqb (get_or book (at + 1) 0) m ≡ true
          → finding (entries_from o book n at) m ≡ Ok (entry_at book at)
      found_here h e = found-more h ∙ rw e

      pub found-behind : 0 < n → eqb (get_or book at 0) o && eqb (get_or book (at + 1) 0) m ≡ false
          → finding (entries_from o book n at) m ≡ finding (entries_from o book (n - 1) (at + 9)) m
      found-behind h e = found-more h ∙ rw e

    -- how many rows are the owner's
    pub count_none : n ≤ 0 → length (entries_from o book n at) ≡ 0
    count_none h = rw (rows_none n h)

    pub count-own : 0 < n → get_or book at 0 ≡ o → length (entries_from o book n at) ≡ suc (length (entries_from o book (n - 1) (at + 9)))
    count-own h e = rw (rows_more n h, eq-eqb (get_or book at 0) o e)

    pub count-other : 0 < n → (get_or book at 0 ≡ o → ⊥) → length (entries_from o book n at) ≡ length (entries_from o book (n - 1) (at + 9))
    count-other h e = rw (rows_more n h, ne_eqb (get_or book at 0) o e)

    -- what is left of the running totals
    module _ (left : Figures) where
      pub sums_none : n ≤ 0 → same left (totals_of (entries_from o book n at)) ≡ same left no_figures
      unfolding totals_of
      sums_none h = rw (rows_none n h)

      sums-more : 0 < n
          → same left (totals_of (entries_from o book n at))
          ≡ covers left (own_figures_at o book at) && same (minus left (own_figures_at o book at)) (totals_of (entries_from o book (n - 1) (at + 9)))
      unfolding entry_at
      sums-more h =
          rw (rows_more n h, sums-if (entry_at book at) (entries_from o book (n - 1) (at + 9)) (eqb (get_or book at 0) o))
          (same_step left (own_figures_at o book at) (totals_of (entries_from o book (n - 1) (at + 9))))

      pub sums-short : 0 < n → covers left (own_figures_at o book at) ≡ false → same left (totals_of (entries_from o book n at)) ≡ false
      sums-short h e = sums-more h ∙ rw e

      pub sums-behind : 0 < n → covers left (own_figures_at o book at) ≡ true
          → same left (totals_of (entries_from o book n at)) ≡ same (minus left (own_figures_at o book at)) (totals_of (entries_from o book (n - 1) (at + 9)))
      sums-behind h e = sums-more h ∙ rw e

false-true : ◌≡◌ {A = Bool} false true → ⊥
false-true e = let z : ◌≡◌ {A = ℕ} 0 1 = cc in omega arith

-- an owner is one of two
pub of_either : (P : ℕ → Type 0) → P 1 → P 2 → (o : ℕ) → is_owner o ≡ true → P o
unfolding is_owner
of_either P one two o e = by_first (eqb o 1) refl
  where
    by-second : (t : Bool) → eqb o 2 ≡ t → t ≡ true → P o
    by-second true q r = subst P (sym (eqb-true o 2 q)) two
    by-second false q r = absurd (false-true r)

    by_first : (t : Bool) → eqb o 1 ≡ t → P o
    by_first true q = subst P (sym (eqb-true o 1 q)) one
    by_first false q = by-second (eqb o 2) refl (sym (rw q refl) ∙ e)

-- the net position may be judged by the running totals, which are the sums wherever it is asked for
pub net-of-sums : (n : ℕ) (a b : Figures) → same a b && is_net n (position_of a) ≡ same a b && is_net n (position_of b)
net-of-sums n a b = by-test (same a b) refl
  where
    by-test : (t : Bool) → same a b ≡ t → t && is_net n (position_of a) ≡ t && is_net n (position_of b)
    by-test true e = ap (λ (f : Figures). is_net n (position_of f)) (same_true a b e)
    by-test false e = refl

-- what a book that is one promises
pub record Sound (book : List ℕ) : Type 0 where
  pub claims : rows_claimed book ≤ rows_there book
  pub sums : (o : ℕ) → is_owner o ≡ true → running_totals o book ≡ totals_of (entries_of o book)
  pub nets : (o : ℕ) → is_owner o ≡ true → is_net (net_number o book) (position_of (running_totals o book)) ≡ true

pub record AddedUp (o : ℕ) (book : List ℕ) : Type 0 where
  pub sums : running_totals o book ≡ totals_of (entries_of o book)
  pub net : is_net (net_number o book) (position_of (running_totals o book)) ≡ true

pub added-up : (o : ℕ) (book : List ℕ) → adds_up o book ≡ true → AddedUp o book
unfolding adds_up
added-up o book e =
    let u = both (same (running_totals o book) (totals_of (entries_of o book))) (is_net (net_number o book) (position_of (totals_of (entries_of o book)))) e in
    let sums = same_true (running_totals o book) (totals_of (entries_of o book)) u.0 in
    record { sums = sums; net = ap (λ (f : Figures). is_net (net_number o book) (position_of f)) sums ∙ u.1 }

pub sound : (book : List ℕ) → is_book book ≡ true → Sound book
unfolding is_book
sound book e =
    let u = both _ (adds_up 2 book) e in
    let v = both (leb (rows_claimed book) (rows_there book)) (adds_up 1 book) u.0 in
    let each = of_either (λ (o : ℕ). AddedUp o book) (added-up 1 book v.1) (added-up 2 book u.1) in
    record {
      claims = leb-true (rows_claimed book) (rows_there book) v.0;
      sums = λ o w. (each o w).sums;
      nets = λ o w. (each o w).net;
    }
