-- A table with more entries of an owner: it is still a book, the owner's entries have the new ones merged in, and the other owner's are as they were. Assumes
-- nothing.
use Prim.Native.Nat.{ℕ, zero, suc, ◌+◌, ◌-◌, ◌*◌, ◌≤◌}
use native.Mathlib.Nat.{add-zero}
use native.Mathlib.Numerals.{towards_suc}
use native.Mathlib.Omega.{arith}
use mathlib.Core.Bool.{Bool, true, false, cond}
use mathlib.Core.Path.{◌≡◌, refl, sym, ap, ◌∙◌, subst}
use mathlib.Core.List.{List, [], ◌∷◌, ◌++◌}
use lib.Dec.{eqb}
use lib.ListN.{length, get_or, set, length-set}
use lib.Seq.{sets, set-get_or, get_or-set_same, get_or-set_other}
use borrow.Author.Tests.{eqb-true, eq-eqb}
use Rattle.figures.specs.declared.Figures.{Figures}
use Rattle.figures.specs.Figures.{plus, numbers_of, figures_at}
use Rattle.figures.proofs.Laws.{plus_none}
use Rattle.net.specs.Net.{within}
use Rattle.net.proofs.Laws.{net-bits}
use Rattle.book_model.specs.declared.Entry.{Entry}
use Rattle.book_model.specs.PlainList.{totals_of, position_of}
use Rattle.book_model.specs.Table.{is_owner, block_of, rows_claimed, last_number, running_totals, net_number, rows_there, rows_of, entries_of, rows_used, free_rows, gaps, is_book, block_with, placed, with_entries}
use Rattle.book_model.proofs.Laws.{block_within, of_either, sound}
use Rattle.book_model.proofs.Rows.{Alike, entries-alike, share_of}
use Rattle.book_model.proofs.Merged.{Merged, none-shared, alone, merged-many, merged-totals}
use Rattle.book_model.proofs.Used.{used-claimed}
use Rattle.book_model.proofs.Placed.{placed-long, placed-before, placed-merged}
use Rattle.book_model.proofs.Head.{Adds, StillBook, book-adds, adds-alike, headed, headed-long, headed-claimed, headed-behind, headed-last, headed-adds}

pub record Grown (o : ℕ) (book after : List ℕ) (es : List Entry) : Type 0 where
  pub still : StillBook book after
  pub lasts : (p : ℕ) → is_owner p ≡ true → last_number p after ≡ cond (eqb o p) (last_number o book + length es) (last_number p book)
  pub entries : (p : ℕ) → is_owner p ≡ true → Merged (entries_of p book) (share_of p o es) (entries_of p after)

-- nothing more: the head is written as it stands, however short the table
block-kept : (book : List ℕ) (at : ℕ) → sets book at (get_or book at 0 ∷ numbers_of (figures_at book (at + 1)) ++ (get_or book (at + 7) 0 ∷ [])) ≡ book
unfolding figures_at
block-kept book at = simp (towards_suc, set-get_or)

none-placed : (o : ℕ) (book : List ℕ) (n at : ℕ) → placed o book n at [] ≡ book
unfolding placed rows_of
none-placed o book zero at = refl
none-placed o book (suc n) at = refl

nothing-more : (o : ℕ) (book : List ℕ) → is_book book ≡ true → is_owner o ≡ true → with_entries o book [] ≡ book
unfolding with_entries totals_of
nothing-more o book good who =
    (λ i. sets (set (none-placed o book (rows_claimed book) 17 i) 0 (as_many i)) (block_of o) (block_with (add-zero (last_number o book) i) (plus_none (running_totals o book) i)))
    ∙ ap (λ (l : List ℕ). sets l (block_of o) (block_with (last_number o book) (running_totals o book))) (set-get_or book 0 0)
    ∙ ap (λ (n : ℕ). sets book (block_of o) (last_number o book ∷ numbers_of (running_totals o book) ++ (n ∷ [])))
    (sym (net-bits (net_number o book) (position_of (running_totals o book)) ((sound book good).nets o who)))
    ∙ block-kept book (block_of o)
  where
    as_many : rows_claimed book + (0 - gaps book) ≡ rows_claimed book
    as_many = omega arith

not-grown : (o : ℕ) (book : List ℕ) → is_book book ≡ true → Grown o book book []
not-grown o book good =
    record {
      still = record { long = refl; claims = (sound book good).claims; adds = book-adds book good };
      lasts = λ p who. same-last p (eqb o p) refl;
      entries = λ p who. none-shared (eqb o p) (entries_of p book);
    }
  where
    same-last : (p : ℕ) (t : Bool) → eqb o p ≡ t → last_number p book ≡ cond t (last_number o book + 0) (last_number p book)
    same-last p true e = rw (eqb-true o p e) (sym (add-zero (last_number p book)))
    same-last p false e = refl

module _ (o : ℕ) (book : List ℕ) (es : List Entry) where
  abbrev claimed_after : ℕ
  claimed_after = rows_claimed book + (length es - gaps book)

  abbrev written : List ℕ
  written = placed o book (rows_claimed book) 17 es

  abbrev counted : List ℕ
  counted = set written 0 claimed_after

  abbrev totals_after : Figures
  totals_after = plus (running_totals o book) (totals_of es)

  abbrev after : List ℕ
  after = headed o counted (last_number o book + length es) totals_after

  counted-long : length counted ≡ length book
  counted-long = length-set written 0 claimed_after ∙ placed-long o (rows_claimed book) book 17 es

  -- the head apart from the count, and what is behind it
  head-kept : Alike counted book 1 17
  head-kept k a b = get_or-set_other written 0 k claimed_after 0 (λ e. omega arith) ∙ placed-before o (rows_claimed book) book 17 es k b

  behind-head : (k : ℕ) → 17 ≤ k → get_or after k 0 ≡ get_or written k 0
  behind-head k h =
      headed-behind o counted (last_number o book + length es) totals_after k h ∙ get_or-set_other written 0 k claimed_after 0 (λ e. omega arith)

  module _ (good : is_book book ≡ true) (who : is_owner o ≡ true) (room : length es ≤ free_rows book)
      (inside : within (position_of totals_after) ≡ true) (some : 1 ≤ length es) where
    within-there : (claimed_after ≤ rows_there book) × (1 ≤ rows_there book)
    within-there = (omega (arith, used-claimed book, (sound book good).claims), omega arith)

    rows_end : 17 + 9 * claimed_after ≤ length book
    rows_end = omega (arith, within-there)

    after-claimed : rows_claimed after ≡ claimed_after
    after-claimed =
        headed-claimed o counted (last_number o book + length es) totals_after
        ∙ get_or-set_same written 0 claimed_after 0 (omega (arith, rows_end, placed-long o (rows_claimed book) book 17 es))

    long-enough : 17 ≤ length counted
    long-enough = omega (arith, rows_end, counted-long)

    entries-after : (p : ℕ) → is_owner p ≡ true → Merged (entries_of p book) (share_of p o es) (entries_of p after)
    unfolding entries_of
    entries-after p other =
        rw (after-claimed, entries-alike p after written claimed_after 17 (λ k a b. behind-head k a))
        (placed-merged o p other (rows_claimed book) book 17 es rows_end)

    adds-after : (p : ℕ) → is_owner p ≡ true → Adds p after (entries_of p after)
    adds-after p other =
        headed-adds o counted (last_number o book + length es) totals_after long-enough who p other (entries_of p after) inside own others
      where
        own : eqb o p ≡ true → totals_after ≡ totals_of (entries_of p after)
        own e =
            subst (λ (q : ℕ). totals_after ≡ totals_of (entries_of q after)) (eqb-true o p e)
            (ap (λ (f : Figures). plus f (totals_of es)) ((sound book good).sums o who) ∙ sym (merged-totals (rw (eq-eqb o o refl) at (entries-after o who))))

        others : eqb o p ≡ false → Adds p counted (entries_of p after)
        others e =
            rw (alone (rw e at (entries-after p other)))
            (adds-alike p counted book (entries_of p book)
            (λ k a b. head-kept k (omega (arith, block_within p)) (omega (arith, block_within p))) (book-adds book good p other))

    last-after : (p : ℕ) → is_owner p ≡ true → last_number p after ≡ cond (eqb o p) (last_number o book + length es) (last_number p book)
    last-after p other =
        headed-last o counted (last_number o book + length es) totals_after long-enough who p other
        ∙ ap (cond (eqb o p) (last_number o book + length es)) (head-kept (block_of p) (block_within p).0 (omega (arith, block_within p)))

    some_more : Grown o book (with_entries o book es) es
    unfolding with_entries
    some_more =
        record {
          still = record {
            long = headed-long o counted (last_number o book + length es) totals_after ∙ counted-long;
            claims = omega (arith, after-claimed, within-there);
            adds = adds-after;
          };
          lasts = last-after;
          entries = entries-after;
        }

pub grown : (o : ℕ) (book : List ℕ) (es : List Entry) → is_book book ≡ true → is_owner o ≡ true → length es ≤ free_rows book
    → within (position_of (plus (running_totals o book) (totals_of es))) ≡ true → Grown o book (with_entries o book es) es
grown o book [] good who h inside = rw (nothing-more o book good who) (not-grown o book good)
grown o book (e ∷ es) good who h inside = some_more o book (e ∷ es) good who h inside (omega arith)

-- as many rows more are used
pub grown-used : (o : ℕ) (book after : List ℕ) (es : List Entry) → is_owner o ≡ true → Grown o book after es → rows_used after ≡ rows_used book + length es
unfolding is_owner
grown-used o book after es who g =
    omega (arith, merged-many (g.entries 1 refl), merged-many (g.entries 2 refl), of_either (λ (p : ℕ). length (share_of 1 p es) + length (share_of 2 p es) ≡ length es) (omega arith) (omega arith) o who)
