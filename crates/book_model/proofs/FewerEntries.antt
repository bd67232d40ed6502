-- A table without an entry of an owner: it is still a book, the owner's entries are those without it, and the other owner's are as they were. Assumes nothing.
use Prim.Native.Nat.{ℕ, suc, ◌+◌, ◌*◌, ◌≤◌}
use native.Mathlib.Omega.{arith}
use mathlib.Core.Bool.{Bool, true, false, cond}
use mathlib.Core.Path.{◌≡◌, refl, sym, ap, ◌∙◌, subst}
use mathlib.Core.List.{List}
use lib.Dec.{eqb}
use lib.ListN.{length}
use borrow.Author.Tests.{eqb-true, eq-eqb}
use Rattle.figures.specs.declared.Figures.{Figures}
use Rattle.net.specs.Net.{within}
use Rattle.book_model.specs.PlainList.{totals_of, position_of, without}
use Rattle.book_model.specs.Table.{is_owner, block_of, rows_claimed, last_number, entries_from, entries_of, rows_used, is_book, cleared, without_entry}
use Rattle.book_model.proofs.Laws.{block_within, of_either, sound}
use Rattle.book_model.proofs.Rows.{Alike, entries-alike}
use Rattle.book_model.proofs.Cleared.{cleared-long, cleared-before, left_of, cleared-entries}
use Rattle.book_model.proofs.Head.{Adds, StillBook, book-adds, adds-alike, headed, headed-long, headed-claimed, headed-behind, headed-last, headed-adds}

pub record Shrunk (o m : ℕ) (book after : List ℕ) : Type 0 where
  pub still : StillBook book after
  pub lasts : (p : ℕ) → is_owner p ≡ true → last_number p after ≡ last_number p book
  pub entries : (p : ℕ) → is_owner p ≡ true → entries_of p after ≡ left_of o m p (entries_of p book)

module _ (o m : ℕ) (book : List ℕ) where
  abbrev wiped : List ℕ
  wiped = cleared o m book (rows_claimed book) 17

  abbrev totals_left : Figures
  totals_left = totals_of (without m (entries_of o book))

  abbrev after : List ℕ
  after = headed o wiped (last_number o book) totals_left

  module _ (good : is_book book ≡ true) (who : is_owner o ≡ true) (some : 1 ≤ rows_claimed book) (inside : within (position_of totals_left) ≡ true) where
    rows_end : 17 + 9 * rows_claimed book ≤ length book
    rows_end = omega (arith, (sound book good).claims)

    wiped-long : length wiped ≡ length book
    wiped-long = cleared-long o m (rows_claimed book) book 17

    long-enough : 17 ≤ length wiped
    long-enough = omega (arith, rows_end, wiped-long)

    head-kept : Alike wiped book 0 17
    head-kept k a b = cleared-before o m (rows_claimed book) book 17 k b

    after-claimed : rows_claimed after ≡ rows_claimed book
    after-claimed = headed-claimed o wiped (last_number o book) totals_left ∙ head-kept 0 (omega arith) (omega arith)

    entries-left : (p : ℕ) → is_owner p ≡ true → entries_of p after ≡ left_of o m p (entries_of p book)
    unfolding entries_of
    entries-left p other =
        ap (λ (n : ℕ). entries_from p after n 17) after-claimed
        ∙ entries-alike p after wiped (rows_claimed book) 17 (λ k a b. headed-behind o wiped (last_number o book) totals_left k a)
        ∙ cleared-entries o m p other (rows_claimed book) book 17 rows_end

    adds-left : (p : ℕ) → is_owner p ≡ true → Adds p after (entries_of p after)
    adds-left p other = headed-adds o wiped (last_number o book) totals_left long-enough who p other (entries_of p after) inside own others
      where
        own : eqb o p ≡ true → totals_left ≡ totals_of (entries_of p after)
        own e =
            subst (λ (q : ℕ). totals_left ≡ totals_of (entries_of q after)) (eqb-true o p e)
            (ap totals_of (sym (rw (eq-eqb o o refl) at (entries-left o who))))

        others : eqb o p ≡ false → Adds p wiped (entries_of p after)
        others e =
            rw (entries-left p other, e)
            (adds-alike p wiped book (entries_of p book) (λ k a b. head-kept k (omega arith) (omega (arith, block_within p))) (book-adds book good p other))

    last-left : (p : ℕ) → is_owner p ≡ true → last_number p after ≡ last_number p book
    last-left p other =
        headed-last o wiped (last_number o book) totals_left long-enough who p other
        ∙ ap (cond (eqb o p) (last_number o book)) (head-kept (block_of p) (omega arith) (omega (arith, block_within p)))
        ∙ by-test (eqb o p) refl
      where
        by-test : (t : Bool) → eqb o p ≡ t → cond t (last_number o book) (last_number p book) ≡ last_number p book
        by-test true e = ap (λ (q : ℕ). last_number q book) (eqb-true o p e)
        by-test false e = refl

    pub shrunk : Shrunk o m book (without_entry o book m)
    unfolding without_entry
    shrunk =
        record {
          still = record {
            long = headed-long o wiped (last_number o book) totals_left ∙ wiped-long;
            claims = omega (arith, after-claimed, (sound book good).claims);
            adds = adds-left;
          };
          lasts = last-left;
          entries = entries-left;
        }

-- a row less is used, where there was one to take out
pub shrunk-used : (o m : ℕ) (book after : List ℕ) → is_owner o ≡ true → length (entries_of o book) ≡ suc (length (without m (entries_of o book)))
    → Shrunk o m book after → rows_used book ≡ suc (rows_used after)
unfolding is_owner
shrunk-used o m book after who one s =
    omega (arith, ap length (s.entries 1 refl), ap length (s.entries 2 refl), of_either (λ (p : ℕ). length (entries_of p book) ≡ suc (length (without m (entries_of p book))) → rows_used book ≡ suc (length (left_of p m 1 (entries_of 1 book)) + length (left_of p m 2 (entries_of 2 book)))) (λ h. omega arith) (λ h. omega arith) o who one)
