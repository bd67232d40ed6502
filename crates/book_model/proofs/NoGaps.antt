-- A table tidied up: it is still a book, and each owner's entries are as they were, in their order. Assumes nothing.
use Prim.Native.Nat.{ℕ, ◌*◌}
use native.Mathlib.Omega.{arith}
use mathlib.Core.Bool.{Bool, true, false}
use mathlib.Core.Path.{◌≡◌, refl, sym, ap, ◌∙◌}
use mathlib.Core.List.{List, [], ◌∷◌}
use lib.Dec.{leb}
use lib.ListN.{length, get_or, set, length-set}
use lib.Seq.{sets, length-sets, get_or-set_other}
use borrow.Author.Tests.{leb-true, leb-false}
use Rattle.copying.specs.Times.{times}
use Rattle.book_model.specs.Table.{is_owner, block_of, rows_claimed, last_number, entries_from, entries_of, rows_used, gaps, is_book, used_from, tidied}
use Rattle.book_model.proofs.Laws.{block_within, sound}
use Rattle.book_model.proofs.Stores.{stored-before}
use Rattle.book_model.proofs.Rows.{Alike, entries-alike}
use Rattle.book_model.proofs.Used.{used-claimed}
use Rattle.book_model.proofs.Tidied.{tidied-entries}
use Rattle.book_model.proofs.Head.{Adds, StillBook, book-adds, adds-alike}

pub record ClosedUp (book after : List ℕ) : Type 0 where
  pub still : StillBook book after
  pub lasts : (p : ℕ) → is_owner p ≡ true → last_number p after ≡ last_number p book
  pub entries : (p : ℕ) → is_owner p ≡ true → entries_of p after ≡ entries_of p book

-- the first number of a table that may have none
first-set : (l : List ℕ) (v : ℕ) → (length l ≡ 0 → v ≡ 0) → get_or (set l 0 v) 0 0 ≡ v
first-set [] v h = sym (h refl)
first-set (x ∷ l) v h = refl

module _ (book : List ℕ) where
  abbrev wiped : List ℕ
  wiped = sets book 17 (times (9 * rows_claimed book) 0)

  abbrev closed : List ℕ
  closed = sets wiped 17 (used_from book (rows_claimed book) 17)

  abbrev after : List ℕ
  after = set closed 0 (rows_used book)

  wiped-long : length wiped ≡ length book
  wiped-long = length-sets book 17 (times (9 * rows_claimed book) 0)

  closed-long : length closed ≡ length book
  closed-long = length-sets wiped 17 (used_from book (rows_claimed book) 17) ∙ wiped-long

  head-kept : Alike after book 1 17
  head-kept k a b =
      get_or-set_other closed 0 k (rows_used book) 0 (λ e. omega arith) ∙ stored-before (used_from book (rows_claimed book) 17) wiped 17 k b
      ∙ stored-before (times (9 * rows_claimed book) 0) book 17 k b

  module _ (good : is_book book ≡ true) where
    after-claimed : rows_claimed after ≡ rows_used book
    after-claimed = first-set closed (rows_used book) (λ h. omega (arith, closed-long, used-claimed book, (sound book good).claims))

    entries-closed : (p : ℕ) → is_owner p ≡ true → entries_of p after ≡ entries_of p book
    unfolding entries_of entries_from
    entries-closed p who = by_length (leb 17 (length book)) refl
      where
        by_length : (t : Bool) → leb 17 (length book) ≡ t → entries_of p after ≡ entries_of p book
        by_length true e =
            let long = leb-true 17 (length book) e in
            ap (λ (n : ℕ). entries_from p after n 17) after-claimed
            ∙ entries-alike p after closed (rows_used book) 17 (λ k a b. get_or-set_other closed 0 k (rows_used book) 0 (λ q. omega arith))
            ∙ tidied-entries book p who (rows_claimed book) 17 wiped 17 (omega (arith, (sound book good).claims))
            (omega (arith, wiped-long, used-claimed book, (sound book good).claims))
        by_length false e =
            let short = leb-false 17 (length book) e in
            let none : rows_claimed book ≡ 0 = omega (arith, (sound book good).claims) in
            let none_after : rows_claimed after ≡ 0 = omega (arith, after-claimed, used-claimed book) in
            ap (λ (n : ℕ). entries_from p after n 17) none_after ∙ sym (ap (λ (n : ℕ). entries_from p book n 17) none)

    adds-closed : (p : ℕ) → is_owner p ≡ true → Adds p after (entries_of p after)
    adds-closed p who =
        rw (entries-closed p who)
        (adds-alike p after book (entries_of p book) (λ k a b. head-kept k (omega (arith, block_within p)) (omega (arith, block_within p))) (book-adds book good p who))

    pub closed-up : ClosedUp book (tidied book)
    unfolding tidied
    closed-up =
        record {
          still = record {
            long = length-set closed 0 (rows_used book) ∙ closed-long;
            claims = omega (arith, after-claimed, used-claimed book, (sound book good).claims);
            adds = adds-closed;
          };
          lasts = λ p who. head-kept (block_of p) (block_within p).0 (omega (arith, block_within p));
          entries = entries-closed;
        }

    -- what is claimed is used
    pub no_gaps : gaps (tidied book) ≡ 0
    unfolding tidied is_owner
    no_gaps = omega (arith, after-claimed, ap length (entries-closed 1 refl), ap length (entries-closed 2 refl))
