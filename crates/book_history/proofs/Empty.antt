-- Tables of zeros are an empty book and an empty list. Assumes nothing.
use Prim.Native.Nat.{ℕ, zero, suc, ◌+◌, ◌-◌, ◌/◌}
use native.Mathlib.Omega.{arith}
use mathlib.Core.Bool.{true}
use mathlib.Core.Path.{◌≡◌, refl, ap, ◌∙◌}
use mathlib.Core.List.{[]}
use lib.ListN.{length, get_or}
use borrow.Author.Tests.{le-leb}
use Rattle.copying.specs.Times.{times}
use Rattle.copying.proofs.Laws.{length-times}
use Rattle.figures.specs.Figures.{no_figures, figures_at}
use Rattle.net.specs.Net.{net_of, is_net, within}
use Rattle.net.proofs.Laws.{net-is}
use Rattle.book_model.specs.PlainList.{totals_of, finding, without}
use Rattle.book_model.specs.Table.{block_of, places_claimed, places_there, entries_from, entries_of, free_rows, free_places, free_in, taken_from, taken_by, is_book, is_list}
use Rattle.book_model.proofs.Head.{book-is}
use Rattle.book_history.specs.Histories.{nothing, zeros, empty_book}
use Rattle.book_history.proofs.Matched.{Numbered}
use Rattle.book_history.proofs.Held.{Good, Holds}

all-zero : (n k : ℕ) → get_or (times n 0) k 0 ≡ 0
all-zero zero k = refl
all-zero (suc n) zero = refl
all-zero (suc n) (suc k) = all-zero n k

no-figures : (n at : ℕ) → figures_at (times n 0) at ≡ no_figures
unfolding figures_at
no-figures n at = simp (all-zero n)

no-entries : (n o : ℕ) → entries_of o (times n 0) ≡ []
unfolding entries_of entries_from
no-entries n o = ap (λ (k : ℕ). entries_from o (times n 0) k 17) (all-zero n 0)

none-taken : (k o : ℕ) → taken_by o (times k 0) ≡ []
unfolding taken_by taken_from
none-taken k o = ap (λ (n : ℕ). taken_from o (times k 0) n 1) (all-zero k 0)

a-book : (n : ℕ) → is_book (times n 0) ≡ true
unfolding totals_of within
a-book n =
    book-is (times n 0) (omega (arith, all-zero n 0))
    (λ o who. rw (no-entries n o) (record {
      sums = no-figures n (block_of o + 1);
      net = ap (λ (x : ℕ). is_net x (net_of 0 0)) (all-zero n (block_of o + 7)) ∙ net-is (net_of 0 0) refl;
    }))

a-list : (k : ℕ) → is_list (times k 0) ≡ true
unfolding is_list
a-list k = le-leb (places_claimed (times k 0)) (places_there (times k 0)) (omega (arith, all-zero k 0))

pub empty : (n k : ℕ) → Good (zeros n k)
empty n k = record { book = a-book n; list = a-list k }

none-numbered : (last : ℕ) → Numbered last []
unfolding finding without
none-numbered last = record { above = λ n h. refl; once = λ n. refl }

pub nobodys : (o n k : ℕ) → Holds o (zeros n k) nothing
nobodys o n k =
    record {
      entries = rw (no-entries n o) (record { found = λ m. refl; totals = refl; many = refl; first = none-numbered 0; second = none-numbered 0 });
      last = all-zero n (block_of o);
      taken = none-taken k o;
    }

pub all-free : (n k : ℕ) → free_in (times n 0) (times k 0) ≡ (empty_book n k).free
all-free n k = λ i. record { rows = rows i; places = places i }
  where
    rows : free_rows (times n 0) ≡ (n - 17) / 9
    rows = omega (arith, length-times n 0, ap length (no-entries n 1), ap length (no-entries n 2))

    places : free_places (times k 0) ≡ (k - 1) / 2
    places = omega (arith, length-times k 0, all-zero k 0)
