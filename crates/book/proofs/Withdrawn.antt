-- An entry that a look-up finds leaves the book: what that answers, and the book afterwards. Assumes nothing.
use Rattle.std.specs.Prelude.{Ok, Err}
use Prim.Native.Nat.{ℕ, zero, suc, ◌≤◌, ◌<◌}
use native.Mathlib.Omega.{arith}
use mathlib.Core.Bool.{true, false, ◌&&◌}
use mathlib.Core.List.{List}
use mathlib.Core.Path.{◌≡◌, refl, sym, ap, ◌∙◌}
use lib.ListN.{length, get_or}
use lib.Seq.{sets}
use Rattle.figures.specs.declared.Figures.{Figures}
use Rattle.figures.specs.Figures.{minus, covers}
use Rattle.net.specs.Net.{within}
use Rattle.passes.specs.declared.Fault.{Fault}
use Rattle.passes.specs.declared.Fault.TheVariants.{Range, NoEntry, Book}
use Rattle.book_model.specs.declared.Entry.{Entry}
use Rattle.book_model.specs.PlainList.{Finding, totals_of, position_of, finding, without, withdrawing}
use Rattle.book_model.specs.Table.{is_owner, block_of, rows_claimed, last_number, running_totals, entries_of, is_book, is_list, block_with, cleared, without_entry}
use Rattle.book_model.specs.Calls.{withdraw_answer, tidy_answer}
use Rattle.book_model.proofs.Laws.{sound, found_none}
use Rattle.book_model.proofs.Steps.{head-totals, head-last, found-covered, found-less}
use Rattle.book_gaps.proofs.Placing.{cleared-before, cleared-long}

module _ (book : List ℕ) (o n : ℕ) (e : Entry) (b : is_book book ≡ true) (w : is_owner o ≡ true) (q : finding (entries_of o book) n ≡ Ok e) where
  sums-are : running_totals o book ≡ totals_of (entries_of o book)
  sums-are = (sound book b).sums o w

  pub gone-covered : covers (running_totals o book) e.figures ≡ true
  gone-covered = ap (λ (f : Figures). covers f e.figures) sums-are ∙ found-covered (entries_of o book) n e q

  left : minus (running_totals o book) e.figures ≡ totals_of (without n (entries_of o book))
  left = ap (λ (f : Figures). minus f e.figures) sums-are ∙ found-less (entries_of o book) n e q

  -- the answer
  pub out_of_range : within (position_of (minus (running_totals o book) e.figures)) ≡ false → Err Range ≡ withdrawing (entries_of o book) n
  unfolding withdrawing
  out_of_range r = rw (q, ap (λ (f : Figures). within (position_of f)) (sym left) ∙ r)

  pub goes : within (position_of (minus (running_totals o book) e.figures)) ≡ true → Ok tt ≡ withdrawing (entries_of o book) n
  unfolding withdrawing
  goes r = rw (q, ap (λ (f : Figures). within (position_of f)) (sym left) ∙ r)

  -- a book with an entry has a head and rows
  found-long : 17 ≤ length book
  unfolding entries_of
  found-long = by-claims (rows_claimed book) refl
    where
      by-claims : (k : ℕ) → rows_claimed book ≡ k → 17 ≤ length book
      by-claims zero z = absurd (let none : ◌≡◌ {A = Finding} (Err NoEntry) (Ok e) = sym (found_none o book 17 (rows_claimed book) n (omega arith)) ∙ q in cc)
      by-claims (suc k) z = omega (arith, (sound book b).claims)

  -- the book with the row cleared, and then with the head lowered
  module _ (after : List ℕ) (c : after ≡ cleared o n book (rows_claimed book) 17) where
    head-kept : (j : ℕ) → j < 17 → get_or after j 0 ≡ get_or book j 0
    head-kept j h = ap (λ (l : List ℕ). get_or l j 0) c ∙ cleared-before o n book (rows_claimed book) 17 j h

    sums_kept : running_totals o after ≡ running_totals o book
    sums_kept = head-totals o after book head-kept

    pub lowerable : within (position_of (minus (running_totals o book) e.figures)) ≡ true
        → (17 ≤ length after)
        × (covers (running_totals o after) e.figures ≡ true)
        × (within (position_of (minus (running_totals o after) e.figures)) ≡ true)
    lowerable r = (
      omega (arith, found-long, ap length c, cleared-long o n book (rows_claimed book) 17),
      ap (λ (f : Figures). covers f e.figures) sums_kept ∙ gone-covered,
      ap (λ (f : Figures). within (position_of (minus f e.figures))) sums_kept ∙ r,
    )

    pub lowered : (last : List ℕ)
        → last ≡ sets after (block_of o) (block_with (last_number o after) (minus (running_totals o after) e.figures))
        → last ≡ without_entry o book n
    unfolding without_entry
    lowered last r =
        let number = head-last o after book head-kept in
        let totals = ap (λ (f : Figures). minus f e.figures) sums_kept ∙ left in
        r ∙ (λ i. sets (c i) (block_of o) (block_with (number i) (totals i)))

-- a book or a list that is none, an owner that is none, an entry that is not found
module _ (book list : List ℕ) (o n : ℕ) where
  pub no-book : is_book book && is_list list ≡ false → Err Book ≡ withdraw_answer book list o n
  unfolding withdraw_answer
  no-book b = rw b

  pub no-owner : is_book book && is_list list ≡ true → is_owner o ≡ false → Err NoEntry ≡ withdraw_answer book list o n
  unfolding withdraw_answer
  no-owner b w = rw (b, w)

  module _ (b : is_book book && is_list list ≡ true) (w : is_owner o ≡ true) where
    pub withdraws : withdraw_answer book list o n ≡ withdrawing (entries_of o book) n
    unfolding withdraw_answer
    withdraws = rw (b, w)

    pub not_there : (fault : Fault) → finding (entries_of o book) n ≡ Err fault → Err fault ≡ withdraw_answer book list o n
    unfolding withdraw_answer withdrawing
    not_there fault q = rw (b, w, q)

-- a tidy-up
module _ (book list : List ℕ) where
  pub not-tidied : is_book book && is_list list ≡ false → Err Book ≡ tidy_answer book list
  unfolding tidy_answer
  not-tidied b = rw b

  pub tidies : is_book book && is_list list ≡ true → Ok tt ≡ tidy_answer book list
  unfolding tidy_answer
  tidies b = rw b
