-- A file that the reader accepts: what entering it answers, and the book, the list and the row table afterwards. Assumes nothing.
use Prim.Native.Nat.{ℕ, ◌+◌, ◌-◌, ◌*◌, ◌/◌, ◌≤◌, ◌<◌}
use native.Mathlib.Omega.{arith}
use mathlib.Core.Bool.{Bool, true, false, ◌&&◌}
use mathlib.Core.List.{List, ◌++◌}
use mathlib.Core.Path.{◌≡◌, refl, sym, ap, ◌∙◌}
use lib.Dec.{leb}
use lib.ListN.{length, get_or, set, drop}
use lib.Seq.{sets}
use borrow.Author.Tests.{leb-true, le-leb, lt-leb}
use Rattle.passes.specs.declared.Fault.{Fault}
use Rattle.passes.specs.declared.Fault.TheVariants.{Room, Duplicate, Full, NoEntry, Range, Book}
use Rattle.std.specs.Prelude.{Err}
use Rattle.passes.specs.declared.Totals.{Totals}
use Rattle.passes.specs.declared.Refusal.{Refusal}
use Rattle.passes.proofs.Laws.{same-refusal}
use Rattle.passes.specs.Answers.{Answer, Accepted}
use Rattle.passes.specs.Reading.{surveyed, answer_of, table_of}
use Rattle.figures.specs.declared.Figures.{Figures}
use Rattle.figures.specs.Figures.{figures, plus, fits}
use Rattle.figures.proofs.Laws.{both}
use Rattle.net.specs.Net.{within}
use Rattle.letters.specs.Letters.{letters_of}
use Rattle.letters.proofs.Theorem.{AcceptedLetters}
use Rattle.book_model.specs.Entering.{Entering, Entered, Refused}
use Rattle.book_model.specs.PlainList.{totals_of, position_of, is_taken, entries_on, keeps_range, has_room, entering}
use Rattle.book_model.specs.Table.{is_owner, block_of, rows_claimed, last_number, running_totals, rows_used, free_rows, gaps, free_places, taken_by, own_of, free_in, is_book, is_list, placed, block_with, with_entries}
use Rattle.book_model.specs.Calls.{enter_answer}
use Rattle.book_model.proofs.Laws.{sound}
use Rattle.book_model.proofs.Steps.{head-totals, head-last, entries-count, entries-sum}
use Rattle.book_gaps.proofs.Placing.{placed-before, placed-long}
use Rattle.passes.specs.Answers as answers
use Rattle.passes.specs.Rows as rows

-- a refusal without an offset, as it is built
pub as-built : (r : Refusal) (fault : Fault) (place : ℕ) → ◌≡◌ {A = Answer} (Err r) (answers.Refused fault place 0)
    → ◌≡◌ {A = Entering} (Err r) (Refused fault place 0)
as-built r fault place e =
    let q = same-refusal r (record { fault = fault; place = place; offset = 0 }) e in
    λ i. Err (record { fault = q.0 i; place = q.1 i; offset = q.2 i })

-- what there is room for
pub record HasRoom (file book list : List ℕ) (o : ℕ) (t : Totals) : Type 0 where
  pub claims : 17 + 9 * rows_claimed book ≤ length book
  pub rows : 17 + 9 * (rows_used book + t.letters) ≤ length book
  pub place : leb 1 (free_places list) ≡ true
  pub letters : length (letters_of file) ≡ t.letters
  pub some : 1 ≤ t.letters
  pub sums : fits (plus (running_totals o book) (figures t.bundles t.sums)) ≡ true
  pub numbers : last_number o book + t.letters < 0x1_0000_0000_0000_0000

-- the tests in the order in which they are made
other-order : (rows place sums numbers : Bool) → rows && place && sums && numbers ≡ place && (rows && sums && numbers)
other-order true true sums numbers = refl
other-order true false sums numbers = refl
other-order false true sums numbers = refl
other-order false false sums numbers = refl

module _ (file table book list : List ℕ) (m o : ℕ) (t : Totals) (b : is_book book ≡ true) (l : is_list list ≡ true) (w : is_owner o ≡ true)
    (e : surveyed file ≡ Accepted t) (a : AcceptedLetters file t) where
  -- the answer, check by check
  pub no_room : length table / 7 < t.records.0 → Refused Room t.records.0 0 ≡ enter_answer file m o (length table) book list
  unfolding enter_answer answer_of entering
  no_room h = rw (b, l, w, e, lt-leb t.records.0 (length table / 7) h)

  module _ (h : t.records.0 ≤ length table / 7) where
    accepted : answer_of file (length table) ≡ Accepted t
    unfolding answer_of
    accepted = rw (e, le-leb t.records.0 (length table / 7) h)

    pub duplicate : is_taken m (taken_by o list) ≡ true → Refused Duplicate 0 0 ≡ enter_answer file m o (length table) book list
    unfolding enter_answer entering
    duplicate d = rw (b, l, w, accepted, d)

    module _ (d : is_taken m (taken_by o list) ≡ false) where
      pub beyond : keeps_range (own_of o book list) (letters_of file) ≡ false → Refused Range 0 0 ≡ enter_answer file m o (length table) book list
      unfolding enter_answer entering
      beyond k = rw (b, l, w, accepted, d, k)

      pub full : keeps_range (own_of o book list) (letters_of file) ≡ true → has_room (own_of o book list) (free_in book list) (letters_of file) ≡ false
          → Refused Full 0 0 ≡ enter_answer file m o (length table) book list
      unfolding enter_answer entering
      full k r = rw (b, l, w, accepted, d, k, r)

      pub enters : keeps_range (own_of o book list) (letters_of file) ≡ true → has_room (own_of o book list) (free_in book list) (letters_of file) ≡ true
          → Entered (last_number o book + 1) t ≡ enter_answer file m o (length table) book list
      unfolding enter_answer entering
      enters k r = rw (b, l, w, accepted, d, k, r)

    pub filled : table_of file table ≡ rows.rows_of file ++ drop (length (rows.rows_of file)) table
    unfolding table_of
    filled = rw accepted

  pub range-is : keeps_range (own_of o book list) (letters_of file) ≡ within (position_of (plus (running_totals o book) (figures t.bundles t.sums)))
  unfolding keeps_range
  range-is = rw (sym ((sound book b).sums o w), a.sum)

  pub room-is : has_room (own_of o book list) (free_in book list) (letters_of file)
      ≡ leb 1 (free_places list)
      && (leb t.letters (free_rows book) && fits (plus (running_totals o book) (figures t.bundles t.sums))
      && leb (last_number o book + t.letters) 0xFFFF_FFFF_FFFF_FFFF)
  unfolding has_room
  room-is =
      rw (sym ((sound book b).sums o w), a.count, a.sum)
      (other-order (leb t.letters (free_rows book)) (leb 1 (free_places list)) (fits (plus (running_totals o book) (figures t.bundles t.sums))) (leb (last_number o book + t.letters) 0xFFFF_FFFF_FFFF_FFFF))

  pub has_room_lem : has_room (own_of o book list) (free_in book list) (letters_of file) ≡ true → HasRoom file book list o t
  has_room_lem r =
      let claims = leb t.letters (free_rows book) in
      let sums = fits (plus (running_totals o book) (figures t.bundles t.sums)) in
      let numbered = leb (last_number o book + t.letters) 0xFFFF_FFFF_FFFF_FFFF in
      let all = both (leb 1 (free_places list)) (claims && sums && numbered) (sym room-is ∙ r) in
      let u = both (claims && sums) numbered all.1 in
      let v = both claims sums u.0 in
      let rows = leb-true t.letters (free_rows book) v.0 in
      let numbers = leb-true (last_number o book + t.letters) 0xFFFF_FFFF_FFFF_FFFF u.1 in
      record {
        claims = omega (arith, a.some, (sound book b).claims);
        rows = omega (arith, a.some, (sound book b).claims);
        place = all.0;
        letters = a.count;
        some = a.some;
        sums = v.1;
        numbers = omega arith;
      }

-- the book with the letters' rows, and then with the head raised
module _ (file book list : List ℕ) (m o : ℕ) (t : Totals) (a : AcceptedLetters file t) (written : List ℕ)
    (w : written ≡ placed o book (rows_claimed book) 17 (entries_on (last_number o book) m (letters_of file))) (more : ℕ)
    (s : more ≡ t.letters - gaps book) where
  head-kept : (j : ℕ) → j < 17 → get_or written j 0 ≡ get_or book j 0
  head-kept j h =
      ap (λ (k : List ℕ). get_or k j 0) w ∙ placed-before o book (rows_claimed book) 17 (entries_on (last_number o book) m (letters_of file)) j h

  claimed-kept : rows_claimed written ≡ rows_claimed book
  claimed-kept = head-kept 0 (omega arith)

  last-kept : last_number o written ≡ last_number o book
  last-kept = head-last o written book head-kept

  sums_kept : running_totals o written ≡ running_totals o book
  sums_kept = head-totals o written book head-kept

  long_kept : length written ≡ length book
  long_kept = ap length w ∙ placed-long o book (rows_claimed book) 17 (entries_on (last_number o book) m (letters_of file))

  pub raisable : HasRoom file book list o t → within (position_of (plus (running_totals o book) (figures t.bundles t.sums))) ≡ true
      → length book < 0x1_0000_0000_0000_0000
      → (17 ≤ length written)
      × (rows_claimed written + more < 0x1_0000_0000_0000_0000)
      × (last_number o written + t.letters < 0x1_0000_0000_0000_0000)
      × (fits (plus (running_totals o written) (figures t.bundles t.sums)) ≡ true)
      × (within (position_of (plus (running_totals o written) (figures t.bundles t.sums))) ≡ true)
  raisable h k l = (
    omega (arith, h.rows, long_kept),
    omega (arith, h.rows, h.claims, claimed-kept, s),
    omega (arith, h.numbers, last-kept),
    ap (λ (f : Figures). fits (plus f (figures t.bundles t.sums))) sums_kept ∙ h.sums,
    ap (λ (f : Figures). within (position_of (plus f (figures t.bundles t.sums)))) sums_kept ∙ k,
  )

  pub book-raised : (after : List ℕ)
      → after
      ≡ sets (set written 0 (rows_claimed written + more)) (block_of o) (block_with (last_number o written + t.letters) (plus (running_totals o written) (figures t.bundles t.sums)))
      → after ≡ with_entries o book (entries_on (last_number o book) m (letters_of file))
  unfolding with_entries
  book-raised after r =
      let count : t.letters ≡ length (entries_on (last_number o book) m (letters_of file)) =
      sym (entries-count (last_number o book) m (letters_of file) ∙ a.count) in
      let sum : figures t.bundles t.sums ≡ totals_of (entries_on (last_number o book) m (letters_of file)) =
      sym (entries-sum (last_number o book) m (letters_of file) ∙ a.sum) in
      let rows = s ∙ ap (λ (n : ℕ). n - gaps book) count in
      r
      ∙ (λ i.
      sets (set (w i) 0 (claimed-kept i + rows i)) (block_of o)
      (block_with (last-kept i + count i) (plus (sums_kept i) (sum i))))

-- a book or a list that is none, an owner that is none, and a file that the reader refuses
module _ (file table book list : List ℕ) (m o : ℕ) where
  pub no-book : is_book book && is_list list ≡ false → Refused Book 0 0 ≡ enter_answer file m o (length table) book list
  unfolding enter_answer
  no-book b = rw b

  pub no-owner : is_book book && is_list list ≡ true → is_owner o ≡ false → Refused NoEntry 0 0 ≡ enter_answer file m o (length table) book list
  unfolding enter_answer
  no-owner b w = rw (b, w)

  pub refused : (r : Refusal) → is_book book && is_list list ≡ true → is_owner o ≡ true
      → surveyed file ≡ Err r → Err r ≡ enter_answer file m o (length table) book list
  unfolding enter_answer answer_of entering
  refused r b w e = rw (b, w, e)
