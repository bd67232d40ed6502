-- Entering a file: it is answered on the owner's own list, and what it leaves is that list with the file's entries and number. Assumes nothing.
use Prim.Native.Nat.{ℕ, ◌+◌, ◌-◌, ◌≤◌}
use native.Mathlib.Omega.{arith}
use mathlib.Core.Bool.{Bool, true, false, ◌&&◌, not}
use mathlib.Core.Path.{◌≡◌, refl, ap, ◌∙◌, subst}
use mathlib.Core.List.{List, [], ◌∷◌, ◌++◌, append-nil}
use lib.Dec.{leb, eqb}
use lib.ListN.{length, length-append}
use borrow.Author.Tests.{leb-true, eq-eqb}
use Rattle.std.specs.Prelude.{Err}
use Rattle.frame.specs.Unless.{unless}
use Rattle.passes.specs.declared.Fault.TheVariants.{Duplicate, Full, Range}
use Rattle.passes.specs.Answers.{Answer}
use Rattle.passes.specs.declared.Totals.{Totals}
use Rattle.passes.specs.Answers as answers
use Rattle.figures.specs.declared.Figures.{Figures}
use Rattle.figures.specs.Figures.{plus, all_of, fits}
use Rattle.figures.proofs.Laws.{both}
use Rattle.letters.specs.Letters.{letters_of}
use Rattle.net.specs.Net.{within}
use Rattle.book_model.specs.declared.Entry.{Entry}
use Rattle.book_model.specs.Entering.{Entering}
use Rattle.book_model.specs.Entering.{Entered, Refused}
use Rattle.book_model.specs.PlainList.{Own, Free, totals_of, position_of, is_taken, entries_on, keeps_range, has_room, entering, after_entering}
use Rattle.book_model.specs.Table.{is_owner, last_number, running_totals, entries_of, free_rows, free_places, taken_by, free_in, with_entries, with_taken}
use Rattle.book_model.specs.Calls.{book_after, list_after}
use Rattle.book_model.proofs.Laws.{sound}
use Rattle.book_model.proofs.Merged.{Merged, alone}
use Rattle.book_model.proofs.Head.{as-there, still-book}
use Rattle.book_model.proofs.MoreEntries.{Grown, grown, grown-used}
use Rattle.book_model.proofs.MoreTaken.{Taken, taken_more}
use Rattle.book_history.specs.Histories.{Lent, free_then}
use Rattle.book_history.proofs.Matched.{new-many, new-totals, matched-more}
use Rattle.book_history.proofs.Held.{Good, Holds, Same, Called, unchanged}

-- entering looks at the totals, the last number and the file numbers taken alone
pub entering-alike : (a b : Own) (free : Free) (m : ℕ) (letters : List Figures) (answer : Answer)
    → totals_of a.entries ≡ totals_of b.entries → a.last ≡ b.last → a.taken ≡ b.taken
    → entering a free m letters answer ≡ entering b free m letters answer
unfolding entering keeps_range has_room
entering-alike a b free m letters (Err r') p q r = refl
entering-alike a b free m letters (answers.Accepted t) p q r = rw (p, q, r)

-- a file that is entered has room, and keeps the net position within its bound
record Fits (own : Own) (free : Free) (letters : List Figures) : Type 0 where
  rows : length letters ≤ free.rows
  places : 1 ≤ free.places
  inside : within (position_of (plus (totals_of own.entries) (all_of letters))) ≡ true

entered-fits : (own : Own) (free : Free) (m : ℕ) (letters : List Figures) (answer : Answer) (first : ℕ) (t : Totals)
    → entering own free m letters answer ≡ Entered first t → Fits own free letters
unfolding entering keeps_range has_room
entered-fits own free m letters (Err r) first t e = absurd (let z : ◌≡◌ {A = ℕ} 0 1 = cc in omega arith)
entered-fits own free m letters (answers.Accepted u) first t e =
    by_tests (is_taken m own.taken) (keeps_range own letters) refl (has_room own free letters) refl e
  where
    by_tests : (taken range : Bool) → keeps_range own letters ≡ range → (room : Bool) → has_room own free letters ≡ room
        → unless (not taken) (Refused Duplicate 0 0) (unless range (Refused Range 0 0) (unless room (Refused Full 0 0) (Entered (own.last + 1) u))) ≡ Entered first t
        → Fits own free letters
    by_tests true range p room q h = absurd (let z : ◌≡◌ {A = ℕ} 0 1 = cc in omega arith)
    by_tests false false p room q h = absurd (let z : ◌≡◌ {A = ℕ} 0 1 = cc in omega arith)
    by_tests false true p false q h = absurd (let z : ◌≡◌ {A = ℕ} 0 1 = cc in omega arith)
    by_tests false true p true q h =
        let totals = fits (plus (totals_of own.entries) (all_of letters)) in
        let numbers = both (leb (length letters) free.rows && leb 1 free.places && totals) (leb (own.last + length letters) 0xFFFF_FFFF_FFFF_FFFF) q in
        let sums = both (leb (length letters) free.rows && leb 1 free.places) totals numbers.0 in
        let rooms = both (leb (length letters) free.rows) (leb 1 free.places) sums.0 in
        record { rows = leb-true (length letters) free.rows rooms.0; places = leb-true 1 free.places rooms.1; inside = p }

module _ (o : ℕ) (who : is_owner o ≡ true) (l : Lent) (good : Good l) (own : Own) (h : Holds o l own) where
  module _ (m : ℕ) (letters : List Figures) (f : Fits own (free_in l.book l.list) letters) where
    abbrev new : List Entry
    new = entries_on (last_number o l.book) m letters

    abbrev after : Lent
    after = record { book = with_entries o l.book new; list = with_taken o l.list m }

    abbrev next : Own
    next = record { entries = own.entries ++ entries_on own.last m letters; last = own.last + length letters; taken = own.taken ++ (m ∷ []) }

    as_many : length new ≡ length letters
    as_many = new-many (last_number o l.book) m letters

    grows : Grown o l.book (with_entries o l.book new) new
    grows =
        grown o l.book new good.book who (omega (arith, as_many, f.rows))
        ((λ i. within (position_of (plus (summed i) (new-totals (last_number o l.book) m letters i)))) ∙ f.inside)
      where
        summed : running_totals o l.book ≡ totals_of own.entries
        summed = (sound l.book good.book).sums o who ∙ h.entries.totals

    takes : Taken o l.list m (with_taken o l.list m)
    takes = taken_more o l.list m f.places

    merges : Merged (entries_of o l.book) (entries_on own.last m letters) (entries_of o (with_entries o l.book new))
    merges =
        subst (λ (k : ℕ). Merged (entries_of o l.book) (entries_on k m letters) (entries_of o (with_entries o l.book new))) h.last
        (rw (eq-eqb o o refl) at (grows.entries o who))

    held : Holds o after next
    held =
        record {
          entries = matched-more own.last (entries_of o l.book) own.entries h.entries m letters (entries_of o (with_entries o l.book new)) merges;
          last = rw (eq-eqb o o refl) at (grows.lasts o who) ∙ (λ i. h.last i + as_many i);
          taken = rw (eq-eqb o o refl) at (takes.taken o) ∙ ap (λ (ns : List ℕ). ns ++ (m ∷ [])) h.taken;
        }

    stays : (p : ℕ) → is_owner p ≡ true → eqb o p ≡ false → Same p l after
    stays p other e =
        record {
          entries = alone (rw e at (grows.entries p other));
          last = rw e at (grows.lasts p other);
          taken = rw e at (takes.taken p) ∙ append-nil (taken_by p l.list);
        }

    fewer : free_in after.book after.list ≡ free_then (free_in l.book l.list) own next
    fewer = λ i. record { rows = rows i; places = places i }
      where
        rows : free_rows after.book ≡ free_rows l.book + length own.entries - length (own.entries ++ entries_on own.last m letters)
        rows =
            omega (arith, length-append own.entries (entries_on own.last m letters), new-many own.last m letters, as_many, as-there l.book after.book grows.still, grown-used o l.book after.book new who grows, f.rows)

        places : free_places after.list ≡ free_places l.list + length own.taken - length (own.taken ++ (m ∷ []))
        places = omega (arith, length-append own.taken (m ∷ []), takes.fewer)

    enters : Called o l after own next
    enters =
        record {
          good = record { book = still-book l.book after.book grows.still; list = takes.is-list };
          holds = held;
          others = stays;
          free = fewer;
        }

  pub after-answer : (file : List ℕ) (m : ℕ) (answer : Answer) (a : Entering) → entering own (free_in l.book l.list) m (letters_of file) answer ≡ a
      → Called o l (record { book = book_after file m o l.book a; list = list_after m o l.list a }) own (after_entering own m (letters_of file) a)
  after-answer file m answer (Err r) e = unchanged o l own good h
  after-answer file m answer (Entered first t) e =
      enters m (letters_of file) (entered-fits own (free_in l.book l.list) m (letters_of file) answer first t e)
