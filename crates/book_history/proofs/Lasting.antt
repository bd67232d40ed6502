-- What stays through a history on the plain book: what is found and not withdrawn, what is gone, what is taken. Assumes nothing.
use Rattle.std.specs.Prelude.{Ok, Err}
use Prim.Native.Nat.{ℕ, ◌≤◌}
use native.Mathlib.Omega.{arith}
use mathlib.Core.Bool.{Bool, true, false, ◌&&◌, ◌||◌, not, cond}
use mathlib.Core.Path.{◌≡◌, refl, sym, ◌∙◌}
use mathlib.Core.List.{List, [], ◌∷◌, ◌++◌}
use lib.Dec.{eqb}
use borrow.Author.Tests.{eqb-true}
use Rattle.std.specs.Prelude.{Err}
use Rattle.figures.proofs.Laws.{both}
use Rattle.letters.specs.Letters.{letters_of}
use Rattle.book_model.specs.declared.Entry.{Entry}
use Rattle.book_model.specs.Entering.{Entering}
use Rattle.book_model.specs.Entering.{Entered, Refused}
use Rattle.book_model.specs.PlainList.{Change, Own, Free, is_taken, entries_on, finding, withdrawing, after_entering, after_withdrawing}
use Rattle.book_model.specs.Table.{is_owner}
use Rattle.book_model.proofs.Laws.{of_either}
use Rattle.book_model.proofs.Used.{never}
use Rattle.book_model.proofs.Merged.{Absent, behind, merged-found}
use Rattle.book_model.proofs.Without.{absent-still, others-still}
use Rattle.book_history.specs.Histories.{Call, enter, find, totals, withdraw, by, tidy, History, entering_on, own_then, PlainBook, list_of, plain_then, plain_after, is_withdrawal, never_withdrawn}
use Rattle.book_history.proofs.Matched.{none_below}
use Rattle.book_history.proofs.Both.{nobody-then}

-- What the calls that an owner makes itself keep of its list, every act keeps.
module _ (P : Own → Type 0) (b : PlainBook) (o : ℕ) where
  kept : (p : ℕ) (c : Call) → ((own : Own) → (is_owner o ≡ true → eqb p o ≡ true) → P own → P (own_then own b.free c)) → P (list_of o b)
      → P (list_of o (plain_then b (by p c)))
  unfolding plain_then
  kept p c step h = by-owner (is_owner p) refl
    where
      Then : ℕ → Type 0
      Then p = ((own : Own) → (is_owner o ≡ true → eqb p o ≡ true) → P own → P (own_then own b.free c)) → P (list_of o (plain_then b (by p c)))

      firsts : (t : Bool) → eqb o 2 ≡ t → ((own : Own) → (is_owner o ≡ true → eqb 1 o ≡ true) → P own → P (own_then own b.free c))
          → P (cond t b.second b.first) → P (cond t b.second (own_then b.first b.free c))
      firsts true e s q = q
      firsts false e s q = s b.first (λ who. of_either (λ (a : ℕ). eqb a 2 ≡ false → eqb 1 a ≡ true) (λ r. refl) never o who e) q

      seconds : (t : Bool) → eqb o 2 ≡ t → ((own : Own) → (is_owner o ≡ true → eqb 2 o ≡ true) → P own → P (own_then own b.free c))
          → P (cond t b.second b.first) → P (cond t (own_then b.second b.free c) b.first)
      seconds true e s q = s b.second (λ who. rw (eqb-true o 2 e)) q
      seconds false e s q = q

      by-owner : (t : Bool) → is_owner p ≡ t → P (list_of o (plain_then b (by p c)))
      by-owner true who = of_either Then (λ s. firsts (eqb o 2) refl s h) (λ s. seconds (eqb o 2) refl s h) p who step
      by-owner false nobody = rw (nobody-then b p c nobody) h

-- what is found
found-again : (es fs : List Entry) (m : ℕ) (e : Entry) → finding es m ≡ Ok e → finding (es ++ fs) m ≡ Ok e
unfolding finding
found-again [] fs m e h = absurd (let z : ◌≡◌ {A = ℕ} 0 1 = cc in omega arith)
found-again (x ∷ es) fs m e h = by-test (eqb x.number m) (found-again es fs m e) h
  where
    by-test : (t : Bool) → (finding es m ≡ Ok e → finding (es ++ fs) m ≡ Ok e) → cond t (Ok x) (finding es m) ≡ Ok e
        → cond t (Ok x) (finding (es ++ fs) m) ≡ Ok e
    by-test true again q = q
    by-test false again q = again q

module _ (m : ℕ) (e : Entry) where
  abbrev Finds : Own → Type 0
  Finds own = finding own.entries m ≡ Ok e

  call-finds : (o p : ℕ) (c : Call) → not (is_withdrawal o m (by p c)) ≡ true → eqb p o ≡ true → (own : Own) (free : Free) → Finds own → Finds (own_then own free c)
  unfolding own_then
  call-finds o p (enter file k table) kept mine own free h = by_answer (entering_on own free file k table)
    where
      by_answer : (a : Entering) → Finds (after_entering own k (letters_of file) a)
      by_answer (Err r) = h
      by_answer (Entered first t) = found-again own.entries (entries_on own.last k (letters_of file)) m e h
  call-finds o p (find k) kept mine own free h = h
  call-finds o p totals kept mine own free h = h
  call-finds o p (withdraw k) kept mine own free h = by_answer (withdrawing own.entries k)
    where
      other : (s t : Bool) → not (s && t) ≡ true → s ≡ true → t ≡ false
      other true true q r = sym q
      other true false q r = refl
      other false t q r = cc

      by_answer : (a : Change) → Finds (after_withdrawing own k a)
      by_answer (Err fault) = h
      by_answer (Ok done) = others-still k m (other (eqb p o) (eqb k m) kept mine) own.entries ∙ h

  pub lasts : (more : History) (b : PlainBook) (o : ℕ) → is_owner o ≡ true → Finds (list_of o b) → never_withdrawn o m more ≡ true
      → Finds (list_of o (plain_after b more))
  unfolding plain_then
  lasts [] b o who h never = h
  lasts (tidy ∷ more) b o who h never = lasts more b o who h never
  lasts (by p c ∷ more) b o who h never =
      let u = both (not (is_withdrawal o m (by p c))) (never_withdrawn o m more) never in
      lasts more (plain_then b (by p c)) o who
      (kept Finds b o p c (λ own mine. call-finds o p c u.0 (mine who) own b.free) h) u.1

-- what is gone, and what is taken
module _ (m : ℕ) where
  abbrev pub Gone : Own → Type 0
  Gone own = (m ≤ own.last) × Absent m own.entries

  call-gone : (c : Call) (own : Own) (free : Free) → Gone own → Gone (own_then own free c)
  unfolding own_then
  call-gone (enter file k table) own free h = by_answer (entering_on own free file k table)
    where
      by_answer : (a : Entering) → Gone (after_entering own k (letters_of file) a)
      by_answer (Err r) = h
      by_answer (Entered first t) =
          (omega arith, merged-found m (behind own.entries (entries_on own.last k (letters_of file))) h.1 ∙ none_below m k own.last (letters_of file) h.0)
  call-gone (find k) own free h = h
  call-gone totals own free h = h
  call-gone (withdraw k) own free h = by_answer (withdrawing own.entries k)
    where
      by_answer : (a : Change) → Gone (after_withdrawing own k a)
      by_answer (Err fault) = h
      by_answer (Ok done) = (h.0, absent-still k m own.entries h.1)

  taken-again : (ns ks : List ℕ) → is_taken m ns ≡ true → is_taken m (ns ++ ks) ≡ true
  unfolding is_taken
  taken-again [] ks h = absurd (let z : ◌≡◌ {A = ℕ} 0 1 = cc in omega arith)
  taken-again (n ∷ ns) ks h = by-test (eqb n m) h (taken-again ns ks)
    where
      by-test : (t : Bool) → t || is_taken m ns ≡ true → (is_taken m ns ≡ true → is_taken m (ns ++ ks) ≡ true) → t || is_taken m (ns ++ ks) ≡ true
      by-test true q later = refl
      by-test false q later = later q

  abbrev Takes : Own → Type 0
  Takes own = is_taken m own.taken ≡ true

  call-takes : (c : Call) (own : Own) (free : Free) → Takes own → Takes (own_then own free c)
  unfolding own_then
  call-takes (enter file k table) own free h = by_answer (entering_on own free file k table)
    where
      by_answer : (a : Entering) → Takes (after_entering own k (letters_of file) a)
      by_answer (Err r) = h
      by_answer (Entered first t) = taken-again own.taken (k ∷ []) h
  call-takes (find k) own free h = h
  call-takes totals own free h = h
  call-takes (withdraw k) own free h = by_answer (withdrawing own.entries k)
    where
      by_answer : (a : Change) → Takes (after_withdrawing own k a)
      by_answer (Err fault) = h
      by_answer (Ok done) = h

-- what every call keeps, every history does
always : (P : Own → Type 0) → ((c : Call) (own : Own) (free : Free) → P own → P (own_then own free c)) → (more : History) (b : PlainBook) (o : ℕ)
    → P (list_of o b) → P (list_of o (plain_after b more))
unfolding plain_then
always P step [] b o h = h
always P step (tidy ∷ more) b o h = always P step more b o h
always P step (by p c ∷ more) b o h =
    always P step more (plain_then b (by p c)) o (kept P b o p c (λ own mine. step c own b.free) h)

pub gone-stays : (m : ℕ) (more : History) (b : PlainBook) (o : ℕ) → Gone m (list_of o b) → Gone m (list_of o (plain_after b more))
gone-stays m = always (Gone m) (call-gone m)

pub taken-stays : (m : ℕ) (more : History) (b : PlainBook) (o : ℕ) → Takes m (list_of o b) → Takes m (list_of o (plain_after b more))
taken-stays m = always (Takes m) (call-takes m)
