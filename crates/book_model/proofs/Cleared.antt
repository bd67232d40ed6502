-- A row taken out: the owner's entries are then those without the one looked up, and the other owner's are as they were. Assumes nothing.
use Prim.Native.Nat.{ℕ, zero, suc, ◌+◌, ◌*◌, ◌≤◌, ◌<◌}
use native.Mathlib.Omega.{arith}
use mathlib.Core.Bool.{Bool, true, false, ◌&&◌, cond}
use mathlib.Core.Path.{◌≡◌, refl, sym, ◌∙◌, subst}
use mathlib.Core.List.{List, ◌∷◌}
use lib.Dec.{eqb}
use lib.ListN.{length, get_or}
use lib.Seq.{sets, length-sets}
use borrow.Author.Tests.{eqb-true}
use Rattle.copying.specs.Times.{times}
use Rattle.figures.proofs.Laws.{both}
use Rattle.book_model.specs.declared.Entry.{Entry}
use Rattle.book_model.specs.PlainList.{without}
use Rattle.book_model.specs.Table.{is_owner, entry_at, entries_from, cleared}
use Rattle.book_model.proofs.Laws.{of_either}
use Rattle.book_model.proofs.Stores.{stored-before, stored-behind, stored-first}
use Rattle.book_model.proofs.Rows.{Alike, entry-alike, entries-alike}

module _ (o m : ℕ) where
  pub cleared-long : (n : ℕ) (book : List ℕ) (at : ℕ) → length (cleared o m book n at) ≡ length book
  unfolding cleared
  cleared-long zero book at = refl
  cleared-long (suc n) book at = by-test (eqb (get_or book at 0) o && eqb (get_or book (at + 1) 0) m) (cleared-long n book (at + 9))
    where
      by-test : (t : Bool) → length (cleared o m book n (at + 9)) ≡ length book
          → length (cond t (sets book at (times 9 0)) (cleared o m book n (at + 9))) ≡ length book
      by-test true h = length-sets book at (times 9 0)
      by-test false h = h

  -- what lies before stays
  pub cleared-before : (n : ℕ) (book : List ℕ) (at k : ℕ) → k < at → get_or (cleared o m book n at) k 0 ≡ get_or book k 0
  unfolding cleared
  cleared-before zero book at k h = refl
  cleared-before (suc n) book at k h =
      by-test (eqb (get_or book at 0) o && eqb (get_or book (at + 1) 0) m) (cleared-before n book (at + 9) k (omega arith))
    where
      by-test : (t : Bool) → get_or (cleared o m book n (at + 9)) k 0 ≡ get_or book k 0
          → get_or (cond t (sets book at (times 9 0)) (cleared o m book n (at + 9))) k 0 ≡ get_or book k 0
      by-test true q = stored-before (times 9 0) book at k h
      by-test false q = q

  -- what an owner has left
  abbrev pub left_of : ℕ → List Entry → List Entry
  left_of p es = cond (eqb o p) (without m es) es

  module _ (p : ℕ) (who : is_owner p ≡ true) where
    not-zero : eqb 0 p ≡ false
    not-zero = of_either (λ (a : ℕ). eqb 0 a ≡ false) refl refl p who

    module _ (book : List ℕ) (n at : ℕ) where
      -- the row is the one
      row-gone : at + 9 ≤ length book → eqb (get_or book at 0) o && eqb (get_or book (at + 1) 0) m ≡ true
          → entries_from p (sets book at (times 9 0)) (suc n) at ≡ left_of p (entries_from p book (suc n) at)
      unfolding entries_from entry_at without
      row-gone fits e =
          let t = sets book at (times 9 0) in
          let u = both (eqb (get_or book at 0) o) (eqb (get_or book (at + 1) 0) m) e in
          rw (stored-first 0 (times 8 0) book at fits, not-zero, entries-alike p t book n (at + 9) (λ k a b. stored-behind (times 9 0) book at k a))
          (rw (eqb-true (get_or book at 0) o u.0) (by-test (eqb o p) u.1))
        where
          by-test : (own : Bool) → eqb (get_or book (at + 1) 0) m ≡ true
              → entries_from p book n (at + 9)
              ≡ cond own (without m (cond own (entry_at book at ∷ entries_from p book n (at + 9)) (entries_from p book n (at + 9)))) (cond own (entry_at book at ∷ entries_from p book n (at + 9)) (entries_from p book n (at + 9)))
          by-test true h = rw h
          by-test false h = refl

      -- the row is not, and those behind it
      row_stays : eqb (get_or book at 0) o && eqb (get_or book (at + 1) 0) m ≡ false
          → entries_from p (cleared o m book n (at + 9)) n (at + 9) ≡ left_of p (entries_from p book n (at + 9))
          → entries_from p (cleared o m book n (at + 9)) (suc n) at ≡ left_of p (entries_from p book (suc n) at)
      unfolding entries_from entry_at without
      row_stays e behind =
          let kept : Alike (cleared o m book n (at + 9)) book at (at + 9) = λ k a b. cleared-before n book (at + 9) k b in
          rw (kept at (omega arith) (omega arith), entry-alike (cleared o m book n (at + 9)) book at kept, behind)
          (by-test (eqb o p) refl (eqb (get_or book at 0) p) refl)
        where
          rest : List Entry
          rest = entries_from p book n (at + 9)

          by_number : (t : Bool) → eqb (get_or book (at + 1) 0) m ≡ t → t ≡ false → entry_at book at ∷ without m rest ≡ cond t rest (entry_at book at ∷ without m rest)
          by_number true q h = absurd (let z : ◌≡◌ {A = ℕ} 0 1 = cc in omega arith)
          by_number false q h = refl

          by-test : (t : Bool) → eqb o p ≡ t → (own : Bool) → eqb (get_or book at 0) p ≡ own
              → cond own (entry_at book at ∷ cond t (without m rest) rest) (cond t (without m rest) rest)
              ≡ cond t (without m (cond own (entry_at book at ∷ rest) rest)) (cond own (entry_at book at ∷ rest) rest)
          by-test true q true r =
              by_number (eqb (get_or book (at + 1) 0) m) refl
              (sym (rw (subst (λ (a : ℕ). eqb (get_or book at 0) a ≡ true) (sym (eqb-true o p q)) r) refl) ∙ e)
          by-test true q false r = refl
          by-test false q true r = refl
          by-test false q false r = refl

    pub cleared-entries : (n : ℕ) (book : List ℕ) (at : ℕ) → at + 9 * n ≤ length book
        → entries_from p (cleared o m book n at) n at ≡ left_of p (entries_from p book n at)
    unfolding cleared entries_from without
    cleared-entries zero book at h = none (eqb o p)
      where
        none : (t : Bool) → entries_from p book 0 at ≡ cond t (without m (entries_from p book 0 at)) (entries_from p book 0 at)
        none true = refl
        none false = refl
    cleared-entries (suc n) book at h =
        by-test (eqb (get_or book at 0) o && eqb (get_or book (at + 1) 0) m) refl (cleared-entries n book (at + 9) (omega arith))
      where
        by-test : (t : Bool) → eqb (get_or book at 0) o && eqb (get_or book (at + 1) 0) m ≡ t
            → entries_from p (cleared o m book n (at + 9)) n (at + 9) ≡ left_of p (entries_from p book n (at + 9))
            → entries_from p (cond t (sets book at (times 9 0)) (cleared o m book n (at + 9))) (suc n) at ≡ left_of p (entries_from p book (suc n) at)
        by-test true e behind = row-gone book n at (omega arith) e
        by-test false e behind = row_stays book n at e behind
