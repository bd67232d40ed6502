-- Entries set down in gaps and behind the rows claimed: the owner's rows are then its old ones with the new ones merged in, and the other owner's are as they
-- were. Assumes nothing.
use Prim.Native.Nat.{ℕ, zero, suc, ◌+◌, ◌-◌, ◌*◌, ◌≤◌, ◌<◌}
use native.Mathlib.Omega.{arith}
use mathlib.Core.Bool.{Bool, true, false, cond}
use mathlib.Core.Path.{◌≡◌, refl, ◌∙◌}
use mathlib.Core.List.{List, [], ◌∷◌}
use lib.Dec.{eqb}
use lib.ListN.{length, get_or}
use lib.Seq.{sets, length-sets}
use Rattle.figures.specs.Figures.{numbers_of}
use Rattle.book_model.specs.declared.Entry.{Entry}
use Rattle.book_model.specs.Table.{is_owner, entry_at, row_of, rows_of, entries_from, placed}
use Rattle.book_model.proofs.Stores.{stored-before, stored-behind, stored-first}
use Rattle.book_model.proofs.Rows.{Alike, entry-alike, entries-alike, entry-back, entries-back, share_of}
use Rattle.book_model.proofs.Merged.{Merged, left, right, none-shared, all_right}
use Rattle.book_model.proofs.Used.{used, used-row, used-gap, used-most, gap_row}

either : {A : Type 0} (P : A → Type 0) (t : Bool) (a b : A) → P a → P b → P (cond t a b)
either P true a b p q = p
either P false a b p q = q

module _ (o : ℕ) where
  pub placed-long : (n : ℕ) (book : List ℕ) (at : ℕ) (es : List Entry) → length (placed o book n at es) ≡ length book
  unfolding placed
  placed-long zero book at es = length-sets book at (rows_of o es)
  placed-long (suc n) book at [] = refl
  placed-long (suc n) book at (e ∷ es) =
      either (λ (t : List ℕ). length t ≡ length book) (is_owner (get_or book at 0)) _ _ (placed-long n book (at + 9) (e ∷ es))
      (placed-long n (sets book at (row_of o e)) (at + 9) es ∙ length-sets book at (row_of o e))

  -- what lies before stays
  pub placed-before : (n : ℕ) (book : List ℕ) (at : ℕ) (es : List Entry) (k : ℕ) → k < at → get_or (placed o book n at es) k 0 ≡ get_or book k 0
  unfolding placed
  placed-before zero book at es k h = stored-before (rows_of o es) book at k h
  placed-before (suc n) book at [] k h = refl
  placed-before (suc n) book at (e ∷ es) k h =
      either (λ (t : List ℕ). get_or t k 0 ≡ get_or book k 0) (is_owner (get_or book at 0)) _ _ (placed-before n book (at + 9) (e ∷ es) k (omega arith))
      (placed-before n (sets book at (row_of o e)) (at + 9) es k (omega arith) ∙ stored-before (row_of o e) book at k h)

  -- how many rows lie behind those that were claimed
  abbrev pub more : List ℕ → ℕ → ℕ → List Entry → ℕ
  more book n at es = length es - (n - used book n at)

  abbrev Set : List ℕ → ℕ → ℕ → List Entry → ℕ → Type 0
  Set book n at es p = Merged (entries_from p book n at) (share_of p o es) (entries_from p (placed o book n at es) (n + more book n at es) at)

  module _ (p : ℕ) (who : is_owner p ≡ true) where
    -- a row that is an owner's, and those behind it
    row_kept : (t u : List ℕ) (n m at : ℕ) (fs : List Entry) → Alike u t at (at + 9) → Merged (entries_from p t n (at + 9)) fs (entries_from p u m (at + 9))
        → Merged (entries_from p t (suc n) at) fs (entries_from p u (suc m) at)
    unfolding entries_from
    row_kept t u n m at fs same behind = rw (same at (omega arith) (omega arith), entry-alike u t at same) (by-test (eqb (get_or t at 0) p))
      where
        by-test : (own : Bool)
            → Merged (cond own (entry_at t at ∷ entries_from p t n (at + 9)) (entries_from p t n (at + 9))) fs (cond own (entry_at t at ∷ entries_from p u m (at + 9)) (entries_from p u m (at + 9)))
        by-test true = left behind
        by-test false = behind

    -- a gap that is filled, and the rows behind it
    row-filled : (t u : List ℕ) (m at : ℕ) (e : Entry) (es fs : List Entry) → at + 9 ≤ length t → Alike u (sets t at (row_of o e)) at (at + 9)
        → Merged es (share_of p o fs) (entries_from p u m (at + 9)) → Merged es (share_of p o (e ∷ fs)) (entries_from p u (suc m) at)
    unfolding entries_from
    row-filled t u m at e es fs fits same behind = rw (owner, filled) (by-test (eqb o p) behind)
      where
        owner : get_or u at 0 ≡ o
        owner = same at (omega arith) (omega arith) ∙ stored-first o (e.number ∷ e.file ∷ numbers_of e.figures) t at fits

        filled : entry_at u at ≡ e
        filled = entry-alike u (sets t at (row_of o e)) at same ∙ entry-back o t at e fits

        by-test : (own : Bool) → Merged es (cond own fs []) (entries_from p u m (at + 9))
            → Merged es (cond own (e ∷ fs) []) (cond own (e ∷ entries_from p u m (at + 9)) (entries_from p u m (at + 9)))
        by-test true r = right r
        by-test false r = r

    pub placed-merged : (n : ℕ) (book : List ℕ) (at : ℕ) (es : List Entry) → at + 9 * (n + more book n at es) ≤ length book → Set book n at es p
    unfolding entries_from placed
    placed-merged zero book at es h =
        let as_many : 0 + more book 0 at es ≡ length es = omega arith in
        rw (as_many, entries-back p o es book at (omega arith)) (all_right (share_of p o es))
    placed-merged (suc n) book at [] h = rw (none_more (suc n) at) (none-shared (eqb o p) (entries_from p book (suc n) at))
      where
        none_more : (n at : ℕ) → n + (0 - (n - used book n at)) ≡ n
        none_more n at = omega arith
    placed-merged (suc n) book at (e ∷ es) h =
        by-test (is_owner (get_or book at 0)) refl (λ fits. placed-merged n book (at + 9) (e ∷ es) fits)
        (λ fits. placed-merged n (sets book at (row_of o e)) (at + 9) es fits)
      where
        by-test : (t : Bool) → is_owner (get_or book at 0) ≡ t
            → (at + 9 + 9 * (n + more book n (at + 9) (e ∷ es)) ≤ length book → Set book n (at + 9) (e ∷ es) p)
            → (at + 9 + 9 * (n + more (sets book at (row_of o e)) n (at + 9) es) ≤ length (sets book at (row_of o e)) → Set (sets book at (row_of o e)) n (at + 9) es p)
            → Merged (entries_from p book (suc n) at) (share_of p o (e ∷ es)) (entries_from p (cond t (placed o book n (at + 9) (e ∷ es)) (placed o (sets book at (row_of o e)) n (at + 9) es)) (suc n + more book (suc n) at (e ∷ es)) at)
        by-test true theirs behind filled =
            let as_many : suc n + more book (suc n) at (e ∷ es) ≡ suc (n + more book n (at + 9) (e ∷ es)) = omega (arith, used-row book n at theirs) in
            rw as_many
            (row_kept book (placed o book n (at + 9) (e ∷ es)) n (n + more book n (at + 9) (e ∷ es)) at (share_of p o (e ∷ es))
            (λ k a b. placed-before n book (at + 9) (e ∷ es) k b) (behind (omega arith)))
        by-test false nobodys behind filled =
            let t = sets book at (row_of o e) in
            let alike : (q : ℕ) → entries_from q t n (at + 9) ≡ entries_from q book n (at + 9) =
            λ q. entries-alike q t book n (at + 9) (λ k a b. stored-behind (row_of o e) book at k a) in
            let as-used : used t n (at + 9) ≡ used book n (at + 9) = λ i. length (alike 1 i) + length (alike 2 i) in
            let as_many : suc n + more book (suc n) at (e ∷ es) ≡ suc (n + more t n (at + 9) es) = omega (arith, used-gap book n at nobodys, used-most book n (at + 9)) in
            rw (as_many, gap_row book n at p who nobodys)
            (row-filled book (placed o t n (at + 9) es) (n + more t n (at + 9) es) at e (entries_from p book n (at + 9)) es (omega arith)
            (λ k a b. placed-before n t (at + 9) es k b)
            (rw (alike p) at (filled (omega (arith, length-sets book at (row_of o e))))))
