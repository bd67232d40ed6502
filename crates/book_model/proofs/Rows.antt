-- Entries in a table: what is written as an owner's rows is read back by that owner, and what lies elsewhere stays. Assumes nothing.
use Prim.Native.Nat.{ℕ, zero, suc, ◌+◌, ◌*◌, ◌≤◌, ◌<◌}
use native.Mathlib.Nat.{zero-add, suc-add}
use native.Mathlib.Omega.{arith}
use mathlib.Core.Bool.{Bool, true, false, cond}
use mathlib.Core.Path.{◌≡◌, refl, sym, ap, ◌∙◌}
use mathlib.Core.List.{List, [], ◌∷◌, ◌++◌}
use lib.Dec.{eqb}
use lib.ListN.{length, get_or}
use lib.Seq.{sets, length-sets}
use Rattle.figures.specs.declared.Figures.{Figures}
use Rattle.figures.specs.Figures.{figures_at, numbers_of}
use Rattle.book_model.specs.declared.Entry.{Entry}
use Rattle.book_model.specs.Table.{entry_at, row_of, rows_of, entries_from}
use Rattle.book_model.proofs.Stores.{stored-before, stored-first, stored-in, stored-apart}

-- tables that agree on a stretch have the same figures and entries there
abbrev pub Alike : List ℕ → List ℕ → ℕ → ℕ → Type 0
Alike t u from to = (k : ℕ) → from ≤ k → k < to → get_or t k 0 ≡ get_or u k 0

pub figures-alike : (t u : List ℕ) (at : ℕ) → Alike t u at (at + 6) → figures_at t at ≡ figures_at u at
unfolding figures_at
figures-alike t u at h =
    rw (
      h at (omega arith) (omega arith),
      h (at + 1) (omega arith) (omega arith),
      h (at + 2) (omega arith) (omega arith),
      h (at + 3) (omega arith) (omega arith),
      h (at + 4) (omega arith) (omega arith),
      h (at + 5) (omega arith) (omega arith),
    )

pub entry-alike : (t u : List ℕ) (at : ℕ) → Alike t u at (at + 9) → entry_at t at ≡ entry_at u at
unfolding entry_at
entry-alike t u at h =
    rw (
      h (at + 1) (omega arith) (omega arith),
      h (at + 2) (omega arith) (omega arith),
      figures-alike t u (at + 3) (λ k a b. h k (omega arith) (omega arith)),
    )

module _ (o : ℕ) where
  pub entries-alike : (t u : List ℕ) (n at : ℕ) → Alike t u at (at + 9 * n) → entries_from o t n at ≡ entries_from o u n at
  unfolding entries_from
  entries-alike t u zero at h = refl
  entries-alike t u (suc n) at h =
      rw (
        h at (omega arith) (omega arith),
        entry-alike t u at (λ k a b. h k a (omega arith)),
        entries-alike t u n (at + 9) (λ k a b. h k (omega arith) (omega arith)),
      )

  -- so many rows, and so many more behind them
  pub entries-apart : (t : List ℕ) (m n at : ℕ) → entries_from o t (m + n) at ≡ entries_from o t m at ++ entries_from o t n (at + 9 * m)
  unfolding entries_from
  entries-apart t zero n at = rw (zero-add n) (ap (λ (k : ℕ). entries_from o t n k) (sym (no_row at)))
    where
      no_row : (k : ℕ) → k + 9 * 0 ≡ k
      no_row k = omega arith
  entries-apart t (suc m) n at =
      rw (suc-add m n, entries-apart t m n (at + 9), one-row-further at m)
      (joined (eqb (get_or t at 0) o) (entry_at t at) (entries_from o t m (at + 9)) (entries_from o t n (at + 9 * suc m)))
    where
      one-row-further : (k n : ℕ) → k + 9 + 9 * n ≡ k + 9 * suc n
      one-row-further k n = omega arith

      joined : (own : Bool) (e : Entry) (es fs : List Entry) → cond own (e ∷ es ++ fs) (es ++ fs) ≡ cond own (e ∷ es) es ++ fs
      joined true e es fs = refl
      joined false e es fs = refl

-- figures and rows are read back as they were written
pub figures-back : (t : List ℕ) (i : ℕ) (f : Figures) → i + 6 ≤ length t → figures_at (sets t i (numbers_of f)) i ≡ f
unfolding figures_at
figures-back t i f h =
    rw (
      stored-first f.bundles _ t i h,
      stored-in (numbers_of f) t i 1 h (omega arith),
      stored-in (numbers_of f) t i 2 h (omega arith),
      stored-in (numbers_of f) t i 3 h (omega arith),
      stored-in (numbers_of f) t i 4 h (omega arith),
      stored-in (numbers_of f) t i 5 h (omega arith),
    )

module _ (o : ℕ) (t : List ℕ) (i : ℕ) (e : Entry) (h : i + 9 ≤ length t) where
  pub entry-back : entry_at (sets t i (row_of o e)) i ≡ e
  unfolding entry_at
  entry-back = rw (stored-in (row_of o e) t i 1 h (omega arith), stored-in (row_of o e) t i 2 h (omega arith), figures-in)
    where
      figures-in : figures_at (sets t i (row_of o e)) (i + 3) ≡ e.figures
      figures-in =
          ap (λ (u : List ℕ). figures_at u (i + 3)) (stored-apart (o ∷ e.number ∷ e.file ∷ []) (numbers_of e.figures) t i)
          ∙ figures-back (sets t i (o ∷ e.number ∷ e.file ∷ [])) (i + 3) e.figures
          (omega (arith, length-sets t i (o ∷ e.number ∷ e.file ∷ [])))

-- what an owner has of another's entries, or of its own: none, or all
abbrev pub share_of : ℕ → ℕ → List Entry → List Entry
share_of p o es = cond (eqb o p) es []

pub entries-back : (p o : ℕ) (es : List Entry) (t : List ℕ) (i : ℕ) → i + 9 * length es ≤ length t
    → entries_from p (sets t i (rows_of o es)) (length es) i ≡ share_of p o es
unfolding entries_from rows_of
entries-back p o [] t i h = none (eqb o p)
  where
    none : (own : Bool) → ◌≡◌ {A = List Entry} [] (cond own [] [])
    none true = refl
    none false = refl
entries-back p o (e ∷ es) t i h =
    ap (λ (u : List ℕ). entries_from p u (suc (length es)) i) (stored-apart (row_of o e) (rows_of o es) t i)
    ∙ rw (owner, first, entries-back p o es (sets t i (row_of o e)) (i + 9) (omega (arith, length-sets t i (row_of o e)))) (joined (eqb o p))
  where
    kept : Alike (sets (sets t i (row_of o e)) (i + 9) (rows_of o es)) (sets t i (row_of o e)) i (i + 9)
    kept k a b = stored-before (rows_of o es) (sets t i (row_of o e)) (i + 9) k b

    owner : get_or (sets (sets t i (row_of o e)) (i + 9) (rows_of o es)) i 0 ≡ o
    owner = kept i (omega arith) (omega arith) ∙ stored-first o (e.number ∷ e.file ∷ numbers_of e.figures) t i (omega arith)

    first : entry_at (sets (sets t i (row_of o e)) (i + 9) (rows_of o es)) i ≡ e
    first =
        entry-alike (sets (sets t i (row_of o e)) (i + 9) (rows_of o es)) (sets t i (row_of o e)) i kept ∙ entry-back o t i e (omega arith)

    joined : (own : Bool) → cond own (e ∷ cond own es []) (cond own es []) ≡ cond own (e ∷ es) []
    joined true = refl
    joined false = refl
