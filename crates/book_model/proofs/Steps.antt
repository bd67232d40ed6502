-- The head of a book beside its rows, and what an entry that leaves a plain list takes from its sums. Assumes nothing.
use Rattle.std.specs.Prelude.{Ok}
use Prim.Native.Nat.{ℕ, suc, ◌+◌, ◌<◌}
use native.Mathlib.Omega.{arith}
use mathlib.Core.Bool.{true}
use mathlib.Core.List.{List, [], ◌∷◌}
use mathlib.Core.Path.{◌≡◌, refl, sym, ap, ◌∙◌}
use lib.ListN.{length, get_or, set}
use lib.Seq.{sets, get_or-set_other}
use Rattle.figures.specs.declared.Figures.{Figures}
use Rattle.figures.specs.Figures.{plus, minus, same, covers, all_of, figures_at}
use Rattle.figures.proofs.Laws.{both, same_true, same_refl, same_step}
use Rattle.book_model.specs.declared.Entry.{Entry}
use Rattle.book_model.specs.PlainList.{totals_of, entries_on, finding, without}
use Rattle.book_model.specs.Table.{block_of, last_number, running_totals}
use Rattle.book_model.proofs.Laws.{block_within}
use Rattle.book_model.proofs.Without.{found-totals}

-- numbers before a run of stores
pub kept : (l : List ℕ) (i : ℕ) (vs : List ℕ) (j : ℕ) → j < i → get_or (sets l i vs) j 0 ≡ get_or l j 0
kept l i [] j h = refl
kept l i (v ∷ vs) j h = kept (set l i v) (suc i) vs j (omega arith) ∙ get_or-set_other l i j v 0 (λ e. omega arith)

-- two books with the same head have the same of an owner's in it
pub head-totals : (o : ℕ) (a b : List ℕ) → ((j : ℕ) → j < 17 → get_or a j 0 ≡ get_or b j 0) → running_totals o a ≡ running_totals o b
unfolding figures_at
head-totals o a b there =
    let within = (block_within o).1 in
    rw (
      there (block_of o + 1) (omega arith),
      there (block_of o + 1 + 1) (omega arith),
      there (block_of o + 1 + 2) (omega arith),
      there (block_of o + 1 + 3) (omega arith),
      there (block_of o + 1 + 4) (omega arith),
      there (block_of o + 1 + 5) (omega arith),
    )

pub head-last : (o : ℕ) (a b : List ℕ) → ((j : ℕ) → j < 17 → get_or a j 0 ≡ get_or b j 0) → last_number o a ≡ last_number o b
head-last o a b there = there (block_of o) (omega (arith, (block_within o).1))

-- the letters of a file as entries
pub entries-count : (last m : ℕ) (fs : List Figures) → length (entries_on last m fs) ≡ length fs
unfolding entries_on
entries-count last m [] = refl
entries-count last m (f ∷ fs) = ap suc (entries-count (last + 1) m fs)

pub entries-sum : (last m : ℕ) (fs : List Figures) → totals_of (entries_on last m fs) ≡ all_of fs
unfolding entries_on totals_of all_of
entries-sum last m [] = refl
entries-sum last m (f ∷ fs) = ap (plus f) (entries-sum (last + 1) m fs)

-- what the entry found takes from the sum of all
module _ (es : List Entry) (n : ℕ) (e : Entry) (q : finding es n ≡ Ok e) where
  apart : (covers (totals_of es) e.figures ≡ true) × (same (minus (totals_of es) e.figures) (totals_of (without n es)) ≡ true)
  apart =
      both _ _
      (sym (same_step (totals_of es) e.figures (totals_of (without n es)))
      ∙ ap (same (totals_of es)) (sym (found-totals n e es q))
      ∙ same_refl (totals_of es))

  pub found-covered : covers (totals_of es) e.figures ≡ true
  found-covered = apart.0

  pub found-less : minus (totals_of es) e.figures ≡ totals_of (without n es)
  found-less = same_true (minus (totals_of es) e.figures) (totals_of (without n es)) apart.1
