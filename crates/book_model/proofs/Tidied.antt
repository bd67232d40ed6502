-- Rows closed up: each owner's entries are as they were. Assumes nothing.
use Prim.Native.Nat.{ℕ, zero, suc, ◌+◌, ◌*◌, ◌≤◌, ◌<◌}
use native.Mathlib.Nat.{add_assoc}
use native.Mathlib.Omega.{arith}
use mathlib.Core.Bool.{Bool, true, false, cond}
use mathlib.Core.Path.{◌≡◌, refl, sym, ap, ◌∙◌}
use mathlib.Core.List.{List, ◌++◌}
use lib.ListN.{length, get_or}
use lib.Seq.{sets, length-sets}
use Rattle.frame.specs.Frames.{part}
use Rattle.copying.proofs.Laws.{length_part, part_at}
use Rattle.figures.specs.Figures.{figures_at}
use Rattle.book_model.specs.Table.{is_owner, entry_at, entries_from, used_from}
use Rattle.book_model.proofs.Stores.{stored-before, stored-in, stored-apart}
use Rattle.book_model.proofs.Used.{used, used-row, used-gap, gap_row}

module _ (book : List ℕ) where
  -- a row set down again elsewhere
  abbrev again_at : ℕ → List ℕ → List ℕ → ℕ → List ℕ
  again_at from behind t at = sets t at (part from 9 book ++ behind)

  module _ (from : ℕ) (fits : from + 9 ≤ length book) (behind t : List ℕ) (at : ℕ) (h : at + 9 ≤ length t) where
    row-again : (j : ℕ) → j < 9 → get_or (again_at from behind t at) (at + j) 0 ≡ get_or book (from + j) 0
    row-again j b =
        let row = part from 9 book in
        let nine = length_part book from 9 fits in
        ap (λ (l : List ℕ). get_or l (at + j) 0) (stored-apart row behind t at)
        ∙ stored-before behind (sets t at row) (at + length row) (at + j) (omega arith)
        ∙ stored-in row t at j (omega arith) (omega arith) ∙ sym (part_at book from 9 fits j b)

    owner-again : get_or (again_at from behind t at) at 0 ≡ get_or book from 0
    owner-again = rw (none_more at, none_more from) at (row-again 0 (omega arith))
      where
        none_more : (k : ℕ) → k + 0 ≡ k
        none_more k = omega arith

    figure-again : (j : ℕ) → j < 6 → get_or (again_at from behind t at) (at + 3 + j) 0 ≡ get_or book (from + 3 + j) 0
    figure-again j b = rw (add_assoc at 3 j, add_assoc from 3 j) (row-again (3 + j) (omega arith))

    entry-again : entry_at (again_at from behind t at) at ≡ entry_at book from
    unfolding entry_at figures_at
    entry-again =
        rw (
          row-again 1 (omega arith),
          row-again 2 (omega arith),
          row-again 3 (omega arith),
          figure-again 1 (omega arith),
          figure-again 2 (omega arith),
          figure-again 3 (omega arith),
          figure-again 4 (omega arith),
          figure-again 5 (omega arith),
        )

  module _ (p : ℕ) (who : is_owner p ≡ true) where
    pub tidied-entries : (n from : ℕ) (t : List ℕ) (at : ℕ) → from + 9 * n ≤ length book → at + 9 * used book n from ≤ length t
        → entries_from p (sets t at (used_from book n from)) (used book n from) at ≡ entries_from p book n from
    unfolding entries_from used_from
    tidied-entries zero from t at h fits = refl
    tidied-entries (suc n) from t at h fits =
        by-test (is_owner (get_or book from 0)) refl
        (λ u k. tidied-entries n (from + 9) u (at + 9) (omega arith) k)
        (λ k. tidied-entries n (from + 9) t at (omega arith) k)
      where
        behind : List ℕ
        behind = used_from book n (from + 9)

        by-test : (b : Bool) → is_owner (get_or book from 0) ≡ b
            → ((u : List ℕ) → at + 9 + 9 * used book n (from + 9) ≤ length u
            → entries_from p (sets u (at + 9) behind) (used book n (from + 9)) (at + 9) ≡ entries_from p book n (from + 9))
            → (at + 9 * used book n (from + 9) ≤ length t → entries_from p (sets t at behind) (used book n (from + 9)) at ≡ entries_from p book n (from + 9))
            → entries_from p (sets t at (cond b (part from 9 book ++ behind) behind)) (used book (suc n) from) at ≡ entries_from p book (suc n) from
        by-test true e later gap =
            let row = part from 9 book in
            let nine = length_part book from 9 (omega arith) in
            let one = used-row book n from e in
            let apart : sets t at (row ++ behind) ≡ sets (sets t at row) (at + 9) behind =
            stored-apart row behind t at ∙ ap (λ (k : ℕ). sets (sets t at row) (at + k) behind) nine in
            let rest : entries_from p (sets t at (row ++ behind)) (used book n (from + 9)) (at + 9) ≡ entries_from p book n (from + 9) =
            ap (λ (l : List ℕ). entries_from p l (used book n (from + 9)) (at + 9)) apart ∙ later (sets t at row) (omega (arith, length-sets t at row)) in
            ap (λ (k : ℕ). entries_from p (sets t at (row ++ behind)) k at) one
            ∙ rw (owner-again from (omega arith) behind t at (omega arith), entry-again from (omega arith) behind t at (omega arith), rest)
        by-test false e later gap =
            ap (λ (k : ℕ). entries_from p (sets t at behind) k at) (used-gap book n from e) ∙ gap (omega (arith, used-gap book n from e))
            ∙ sym (gap_row book n from p who e)
