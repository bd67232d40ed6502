-- Rows closed up where they stand: what is still to come gives the whole, and the zeros behind it. Assumes nothing.
use Prim.Native.Nat.{ℕ, zero, suc, ◌+◌, ◌-◌, ◌*◌, ◌≤◌, ◌<◌}
use native.Mathlib.Nat.{add-zero}
use native.Mathlib.Omega.{arith}
use mathlib.Core.Bool.{true, false, cond}
use mathlib.Core.List.{List, [], ◌∷◌, ◌++◌, append_assoc}
use mathlib.Core.Path.{◌≡◌, refl, sym, ap, ◌∙◌}
use lib.ListN.{length, get_or, set, take, drop, length-append}
use lib.Seq.{sets, set-get_or, sets-eq, length-sets, take_at, drop_at, drop-set-lt, drop-drop, get_or-drop, length-take-le}
use Rattle.frame.specs.Frames.{part}
use Rattle.copying.specs.Times.{times}
use Rattle.copying.proofs.Laws.{length_part, length-times}
use Rattle.book_model.specs.Table.{is_owner, rows_claimed, rows_there, entries_of, rows_used, is_book, used_from, tidied}
use Rattle.book_model.proofs.Laws.{Walk, row_within, sound}
use Rattle.book_gaps.proofs.Laws.{used_in, used-none, closed_none, closed-here, closed-behind}

-- one list behind another
pub sets_behind : (l : List ℕ) (at : ℕ) (xs ys : List ℕ) → sets l at (xs ++ ys) ≡ sets (sets l at xs) (at + length xs) ys
sets_behind l at [] ys = ap (λ (k : ℕ). sets l k ys) (sym (add-zero at))
sets_behind l at (x ∷ xs) ys =
    let e : suc at + length xs ≡ at + suc (length xs) = omega arith in
    sets_behind (set l at x) (suc at) xs ys ∙ ap (λ (k : ℕ). sets (sets (set l at x) (suc at) xs) k ys) e

-- what lies behind a run of stores
pub drop-stored : (m : ℕ) (l : List ℕ) (i : ℕ) (vs : List ℕ) → i + length vs ≤ m → drop m (sets l i vs) ≡ drop m l
drop-stored m l i [] h = refl
drop-stored m l i (v ∷ vs) h = drop-stored m (set l i v) (suc i) vs (omega arith) ∙ drop-set-lt m l i v (omega arith)

-- the rows used are those of what lies from their place on
used-kept : (n at : ℕ) (a b : List ℕ) → drop at a ≡ drop at b → used_from a n at ≡ used_from b n at
unfolding used_from
used-kept zero at a b e = refl
used-kept (suc n) at a b e =
    let first : get_or a at 0 ≡ get_or b at 0 =
    ap (λ (k : ℕ). get_or a k 0) (sym (add-zero at)) ∙ sym (get_or-drop at a 0 0) ∙ ap (λ (l : List ℕ). get_or l 0 0) e ∙ get_or-drop at b 0 0 ∙ ap (λ (k : ℕ). get_or b k 0) (add-zero at) in
    let behind : drop (at + 9) a ≡ drop (at + 9) b = sym (drop-drop 9 at a) ∙ ap (drop 9) e ∙ drop-drop 9 at b in
    let row : part at 9 a ≡ part at 9 b = ap (take 9) e in
    let rest = used-kept n (at + 9) a b behind in
    λ i. cond (is_owner (first i)) (row i ++ rest i) (rest i)

pub record Closing (book₀ : List ℕ) (claimed : ℕ) (book : List ℕ) (to at rows : ℕ) : Type 0 where
  pub onward : sets book to (used_from book rows at) ≡ sets book₀ 17 (used_from book₀ claimed 17)
  pub reach : to + length (used_from book rows at) ≡ 17 + length (used_from book₀ claimed 17)
  pub before : to ≤ at
  pub walk : Walk claimed rows at
  pub long : length book ≡ length book₀

module _ (book₀ : List ℕ) (claimed : ℕ) where
  pub closing-first : Closing book₀ claimed book₀ 17 17 claimed
  closing-first = record { onward = refl; reach = refl; before = omega arith; walk = (omega arith, refl); long = refl }

  module _ (book : List ℕ) (to at rows : ℕ) (v : Closing book₀ claimed book to at rows) where
    pub closing_end : rows ≤ 0 → (to ≡ 17 + length (used_from book₀ claimed 17)) × (book ≡ sets book₀ 17 (used_from book₀ claimed 17))
    closing_end h =
        let none = closed_none book at rows h in
        (omega (arith, v.reach, ap length none), ap (sets book to) (sym none) ∙ v.onward)

    module _ (some : 0 < rows) (there : claimed ≤ rows_there book₀) where
      pub closing-within : at + 9 ≤ length book
      closing-within = omega (arith, v.long, row_within book₀ claimed rows at there v.walk some)

      pub closing-other : is_owner (get_or book at 0) ≡ false → Closing book₀ claimed book to (at + 9) (rows - 1)
      closing-other e =
          let rest = closed-behind book at rows some e in
          record {
            onward = ap (sets book to) (sym rest) ∙ v.onward;
            reach = omega (arith, v.reach, ap length rest);
            before = omega (arith, v.before);
            walk = (omega (arith, v.walk.0), omega (arith, v.walk.1));
            long = v.long;
          }

      pub closing-own : is_owner (get_or book at 0) ≡ true → (after : List ℕ) → after ≡ sets book to (part at 9 book)
          → Closing book₀ claimed after (to + 9) (at + 9) (rows - 1)
      closing-own e after w =
          let row = part at 9 book in
          let nine : length row ≡ 9 = length_part book at 9 closing-within in
          let all = closed-here book at rows some e in
          let kept : used_from after (rows - 1) (at + 9) ≡ used_from book (rows - 1) (at + 9) =
          used-kept (rows - 1) (at + 9) after book (ap (drop (at + 9)) w ∙ drop-stored (at + 9) book to row (omega (arith, v.before, nine))) in
          record {
            onward =
                (λ i. sets (w i) (to + sym nine i) (kept i))
                ∙ sym (sets_behind book to row (used_from book (rows - 1) (at + 9)))
                ∙ ap (sets book to) (sym all)
                ∙ v.onward;
            reach = omega (arith, v.reach, ap length all, ap length kept, length-append row (used_from book (rows - 1) (at + 9)), nine);
            before = omega (arith, v.before);
            walk = (omega (arith, v.walk.0), omega (arith, v.walk.1));
            long = ap length w ∙ length-sets book to row ∙ v.long;
          }

-- zeros, and a list over the first of them
times-apart : (a b : ℕ) → times (a + b) 0 ≡ times a 0 ++ times b 0
times-apart zero b = let e : 0 + b ≡ b = omega arith in ap (λ (k : ℕ). times k 0) e
times-apart (suc a) b =
    let e : suc a + b ≡ suc (a + b) = omega arith in ap (λ (k : ℕ). times k 0) e ∙ ap (λ (l : List ℕ). 0 ∷ l) (times-apart a b)

pub over_zeros : (l : List ℕ) (i a b : ℕ) (us : List ℕ) → length us ≡ a → i + (a + b) ≤ length l
    → sets (sets l i (times (a + b) 0)) i us ≡ sets l i (us ++ times b 0)
over_zeros l i a b us long fits =
    let zs = times (a + b) 0 in
    let rest = drop (i + (a + b)) l in
    let front_long : length (take i l) ≡ i = length-take-le i l (omega arith) in
    let many : length zs ≡ a + b = length-times (a + b) 0 in
    let below : sets l i zs ≡ take i l ++ (zs ++ rest) = sets-eq zs l i (omega (arith, many)) ∙ append_assoc (take i l) zs (drop (i + length zs) l) ∙ ap (λ (n : ℕ). take i l ++ (zs ++ drop (i + n) l)) many in
    let front : take i (sets l i zs) ≡ take i l = ap (take i) below ∙ take_at (take i l) (zs ++ rest) i front_long in
    let split : zs ++ rest ≡ times a 0 ++ (times b 0 ++ rest) = ap (λ (m : List ℕ). m ++ rest) (times-apart a b) ∙ append_assoc (times a 0) (times b 0) rest in
    let both_long : length (take i l ++ times a 0) ≡ i + a = length-append (take i l) (times a 0) ∙ omega (arith, front_long, length-times a 0) in
    let behind : drop (i + a) (sets l i zs) ≡ times b 0 ++ rest =
    ap (drop (i + a)) (below ∙ ap (λ (m : List ℕ). take i l ++ m) split ∙ sym (append_assoc (take i l) (times a 0) (times b 0 ++ rest)))
    ∙ drop_at (take i l ++ times a 0) (times b 0 ++ rest) (i + a) both_long in
    let room : i + length us ≤ length (sets l i zs) = omega (arith, long, length-sets l i zs) in
    let room' : i + length (us ++ times b 0) ≤ length l = omega (arith, length-append us (times b 0), long, length-times b 0) in
    let width : length (us ++ times b 0) ≡ a + b = length-append us (times b 0) ∙ omega (arith, long, length-times b 0) in
    sets-eq us (sets l i zs) i room
    ∙ (λ j. (front j ++ us) ++ drop (i + long j) (sets l i zs))
    ∙ ap (λ (m : List ℕ). (take i l ++ us) ++ m) behind
    ∙ append_assoc (take i l) us (times b 0 ++ rest)
    ∙ ap (λ (m : List ℕ). take i l ++ m) (sym (append_assoc us (times b 0) rest))
    ∙ sym (append_assoc (take i l) (us ++ times b 0) rest)
    ∙ ap (λ (n : ℕ). (take i l ++ (us ++ times b 0)) ++ drop (i + n) l) (sym width)
    ∙ sym (sets-eq (us ++ times b 0) l i room')

-- the book tidied up, as it comes about: a table too short for its head has nothing to tidy
used-is : (book : List ℕ) → rows_used book ≡ used_in book (rows_claimed book) 17
unfolding entries_of
used-is book = refl

module _ (book : List ℕ) (b : is_book book ≡ true) where
  pub tidied-short : length book < 17 → book ≡ tidied book
  unfolding tidied
  tidied-short h =
      let claims = (sound book b).claims in
      let none : rows_claimed book ≡ 0 = omega arith in
      let unused : rows_used book ≡ rows_claimed book = used-is book ∙ omega (arith, used-none book 17 (rows_claimed book) (omega arith)) in
      let many : 9 * rows_claimed book ≡ 0 = omega arith in
      sym
      ((λ i. set (sets (sets book 17 (times (many i) 0)) 17 (closed_none book 17 (rows_claimed book) (omega arith) i)) 0 (unused i))
      ∙ set-get_or book 0 0)

  pub tidied-is : (end many : ℕ) → end ≡ 17 + length (used_from book (rows_claimed book) 17) → end + many ≡ 17 + 9 * rows_claimed book → 17 ≤ length book
      → tidied book ≡ set (sets (sets book 17 (used_from book (rows_claimed book) 17)) end (times many 0)) 0 (rows_used book)
  unfolding tidied
  tidied-is end many e f long =
      let us = used_from book (rows_claimed book) 17 in
      let claims = (sound book b).claims in
      let all : 9 * rows_claimed book ≡ length us + many = omega arith in
      ap (λ (l : List ℕ). set l 0 (rows_used book))
      (ap (λ (n : ℕ). sets (sets book 17 (times n 0)) 17 us) all
      ∙ over_zeros book 17 (length us) many us refl (omega arith)
      ∙ sets_behind book 17 us (times many 0)
      ∙ ap (λ (n : ℕ). sets (sets book 17 us) n (times many 0)) (sym e))
