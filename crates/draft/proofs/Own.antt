-- The layout of a type: what a test says of every layout holds of it, and its numbers in the code's table are its own. Assumes nothing.
use Prim.Native.Nat.{ℕ, zero, suc, ◌≤◌, ◌<◌}
use native.Mathlib.Omega.{arith}
use mathlib.Core.Bool.{Bool, true, false, ◌&&◌, ◌||◌, cond}
use mathlib.Core.List.{List, [], ◌∷◌, map}
use mathlib.Core.Path.{◌≡◌, refl, ap, sym}
use borrow.Author.Tests.{eqb-true, leb-true, ltb-true}
use lib.Dec.{leb, ltb, eqb}
use lib.ListN.{length, get_or, drop}
use Rattle.layout.specs.Layout.{Layout, sized_parts}
use Rattle.layout.specs.Layouts.{layouts}
use Rattle.layout.specs.Packing.{Block, block_of, block_in, blocks_in, type_in, fields_in, own_in, Packed}
use Rattle.judge.proofs.Laws.{both_true}
use Rattle.judge.proofs.Dispatch.{table-own}
use Rattle.order.specs.MayFollow.{is_one_of, is_carried, carried}
use Rattle.draft.specs.Values.{unknown_record, layout_among, layout_of}
use Rattle.draft.specs.Owned.{Owned}

abbrev all : (Layout → Bool) → List Layout → Bool
all test [] = true
all test (k ∷ ks) = test k && all test ks

-- what is tested of every layout, and of what is known of any other type
module _ (test : Layout → Bool) (t : ℕ) where
  among : (ks : List Layout) → test unknown_record ≡ true → all test ks ≡ true → test (layout_among ks t) ≡ true
  among [] u e = u
  among (k ∷ ks) u e =
      let both = both_true (test k) (all test ks) e in
      by (eqb t k.type_number) both.0 (among ks u both.1)
    where
      by : (c : Bool) → test k ≡ true → test (layout_among ks t) ≡ true → test (cond c k (layout_among ks t)) ≡ true
      by true here later = here
      by false here later = later

  pub every-layout : test unknown_record && all test layouts ≡ true → test (layout_of t) ≡ true
  unfolding layout_of
  every-layout e = let both = both_true (test unknown_record) (all test layouts) e in among layouts both.0 both.1

abbrev pub numbers_of : List Layout → List ℕ
numbers_of [] = []
numbers_of (k ∷ ks) = k.type_number ∷ numbers_of ks

-- a carried type is that of its layout
carried-among : (t : ℕ) (ks : List Layout) → is_one_of t (numbers_of ks) ≡ true → (layout_among ks t).type_number ≡ t
carried-among t [] e = let z : ◌≡◌ {A = ℕ} 0 1 = cc in absurd (omega arith)
carried-among t (k ∷ ks) e = by (eqb t k.type_number) refl e (carried-among t ks)
  where
    by : (c : Bool) → eqb t k.type_number ≡ c → c || is_one_of t (numbers_of ks) ≡ true → (is_one_of t (numbers_of ks) ≡ true → (layout_among ks t).type_number ≡ t)
        → (cond c k (layout_among ks t)).type_number ≡ t
    by true q e later = sym (eqb-true t k.type_number q)
    by false q e later = later e

pub carried-type : (t : ℕ) → is_carried t ≡ true → (layout_of t).type_number ≡ t
unfolding layout_of is_carried
carried-type t e = carried-among t layouts e

pub carried-below : (t : ℕ) → is_carried t ≡ true → t < 100
carried-below t e = omega (arith, carried-type t e, ltb-true (layout_of t).type_number 100 (every-layout (λ k. ltb k.type_number 100) t refl))

-- its numbers are the first whose block has its type
record Found (k : Layout) (own : List ℕ) : Type 0 where
  some : 1 ≤ length own
  means : block_in (get_or own 0 0) (drop 1 own) ≡ block_of k

found_among : (n t : ℕ) (numbers : List ℕ) (ks : List Layout) → blocks_in n numbers ≡ map block_of ks → is_one_of t (numbers_of ks) ≡ true
    → Found (layout_among ks t) (own_in t n numbers)
unfolding blocks_in own_in
found_among n t numbers [] m e = let z : ◌≡◌ {A = ℕ} 0 1 = cc in absurd (omega arith)
found_among zero t numbers (k ∷ ks) m e = let z : ◌≡◌ {A = ℕ} 0 1 = cc in absurd (omega arith)
found_among (suc n) t [] (k ∷ ks) m e = let z : ◌≡◌ {A = ℕ} 0 1 = cc in absurd (omega arith)
found_among (suc n) t (header ∷ rest) (k ∷ ks) m e =
    let first : block_in header rest ≡ block_of k = cc in
    let others : blocks_in n (drop (fields_in header) rest) ≡ map block_of ks = cc in
    let same : type_in header ≡ k.type_number = ap (λ (b : Block). b.type_number) first in
    rw same (by (eqb t k.type_number) first e (found_among n t (drop (fields_in header) rest) ks others))
  where
    by : (c : Bool) → block_in header rest ≡ block_of k → c || is_one_of t (numbers_of ks) ≡ true
        → (is_one_of t (numbers_of ks) ≡ true → Found (layout_among ks t) (own_in t n (drop (fields_in header) rest)))
        → Found (cond c k (layout_among ks t)) (cond c (header ∷ rest) (own_in t n (drop (fields_in header) rest)))
    by true first e later = record { some = omega arith; means = first }
    by false first e later = later e

pub carried-owned : (numbers : List ℕ) (t : ℕ) → Packed numbers → is_carried t ≡ true → Owned (layout_of t) (own_in t (length numbers) numbers)
unfolding layout_of is_carried
carried-owned numbers t p e =
    let found = found_among (length numbers) t numbers layouts p.means e in
    record { some = found.some; whole = table-own numbers p t; means = found.means }

-- no fixed part is longer than that of a 52, and none has more parts
pub carried-wide : (t : ℕ) → is_carried t ≡ true → (layout_of t).fixed_length ≤ 139
carried-wide t e = leb-true (layout_of t).fixed_length 139 (every-layout (λ k. leb k.fixed_length 139) t refl)

pub few-parts : (t : ℕ) → length (sized_parts (layout_of t)) ≤ 7
few-parts t = leb-true (length (sized_parts (layout_of t))) 7 (every-layout (λ k. leb (length (sized_parts k)) 7) t refl)
