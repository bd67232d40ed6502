-- The seven sizes of a record's row, by the numbers of its kind: one by one, and that they are those of its layout. Assumes nothing.
use Prim.Native.Nat.{ℕ, zero, suc, ◌+◌, ◌-◌, ◌≤◌, ◌<◌}
use native.Mathlib.Omega.{arith}
use native.Mathlib.Nat.{not-suc-le-zero, le_of_suc-le-suc}
use mathlib.Core.Bool.{Bool, true, false, cond}
use mathlib.Core.Path.{◌≡◌, refl, sym, ap, ◌∙◌}
use mathlib.Core.List.{List, [], ◌∷◌, ◌++◌, map}
use lib.Dec.{eqb}
use lib.ListN.{length, get_or, take, drop, length-append, length-take, length-drop, length-map, get_or-eq_default}
use lib.Seq.{get_or-take, get_or-drop}
use Rattle.text.specs.declared.character_set.CharacterSet.{CharacterSet}
use Rattle.layout.specs.Layout.{Layout, Sized, sized_parts}
use Rattle.layout.specs.Layouts.{layouts}
use Rattle.layout.specs.Packing.{Block, block_of, block_in, blocks_in, fields_in, parts_in, lines_in, sized_of, sized_from, is_whole, own_in, Packed}
use Rattle.judge.specs.Alone.{stated_size}
use Rattle.judge.proofs.Dispatch.{whole}
use Rattle.copying.specs.Times.{times}
use Rattle.draft.specs.Values.{layout_among, layout_of}
use Rattle.drafting.specs.ByNumbers.{seven_sizes, parts_own}

-- 0 stands behind the last number as it stands past the end
padded : (xs : List ℕ) (n i : ℕ) → get_or (xs ++ times n 0) i 0 ≡ get_or xs i 0
padded [] zero i = refl
padded [] (suc n) zero = refl
padded [] (suc n) (suc i) = padded [] n i
padded (x ∷ xs) n zero = refl
padded (x ∷ xs) n (suc i) = padded xs n i

length-sized : (n : ℕ) (ps : List ℕ) → length (sized_from n ps) ≡ length ps
length-sized n [] = refl
length-sized n (p ∷ ps) = ap suc (length-sized (n + 1) ps)

module _ (set : CharacterSet) (body : List ℕ) where
  abbrev stated : Sized → ℕ
  stated s = stated_size set s body

  pub seven : (parts : List Sized) → length (seven_sizes set parts body) ≡ 7
  seven parts = simp (length-take, length-append) (omega arith)

  size_is : (parts : List Sized) (i : ℕ) → i < 7 → get_or (map stated parts) i 0 ≡ get_or (seven_sizes set parts body) i 0
  size_is parts i h = sym (get_or-take 7 (map stated parts ++ times 7 0) i 0 h ∙ padded (map stated parts) 7 i)

  size-outside : (parts : List Sized) (i : ℕ) → length parts ≤ i → i < 7 → 0 ≡ get_or (seven_sizes set parts body) i 0
  size-outside parts i l h =
      sym (get_or-eq_default (map stated parts) 0 {n = i} (omega (arith, length-map parts stated))) ∙ size_is parts i h

  size-among : (n : ℕ) (ps : List ℕ) (i : ℕ) → i < length ps → stated_size set (sized_of 0 (get_or ps i 0)) body ≡ get_or (map stated (sized_from n ps)) i 0
  size-among n [] i l = absurd (not-suc-le-zero l)
  size-among n (p ∷ ps) zero l = refl
  size-among n (p ∷ ps) (suc i) l = size-among (n + 1) ps i (le_of_suc-le-suc l)

  -- no numbers, no part; a part that there is not; one that there is
  pub size_none : (own : List ℕ) (i : ℕ) → length own ≡ 0 → i < 7 → 0 ≡ get_or (seven_sizes set (parts_own own) body) i 0
  size_none [] i e h = size-outside [] i (omega arith) h
  size_none (header ∷ rest) i e h = absurd (omega arith)

  pub size-past : (own : List ℕ) (i : ℕ) → 1 ≤ length own → parts_in (get_or own 0 0) ≤ i → i < 7
      → 0 ≡ get_or (seven_sizes set (parts_own own) body) i 0
  size-past [] i o l h = absurd (omega arith)
  size-past (header ∷ rest) i o l h =
      let ps = take (parts_in header) (drop (lines_in header) rest) in
      size-outside (sized_from (lines_in header + 1) ps) i
      (omega (arith, length-sized (lines_in header + 1) ps, length-take (parts_in header) (drop (lines_in header) rest))) h

  pub size-there : (own : List ℕ) (i : ℕ) → 1 ≤ length own → is_whole own ≡ true → i < parts_in (get_or own 0 0) → i < 7
      → stated_size set (sized_of 0 (get_or own (fields_in (get_or own 0 0) + 1 - parts_in (get_or own 0 0) + i) 0)) body
      ≡ get_or (seven_sizes set (parts_own own) body) i 0
  size-there [] i o w l h = absurd (omega arith)
  size-there (header ∷ rest) i o w l h =
      let all = whole (header ∷ rest) o w in
      let ps = take (parts_in header) (drop (lines_in header) rest) in
      let place : fields_in header + 1 - parts_in header + i ≡ suc (lines_in header + i) = omega (arith, all.parts) in
      let there : get_or rest (lines_in header + i) 0 ≡ get_or ps i 0 =
      sym (get_or-take (parts_in header) (drop (lines_in header) rest) i 0 l ∙ get_or-drop (lines_in header) rest i 0) in
      let long : i < length ps =
      omega (arith, all.fields, all.parts, length-take (parts_in header) (drop (lines_in header) rest), length-drop (lines_in header) rest) in
      ap (λ (k : ℕ). stated_size set (sized_of 0 (get_or (header ∷ rest) k 0)) body) place
      ∙ ap (λ (p : ℕ). stated_size set (sized_of 0 p) body) there
      ∙ size-among (lines_in header + 1) ps i long
      ∙ size_is (sized_from (lines_in header + 1) ps) i h

-- the parts of a type, by its numbers in the code's table
parts-among : (n t : ℕ) (numbers : List ℕ) (ks : List Layout) → blocks_in n numbers ≡ map block_of ks
    → parts_own (own_in t n numbers) ≡ sized_parts (layout_among ks t)
unfolding blocks_in own_in
parts-among zero t numbers [] m = refl
parts-among zero t numbers (k ∷ ks) m = let z : ◌≡◌ {A = ℕ} 0 1 = cc in absurd (omega arith)
parts-among (suc n) t [] [] m = refl
parts-among (suc n) t [] (k ∷ ks) m = let z : ◌≡◌ {A = ℕ} 0 1 = cc in absurd (omega arith)
parts-among (suc n) t (header ∷ rest) [] m = let z : ◌≡◌ {A = ℕ} 0 1 = cc in absurd (omega arith)
parts-among (suc n) t (header ∷ rest) (k ∷ ks) m =
    let first : block_in header rest ≡ block_of k = cc in
    let others : blocks_in n (drop (fields_in header) rest) ≡ map block_of ks = cc in
    rw (ap (λ (b : Block). b.type_number) first)
    (by (eqb t k.type_number) (ap (λ (b : Block). b.parts) first) (parts-among n t (drop (fields_in header) rest) ks others))
  where
    by : (c : Bool) → (block_in header rest).parts ≡ sized_parts k
        → parts_own (own_in t n (drop (fields_in header) rest)) ≡ sized_parts (layout_among ks t)
        → parts_own (cond c (header ∷ rest) (own_in t n (drop (fields_in header) rest))) ≡ sized_parts (cond c k (layout_among ks t))
    by true here later = here
    by false here later = later

pub parts-own : (numbers : List ℕ) (t : ℕ) → Packed numbers → parts_own (own_in t (length numbers) numbers) ≡ sized_parts (layout_of t)
unfolding layout_of
parts-own numbers t p = parts-among (length numbers) t numbers layouts p.means
