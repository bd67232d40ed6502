-- One turn of the comparison, on plain lists, and the links of a 52 as the code finds them. Assumes nothing.
use mathlib.Core.Path.{◌≡◌, refl, ap, ◌∙◌}
use mathlib.Core.Bool.{Bool, true, false, ◌&&◌, ◌||◌, not, cond}
use mathlib.Core.List.{List, [], ◌∷◌}
use Prim.Native.Nat.{ℕ, suc, ◌+◌, ◌≤◌, ◌<◌}
use lib.Dec.{eqb}
use lib.ListN.{length, get_or, drop, drop_of_length-le}
use Rattle.text.specs.declared.character_set.CharacterSet.{CharacterSet}
use Rattle.text.proofs.Laws.{rest}
use Rattle.standing.specs.History.{characters}
use Rattle.standing.specs.declared.Standing.{Standing}
use Rattle.agree.specs.Checks.{Check, check}
use Rattle.agree.specs.Links.{same, signed, view_links}

and-false : (b : Bool) → b && false ≡ false
and-false true = refl
and-false false = refl

pub same-lengths : (a b : List ℕ) → (length a ≡ length b → ⊥) → same a b ≡ false
same-lengths [] [] h = absurd (h refl)
same-lengths [] (y ∷ ys) h = refl
same-lengths (x ∷ xs) [] h = refl
same-lengths (x ∷ xs) (y ∷ ys) h = ap (λ (t : Bool). eqb x y && t) (same-lengths xs ys (λ e. h (ap suc e))) ∙ and-false (eqb x y)

module _ (a b : List ℕ) (i : ℕ) where
  pub same_differs : i < length a → i < length b → eqb (get_or a i 0) (get_or b i 0) ≡ false → same (drop i a) (drop i b) ≡ false
  same_differs h l e = rw (rest a i h, rest b i l, e)

  pub same-goes-on : i < length a → i < length b → eqb (get_or a i 0) (get_or b i 0) ≡ true
      → same (drop i a) (drop i b) ≡ same (drop (i + 1) a) (drop (i + 1) b)
  same-goes-on h l e = rw (rest a i h, rest b i l, e)

  pub same_ends : length a ≤ i → length b ≤ i → same (drop i a) (drop i b) ≡ true
  same_ends h l = rw (drop_of_length-le a h, drop_of_length-le b l)

-- A bundle header and a cash letter header have a field at the same positions.
header-over : (t : Bool) (file : List ℕ) (header heading first size : ℕ)
    → cond t (characters file header first size) (characters file heading first size) ≡ characters file (cond t header heading) first size
header-over true file header heading first size = refl
header-over false file header heading first size = refl

-- A 25 and a 31 have their sequence number at the same positions, and a 61 at others.
sequence-at : (credit returned : Bool) (file : List ℕ) (item : ℕ)
    → cond credit (characters file item 63 15) (cond returned (characters file item 58 15) (characters file item 58 15))
    ≡ characters file item (cond credit 63 58) 15
sequence-at true returned file item = refl
sequence-at false true file item = refl
sequence-at false false file item = refl

-- the links of a 52, by the header over it and by the place of the sequence number in its item
abbrev pub links_by : CharacterSet → List ℕ → Standing → ℕ → ℕ → ℕ → List Check
links_by set file s over place offset =
    check 2 (same (characters file offset 3 9) (characters file over 14 9)) ∷
    check 3 (same (characters file offset 12 8) (characters file over 23 8)) ∷
    check 4 (not s.inside || same (characters file offset 20 2) (characters file s.header 53 2)) ∷
    check 5 (same (characters file offset 22 15) (characters file s.item place 15)) ∷
    check 7 (signed set s.signature (characters file offset 53 16)) ∷
    check 8 (signed set s.signature (characters file offset 69 16)) ∷
    []

pub links-by : (set : CharacterSet) (file : List ℕ) (s : Standing) (over place offset : ℕ) → over ≡ cond s.inside s.header s.heading
    → place ≡ cond (eqb s.holder 61) 63 58 → view_links set file s offset ≡ links_by set file s over place offset
links-by set file s over place offset e q =
    rw (
      e,
      q,
      header-over s.inside file s.header s.heading 14 9,
      header-over s.inside file s.header s.heading 23 8,
      sequence-at (eqb s.holder 61) (eqb s.holder 31) file s.item,
    )
