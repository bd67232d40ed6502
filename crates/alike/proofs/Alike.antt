-- Records that stand in two files alike, each file read in its own character set: their fields, and what is read of them. How the bytes
-- are alike is a relation, of which a few laws are asked. Assumes nothing.
use Prim.Native.Nat.{ℕ, zero, suc, ◌+◌, ◌-◌, ◌≤◌}
use native.Mathlib.Omega.{arith}
use mathlib.Core.Path.{◌≡◌, refl, ap, ◌∙◌, subst}
use mathlib.Core.Bool.{Bool, true, false, ◌&&◌, cond}
use mathlib.Core.List.{List, [], ◌∷◌}
use lib.Dec.{leb, eqb}
use lib.ListN.{take, drop, get_or}
use lib.Seq.{take-take, drop-drop}
use borrow.Author.Tests.{leb-true, eqb-true}
use Rattle.text.specs.declared.character_set.CharacterSet.{CharacterSet}
use Rattle.text.specs.Characters.{is_blank}
use Rattle.text.specs.Capitals.{capital}
use Rattle.text.specs.DataTypes.{every}
use Rattle.text.specs.Number.{number}
use Rattle.layout.specs.Layout.{Line, Layout}
use Rattle.standing.specs.History.{Entry, characters, field_in, field}
use Rattle.agree.specs.Links.{same}
use Rattle.ascii_copy.proofs.SoundCharacters.{width_of}

-- what is asked of bytes xs, read in one set, and ys, read in another, that are alike
pub record Law (set set' : CharacterSet) (R : List ℕ → List ℕ → Type 0) : Type 0 where
  pub part : (k size : ℕ) {xs ys : List ℕ} → R xs ys → R (take size (drop k xs)) (take size (drop k ys))
  pub nothing : R [] []
  pub numbers : {xs ys : List ℕ} → R xs ys → number set' ys ≡ number set xs
  pub blanks : {xs ys : List ℕ} → R xs ys → every (is_blank set') ys ≡ every (is_blank set) xs
  pub capitals : {xs ys : List ℕ} → R xs ys → capital set' (get_or ys 0 0) ≡ capital set (get_or xs 0 0)
  pub compared : {xs ys vs ws : List ℕ} → R xs ys → R vs ws → same ys ws ≡ same xs vs

-- the first bytes of a record, at an offset of the one file and at an offset of the other
pub record AlikeAt (R : List ℕ → List ℕ → Type 0) (file other : List ℕ) (offset offset' width : ℕ) : Type 0 where
  pub same : R (take width (drop (offset + 4) file)) (take width (drop (offset' + 4) other))

-- every record read so far, at the same offset
abbrev pub AlikePast : (List ℕ → List ℕ → Type 0) → List ℕ → List ℕ → List Entry → Type 0
AlikePast R file other [] = Unit {0}
AlikePast R file other (r ∷ rs) = AlikeAt R file other r.offset r.offset (width_of r.type) × AlikePast R file other rs

-- a part of the first bytes
pub part-in-front : (k size w : ℕ) (xs : List ℕ) → k + size ≤ w → take size (drop k (take w xs)) ≡ take size (drop k xs)
part-in-front zero size w xs h = take-take size w xs (omega arith)
part-in-front (suc k) size zero xs h = absurd (omega arith)
part-in-front (suc k) size (suc w) [] h = refl
part-in-front (suc k) size (suc w) (x ∷ xs) h = part-in-front k size w xs (omega arith)

-- field n of a kind, where it lies within what is alike
abbrev pub reaches : List Line → ℕ → ℕ → Bool
reaches [] n w = true
reaches (l ∷ ls) n w = cond (eqb l.number n) (leb (l.first - 1 + l.size) w) (reaches ls n w)

-- where a record's type is known, so is its width
pub as-type : (t k : ℕ) {R : List ℕ → List ℕ → Type 0} {file other : List ℕ} {o o' : ℕ} → AlikeAt R file other o o' (width_of t) → eqb t k ≡ true
    → AlikeAt R file other o o' (width_of k)
as-type t k {R} {file} {other} {o} {o'} a e = subst (λ (u : ℕ). AlikeAt R file other o o' (width_of u)) (eqb-true t k e) a

module _ {set set' : CharacterSet} {R : List ℕ → List ℕ → Type 0} (law : Law set set' R) where
  pub chosen : (b : Bool) {xs ys vs ws : List ℕ} → R xs ys → R vs ws → R (cond b xs vs) (cond b ys ws)
  chosen true c d = c
  chosen false c d = d

  module _ {file other : List ℕ} {o o' w : ℕ} (a : AlikeAt R file other o o' w) where
    pub narrower : (v : ℕ) → v ≤ w → AlikeAt R file other o o' v
    narrower v h = record { same = rw (take-take v w (drop (o + 4) file) h, take-take v w (drop (o' + 4) other) h) at (law.part 0 v a.same) }

    characters-alike : (first size : ℕ) → first - 1 + size ≤ w → R (characters file o first size) (characters other o' first size)
    characters-alike first size h =
        let front : (p : ℕ) (xs : List ℕ) → take size (drop (first - 1) (take w (drop (p + 4) xs))) ≡ characters xs p first size =
        λ p xs. part-in-front (first - 1) size w (drop (p + 4) xs) h ∙ ap (take size) (drop-drop (first - 1) (p + 4) xs) in
        rw (front o file, front o' other) at (law.part (first - 1) size a.same)

    field-in-alike : (ls : List Line) (n : ℕ) → reaches ls n w ≡ true → R (field_in ls n file o) (field_in ls n other o')
    field-in-alike [] n e = law.nothing
    field-in-alike (l ∷ ls) n e = by (eqb l.number n) e (field-in-alike ls n)
      where
        by : (b : Bool) → cond b (leb (l.first - 1 + l.size) w) (reaches ls n w) ≡ true
            → (reaches ls n w ≡ true → R (field_in ls n file o) (field_in ls n other o'))
            → R (cond b (characters file o l.first l.size) (field_in ls n file o)) (cond b (characters other o' l.first l.size) (field_in ls n other o'))
        by true q others = characters-alike l.first l.size (leb-true (l.first - 1 + l.size) w q)
        by false q others = others q

    pub field_alike : (k : Layout) (n : ℕ) → reaches k.lines n w ≡ true → R (field k n file o) (field k n other o')
    field_alike k n e = field-in-alike k.lines n e

    pub number-alike : (k : Layout) (n : ℕ) → reaches k.lines n w ≡ true → number set' (field k n other o') ≡ number set (field k n file o)
    number-alike k n e = law.numbers (field_alike k n e)

-- what a test chooses
pub cond-alike : {A : Type 0} (b : Bool) {x x' y y' : A} → (b ≡ true → x ≡ x') → (b ≡ false → y ≡ y') → cond b x y ≡ cond b x' y'
cond-alike true p q = p refl
cond-alike false p q = q refl

pub and_alike : (b : Bool) {x x' : Bool} → (b ≡ true → x ≡ x') → b && x ≡ b && x'
and_alike true p = p refl
and_alike false p = refl
