-- The tables of following types, by their pairs. Assumes nothing.
use Prim.Native.Nat.{ℕ}
use mathlib.Core.Path.{◌≡◌, ap, ◌∙◌}
use mathlib.Core.Bool.{Bool, true, ◌&&◌, and-eq-true_iff}
use mathlib.Core.List.{List, [], ◌∷◌}
use lib.Dec.{eqb}
use borrow.Author.Tests.{eqb-true}
use Rattle.text.specs.DataTypes.{every}
use Rattle.order.specs.MayFollow.{After, is_one_of, in_table}
use Rattle.order.proofs.Laws.{or-picks, among}

-- a law of a type and the one after it, at each pair of a table
abbrev pub throughout : (ℕ → ℕ → Bool) → List After → Bool
throughout law [] = true
throughout law (line ∷ lines) = every (law line.last) line.next && throughout law lines

pub listed : (law : ℕ → ℕ → Bool) (last next : ℕ) (lines : List After) → throughout law lines ≡ true → in_table lines last next ≡ true
    → law last next ≡ true
listed law last next [] h e = cc
listed law last next (line ∷ lines) h e =
    let both = (and-eq-true_iff (every (law line.last) line.next) (throughout law lines)).0 h in
    or-picks (eqb last line.last && is_one_of next line.next) (in_table lines last next) e (here both.0) (listed law last next lines both.1)
  where
    here : every (law line.last) line.next ≡ true → eqb last line.last && is_one_of next line.next ≡ true → law last next ≡ true
    here all q =
        let found = (and-eq-true_iff (eqb last line.last) (is_one_of next line.next)).0 q in
        ap (λ (t : ℕ). law t next) (eqb-true last line.last found.0) ∙ among (law line.last) next line.next all found.1
