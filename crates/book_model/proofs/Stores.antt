-- What stands in a list after a run of stores. Assumes nothing.
use Prim.Native.Nat.{ℕ, zero, suc, ◌+◌, ◌≤◌, ◌<◌}
use native.Mathlib.Omega.{arith}
use mathlib.Core.Path.{◌≡◌, refl, sym, ap, ◌∙◌}
use mathlib.Core.List.{List, [], ◌∷◌, ◌++◌}
use lib.ListN.{length, get_or, set, length-set}
use lib.Seq.{sets, get_or-set_same, get_or-set_other}

none_more : (n : ℕ) → n + 0 ≡ n
none_more n = omega arith

one_further : (m n : ℕ) → m + suc n ≡ suc m + n
one_further m n = omega arith

-- before the run, and behind it
pub stored-before : (vs l : List ℕ) (i k : ℕ) → k < i → get_or (sets l i vs) k 0 ≡ get_or l k 0
stored-before [] l i k h = refl
stored-before (v ∷ vs) l i k h = stored-before vs (set l i v) (suc i) k (omega arith) ∙ get_or-set_other l i k v 0 (λ e. omega arith)

pub stored-behind : (vs l : List ℕ) (i k : ℕ) → i + length vs ≤ k → get_or (sets l i vs) k 0 ≡ get_or l k 0
stored-behind [] l i k h = refl
stored-behind (v ∷ vs) l i k h = stored-behind vs (set l i v) (suc i) k (omega arith) ∙ get_or-set_other l i k v 0 (λ e. omega arith)

-- within it
pub stored-first : (v : ℕ) (vs l : List ℕ) (i : ℕ) → i + length (v ∷ vs) ≤ length l → get_or (sets l i (v ∷ vs)) i 0 ≡ v
stored-first v vs l i h = stored-before vs (set l i v) (suc i) i (omega arith) ∙ get_or-set_same l i v 0 (omega arith)

pub stored-in : (vs l : List ℕ) (i j : ℕ) → i + length vs ≤ length l → j < length vs → get_or (sets l i vs) (i + j) 0 ≡ get_or vs j 0
stored-in [] l i j h b = absurd (omega arith)
stored-in (v ∷ vs) l i zero h b = ap (λ (k : ℕ). get_or (sets (set l i v) (suc i) vs) k 0) (none_more i) ∙ stored-first v vs l i h
stored-in (v ∷ vs) l i (suc j) h b =
    ap (λ (k : ℕ). get_or (sets (set l i v) (suc i) vs) k 0) (one_further i j)
    ∙ stored-in vs (set l i v) (suc i) j (omega (arith, length-set l i v)) (omega arith)

-- a run of stores in two parts
pub stored-apart : (us vs l : List ℕ) (i : ℕ) → sets l i (us ++ vs) ≡ sets (sets l i us) (i + length us) vs
stored-apart [] vs l i = ap (λ (k : ℕ). sets l k vs) (sym (none_more i))
stored-apart (u ∷ us) vs l i =
    stored-apart us vs (set l i u) (suc i) ∙ ap (λ (k : ℕ). sets (sets (set l i u) (suc i) us) k vs) (sym (one_further i (length us)))
