-- Numbers copied or filled in, as a run of stores. Assumes nothing.
use Prim.Native.Nat.{ℕ, zero, suc, ◌+◌, ◌-◌, ◌≤◌}
use native.Mathlib.Omega.{arith}
use mathlib.Core.List.{List, ◌∷◌, ◌++◌}
use mathlib.Core.Path.{◌≡◌, refl, sym, ap, ◌∙◌}
use lib.ListN.{length, take, drop, replicate}
use lib.Seq.{sets, sets-eq, paste, take-length}
use Rattle.frame.specs.Frames.{part}
use Rattle.copying.specs.Times.{times}
use Rattle.copying.proofs.Laws.{length_part}

-- a part of the numbers, copied
pub copied : (l : List ℕ) (from to many : ℕ) → from + many ≤ length l → to ≤ from
    → paste l to (drop from l) (from + many - from) ≡ sets l to (part from many l)
copied l from to many h b =
    let row = part from many l in
    let long : length row ≡ many = length_part l from many h in
    let size : from + many - from ≡ many = omega arith in
    rw size
    (ap (λ (n : ℕ). (take to l ++ row) ++ drop (to + n) l) (sym long)
    ∙ sym (sets-eq row l to (omega (arith, long))))

-- other numbers, copied there
pub pasted : (l vs : List ℕ) (at : ℕ) → at + length vs ≤ length l → paste l at vs (length vs) ≡ sets l at vs
pasted l vs at h = ap (λ (ws : List ℕ). (take at l ++ ws) ++ drop (at + length vs) l) (take-length vs) ∙ sym (sets-eq vs l at h)

pub filled : (n x : ℕ) → replicate n x ≡ times n x
filled zero x = refl
filled (suc n) x = ap (λ (l : List ℕ). x ∷ l) (filled n x)
