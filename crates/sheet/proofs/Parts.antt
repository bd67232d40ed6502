-- Parts of a list with others stored in it, and of a list with more behind it. Assumes nothing.
use Prim.Native.Nat.{ℕ, suc, ◌+◌, ◌≤◌}
use native.Mathlib.Omega.{arith}
use mathlib.Core.List.{List, [], ◌∷◌, ◌++◌, append_assoc}
use mathlib.Core.Path.{◌≡◌, refl, sym, ap, ◌∙◌}
use lib.ListN.{length, take, drop, set, length-append, length-drop}
use lib.Seq.{sets, sets-eq, take_at, drop_at, take-set-le, drop-set-lt, length-take-le, take-append-le, drop-append-le, drop-append-add}
use Rattle.frame.specs.Frames.{part}
use Rattle.file_as_records.specs.Framed.{framed}
use Rattle.alike.proofs.Alike.{part-in-front}

-- what is stored
pub part-stored : (l : List ℕ) (i : ℕ) (vs : List ℕ) → i + length vs ≤ length l → part i (length vs) (sets l i vs) ≡ vs
part-stored l i vs h =
    ap (part i (length vs)) (sets-eq vs l i h ∙ append_assoc (take i l) vs (drop (i + length vs) l))
    ∙ ap (take (length vs)) (drop_at (take i l) (vs ++ drop (i + length vs) l) i (length-take-le i l (omega arith)))
    ∙ take_at vs (drop (i + length vs) l) (length vs) refl

-- what stands before it, and behind it
take-stored : (m : ℕ) (l : List ℕ) (i : ℕ) (vs : List ℕ) → m ≤ i → take m (sets l i vs) ≡ take m l
take-stored m l i [] h = refl
take-stored m l i (v ∷ vs) h = take-stored m (set l i v) (suc i) vs (omega arith) ∙ take-set-le m l i v h

drop-stored : (m : ℕ) (l : List ℕ) (i : ℕ) (vs : List ℕ) → i + length vs ≤ m → drop m (sets l i vs) ≡ drop m l
drop-stored m l i [] h = refl
drop-stored m l i (v ∷ vs) h = drop-stored m (set l i v) (suc i) vs (omega arith) ∙ drop-set-lt m l i v (omega arith)

module _ (l : List ℕ) (i : ℕ) (vs : List ℕ) (k size : ℕ) where
  pub part-before : k + size ≤ i → part k size (sets l i vs) ≡ part k size l
  part-before h =
      sym (part-in-front k size (k + size) (sets l i vs) (omega arith)) ∙ ap (part k size) (take-stored (k + size) l i vs h)
      ∙ part-in-front k size (k + size) l (omega arith)

  pub part-behind : i + length vs ≤ k → part k size (sets l i vs) ≡ part k size l
  part-behind h = ap (take size) (drop-stored k l i vs h)

-- a part of a list, where more comes behind the list
pub part-first : (k size : ℕ) (xs ys : List ℕ) → k + size ≤ length xs → part k size (xs ++ ys) ≡ part k size xs
part-first k size xs ys h =
    ap (take size) (drop-append-le k xs ys (omega arith)) ∙ take-append-le size (drop k xs) ys (simp length-drop (omega arith))

-- a record that is set out behind a file begins with its fixed part
pub record-begins : (file body fixed rest : List ℕ) → body ≡ fixed ++ rest → part (length file + 4) (length fixed) (file ++ framed (body ∷ [])) ≡ fixed
record-begins file body fixed rest e =
    ap (take (length fixed)) (drop-append-add file (framed (body ∷ [])) 4 ∙ ap (λ (b : List ℕ). b ++ []) e ∙ append_assoc fixed rest [])
    ∙ take_at fixed (rest ++ []) (length fixed) refl

pub record-long : (file body : List ℕ) → length (file ++ framed (body ∷ [])) ≡ length file + 4 + length body
record-long file body = omega (arith, length-append file (framed (body ∷ [])), length-append body [])
