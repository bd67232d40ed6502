-- A length and its four bytes, and that no two lists of records are the same bytes. Assumes nothing.
use Prim.Native.Nat.{ℕ, ◌+◌, ◌*◌, ◌/◌, ◌%◌, ◌≤◌, ◌<◌}
use native.Mathlib.Nat.{div-div-eq-div-mul}
use native.Mathlib.Omega.{arith}
use mathlib.Core.Path.{◌≡◌, refl, sym, ap, ap₂, ◌∙◌}
use mathlib.Core.List.{List, [], ◌∷◌, ◌++◌}
use lib.ListN.{length, get_or, take, drop, length-append}
use lib.Seq.{take-append_seam, drop-append_seam, take_at, drop_at}
use Rattle.frame.specs.Frames.{length_in}
use Rattle.file_as_records.specs.Framed.{Body, length_field, framed}

abbrev pub Bytes : List ℕ → Type 0
Bytes f = (i : ℕ) → get_or f i 0 < 256

-- a length and its four bytes
pub length-read : (n : ℕ) (xs : List ℕ) → n < 0x1_0000_0000 → length_in (length_field n ++ xs) ≡ n
length-read n xs h =
    let e₁ : n / 0x100 ≡ n / 0x1_0000 * 0x100 + n / 0x100 % 0x100 = omega (arith, div-div-eq-div-mul n 0x100 0x100) in
    let e₂ : n / 0x1_0000 ≡ n / 0x100_0000 * 0x100 + n / 0x1_0000 % 0x100 = omega (arith, div-div-eq-div-mul n 0x1_0000 0x100) in
    let e₃ : n / 0x100_0000 % 0x100 ≡ n / 0x100_0000 = omega arith in
    omega arith

length-written : (a b c d : ℕ) → a < 256 → b < 256 → c < 256 → d < 256
    → length_field (a * 0x100_0000 + b * 0x1_0000 + c * 0x100 + d) ≡ a ∷ b ∷ c ∷ d ∷ []
length-written a b c d ha hb hc hd =
    let n = a * 0x100_0000 + b * 0x1_0000 + c * 0x100 + d in
    let ea : n / 0x100_0000 % 0x100 ≡ a = omega arith in
    let eb : n / 0x1_0000 % 0x100 ≡ b = omega arith in
    let ec : n / 0x100 % 0x100 ≡ c = omega arith in
    let ed : n % 0x100 ≡ d = omega arith in
    cc

pub length_cut : (xs : List ℕ) → Bytes xs → 4 ≤ length xs → xs ≡ length_field (length_in xs) ++ drop 4 xs
length_cut [] h l = absurd (omega arith)
length_cut (a ∷ []) h l = absurd (omega arith)
length_cut (a ∷ b ∷ []) h l = absurd (omega arith)
length_cut (a ∷ b ∷ c ∷ []) h l = absurd (omega arith)
length_cut (a ∷ b ∷ c ∷ d ∷ xs) h l = ap (λ (x : List ℕ). x ++ xs) (sym (length-written a b c d (h 0) (h 1) (h 2) (h 3)))

-- no two lists of records are the same bytes
pub one-framing : (bs cs : List Body) → framed bs ≡ framed cs → length (framed bs) ≤ 268_435_456 → bs ≡ cs
one-framing [] [] e l = refl
one-framing [] (c ∷ cs) e l = let z = ap length e in absurd (omega arith)
one-framing (b ∷ bs) [] e l = let z = ap length e in absurd (omega arith)
one-framing (b ∷ bs) (c ∷ cs) e l =
    let z = ap length e in
    let lb : length b + length (framed bs) ≤ 268_435_452 = omega (arith, length-append b (framed bs)) in
    let lc : length c ≤ 268_435_452 = omega (arith, length-append b (framed bs), length-append c (framed cs)) in
    let same : length b ≡ length c =
    sym (length-read (length b) (b ++ framed bs) (omega arith)) ∙ ap length_in e ∙ length-read (length c) (c ++ framed cs) (omega arith) in
    let rest : b ++ framed bs ≡ c ++ framed cs = ap (drop 4) e in
    ap₂ (λ (x : Body) (y : List Body). x ∷ y)
    (sym (take-append_seam b (framed bs)) ∙ ap (take (length b)) rest ∙ take_at c (framed cs) (length b) (sym same))
    (one-framing bs cs
    (sym (drop-append_seam b (framed bs)) ∙ ap (drop (length b)) rest ∙ drop_at c (framed cs) (length b) (sym same)) (omega arith))
