-- A list set down byte by byte: what is still to be set down gives the whole. Assumes nothing.
use Prim.Native.Nat.{ℕ, zero, suc, ◌+◌, ◌-◌, ◌≤◌, ◌<◌}
use mathlib.Core.Path.{◌≡◌, refl, ap, sym, ◌∙◌}
use mathlib.Core.List.{List, ◌∷◌, append_assoc}
use native.Mathlib.Numerals.{add-one}
use native.Mathlib.Nat.{add-zero}
use native.Mathlib.Omega.{arith}
use lib.ListN.{length, get_or, take, drop, set, replicate, length-set, length-take, length-drop, length-map, drop_of_length-le, get_or-map}
use lib.Seq.{sets, sets-eq, drop-cons, drop-drop, get_or-take, get_or-drop}
use borrow.Rule.Slice.PartMut.{put_mid}
use Rattle.frame.specs.Frames.{part}
use Rattle.ascii_copy.specs.CodePage037.{counterpart}
use Rattle.ascii_copy.specs.AsciiCopy.{translated}
use Rattle.copying.specs.Times.{times}

-- the first i of them, of which there are so many, stand from a place on
pub record Down (bytes out₀ : List ℕ) (size at : ℕ) (out : List ℕ) (i : ℕ) : Type 0 where
  pub within : i ≤ size
  pub long : length out ≡ length out₀
  pub onward : sets out (at + i) (drop i bytes) ≡ sets out₀ at bytes

module _ {bytes out₀ : List ℕ} {size at : ℕ} where
  pub down-none : Down bytes out₀ size at out₀ 0
  down-none = record { within = omega arith; long = refl; onward = rw (add-zero at) }

  module _ {out : List ℕ} {i : ℕ} (sized : length bytes ≡ size) (down : Down bytes out₀ size at out i) where
    pub down-one : i < size → (x : ℕ) → x ≡ get_or bytes i 0 → Down bytes out₀ size at (set out (at + i) x) (i + 1)
    down-one h x e =
        let place : at + (i + 1) ≡ suc (at + i) = omega arith in
        record {
          within = omega arith;
          long = length-set out (at + i) x ∙ down.long;
          onward = rw (place, add-one i, e) (rw (drop-cons bytes i 0 (omega arith)) at down.onward);
        }

    pub down-all : size ≤ i → out ≡ sets out₀ at bytes
    down-all h = rw (drop_of_length-le bytes {i = i} (omega arith)) at down.onward

-- the lists that are set down: a part, its characters in ASCII, one byte many times
module _ (text : List ℕ) (from size : ℕ) (fits : from + size ≤ length text) where
  pub length_part : length (part from size text) ≡ size
  length_part = simp (length-take, length-drop) (omega arith)

  pub part_at : (i : ℕ) → i < size → get_or text (from + i) 0 ≡ get_or (part from size text) i 0
  part_at i h = rw (get_or-take size (drop from text) i 0 h, get_or-drop from text i 0)

  pub length-translated : length (translated (part from size text)) ≡ size
  length-translated = length-map (part from size text) counterpart ∙ length_part

  pub translated-at : (i : ℕ) → i < size → counterpart (get_or text (from + i) 0) ≡ get_or (translated (part from size text)) i 0
  unfolding counterpart
  translated-at i h = ap counterpart (part_at i h) ∙ sym (get_or-map counterpart (part from size text) i 0)

pub length-times : (n x : ℕ) → length (times n x) ≡ n
length-times zero x = refl
length-times (suc n) x = ap suc (length-times n x)

pub times-at : (n x i : ℕ) → i < n → x ≡ get_or (times n x) i 0
times-at zero x i h = absurd (omega arith)
times-at (suc n) x zero h = refl
times-at (suc n) x (suc i) h = times-at n x i (omega arith)

-- one byte many times, as the library writes it
pub times-are : (n x : ℕ) → times n x ≡ replicate n x
times-are zero x = refl
times-are (suc n) x = ap (λ xs. x ∷ xs) (times-are n x)

-- a part of a list that is written as a whole
pub put-part : (out bytes ys : List ℕ) (at size : ℕ) → at + size ≤ length out → length bytes ≡ size → ys ≡ bytes
    → put_mid at (at + size - at) out ys ≡ sets out at bytes
put-part out bytes ys at size fits sized e =
    let same : at + size - at ≡ length bytes = omega arith in
    rw (e, same, drop-drop (length bytes) at out, ← append_assoc (take at out) bytes (drop (at + length bytes) out)) (sym (sets-eq bytes out at (omega arith)))
