-- Parts of a list, and the cases of a frame. Assumes nothing.
use mathlib.Core.Path.{◌≡◌, refl, ap, sym, ◌∙◌}
use mathlib.Core.List.{List, []}
use Prim.Native.Nat.{ℕ, ◌+◌, ◌-◌, ◌≤◌, ◌<◌}
use native.Mathlib.Nat.{add-sub_cancel_left}
use native.Mathlib.Omega.{arith}
use borrow.Author.Tests.{le-leb, lt-leb, leb-true}
use lib.Dec.{leb}
use mathlib.Core.Bool.{Bool, true, false}
use lib.ListN.{length, take, drop, drop_of_length-le, length-drop}
use lib.Seq.{take_all, take-nil}
use Rattle.std.specs.Prelude.{Some, None}
use Rattle.frame.specs.Frames.{Frame, part, length_at, frame_at, Cut, Whole}
use Rattle.frame.specs.Unless.{unless}

module _ (xs : List ℕ) (start size : ℕ) where
  -- nothing stands past the end
  pub part-outside : length xs ≤ start → part start size xs ≡ []
  part-outside h = ap (take size) (drop_of_length-le xs h) ∙ take-nil size

  -- the part to the end is all that is left
  pub part-tail : length xs - start ≤ size → take (length xs - start) (drop start xs) ≡ part start size xs
  part-tail h =
      take_all (length xs - start) (drop start xs) (omega (arith, length-drop start xs))
      ∙ sym (take_all size (drop start xs) (omega (arith, length-drop start xs)))

  pub part-whole : take (start + size - start) (drop start xs) ≡ part start size xs
  part-whole = ap (λ (n : ℕ). take n (drop start xs)) (add-sub_cancel_left start size)

pub rest-whole : (xs : List ℕ) (start : ℕ) → take (length xs - start) (drop start xs) ≡ drop start xs
rest-whole xs start = take_all (length xs - start) (drop start xs) (omega (arith, length-drop start xs))

module _ (file : List ℕ) (offset : ℕ) where
  pub cut-length : length file < offset + 4 → frame_at file offset ≡ Cut
  unfolding frame_at
  cut-length h = rw (lt-leb _ _ h)

  pub cut-body : offset + 4 ≤ length file → length file < offset + 4 + length_at file offset → frame_at file offset ≡ Cut
  unfolding frame_at
  cut-body h l = rw (le-leb _ _ h, lt-leb _ _ l)

  pub whole : offset + 4 + length_at file offset ≤ length file → frame_at file offset ≡ Whole (offset + 4) (length_at file offset)
  unfolding frame_at
  whole l = rw (le-leb (offset + 4) (length file) (omega arith), le-leb _ _ l)

start_in : Frame → ℕ
start_in (Some x) = x.start
start_in None = 0

size_in : Frame → ℕ
size_in (Some x) = x.size
size_in None = 0

-- a frame has one start and one size
pub whole-alike : {start size s n : ℕ} → Whole start size ≡ Whole s n → (start ≡ s) × (size ≡ n)
unfolding start_in size_in
whole-alike e = (ap start_in e, ap size_in e)

both-tests : (t u : Bool) {start size s n : ℕ} → unless t Cut (unless u Cut (Whole start size)) ≡ Whole s n
    → (u ≡ true) × (start ≡ s) × (size ≡ n)
both-tests true true e = let w = whole-alike e in (refl, w.0, w.1)
both-tests true false e = ((cc), (cc), (cc))
both-tests false u e = ((cc), (cc), (cc))

-- a whole frame lies within the file
pub whole-within : (file : List ℕ) (offset start size : ℕ) → frame_at file offset ≡ Whole start size → start + size ≤ length file
unfolding frame_at
whole-within file offset start size e =
    let tests = both-tests (leb (offset + 4) (length file)) (leb (offset + 4 + length_at file offset) (length file)) e in
    omega (arith, leb-true (offset + 4 + length_at file offset) (length file) tests.0, tests.1, tests.2)

-- and its body starts behind the length
pub whole-start : (file : List ℕ) (offset start size : ℕ) → frame_at file offset ≡ Whole start size → start ≡ offset + 4
unfolding frame_at
whole-start file offset start size e =
    let tests = both-tests (leb (offset + 4) (length file)) (leb (offset + 4 + length_at file offset) (length file)) e in
    sym tests.1

-- which is as long as the length says
pub whole-size : (file : List ℕ) (offset start size : ℕ) → frame_at file offset ≡ Whole start size → length_at file offset ≡ size
unfolding frame_at
whole-size file offset start size e =
    let tests = both-tests (leb (offset + 4) (length file)) (leb (offset + 4 + length_at file offset) (length file)) e in
    tests.2
