-- What the picture call finds, on plain values. Assumes nothing.
use mathlib.Core.Path.{◌≡◌, refl}
use mathlib.Core.List.{List}
use Prim.Native.Nat.{ℕ, ◌+◌, ◌≤◌}
use native.Mathlib.Omega.{arith}
use lib.ListN.{length, drop, length-take}
use Rattle.frame.specs.Frames.{part, frame_at}
use Rattle.frame.specs.Frames.{Whole}
use Rattle.frame.proofs.Laws.{whole-within}
use Rattle.std.specs.Prelude.{Ok, Err}
use Rattle.picture.specs.Picture.{Found, start_of, size_of, bytes_of}

-- a body that a frame gives lies within the file, which is within the limit
pub body-fits : (file : List ℕ) (offset start size : ℕ) → frame_at file offset ≡ Whole start size → length file ≤ 268_435_456
    → start + length (part start size file) ≤ 268_435_456
body-fits file offset start size e limit = omega (arith, whole-within file offset start size e, length-take size (drop start file))

-- the part that an answer names is the one that it hands back: refused, the part from 0 of 0 bytes
pub part-found : (file : List ℕ) (found : Found) → part (start_of found) (size_of found) file ≡ bytes_of file found
part-found file (Ok p) = refl
part-found file (Err u) = refl
