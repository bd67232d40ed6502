use Prim.Native.Nat.{◌+◌}
use native.Mathlib.Omega.{arith}
use Rattle.tiff_directory.proofs.Laws.{past}
use Rattle.tiff_directory.proofs.byte_ahead.Goals as goal

pub returns-then-image-at : goal.returns-then-image-at
returns-then-image-at c = past c.args.image.now (c.args.at + c.args.ahead) (omega arith)

pub returns-then-image-at-2 : goal.returns-then-image-at-2
returns-then-image-at-2 c = past c.args.image.now (c.args.at + c.args.ahead) (omega arith)
