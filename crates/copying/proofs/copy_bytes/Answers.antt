use Prim.Native.Nat.{◌+◌, ◌-◌, ◌<◌}
use mathlib.Core.Path.{◌≡◌, ap}
use native.Mathlib.Omega.{arith}
use lib.ListN.{length, get_or, take, drop}
use Rattle.frame.specs.Frames.{part}
use Rattle.copying.proofs.Laws.{down-one, length_part}
use Rattle.copying.proofs.copy_bytes.Goals as goal

pub loop-i-preserved : goal.loop-i-preserved
loop-i-preserved c =
    let text = c.args.text.now in
    let from = c.args.from in
    let size = c.args.size in
    let same : from + size - from ≡ size = omega arith in
    let part_more : c.loop-i.i < length (part from size text) = rw (← same) c.loop-i-test.true in
    let long = length_part text from size c.requires.0 in
    let more : c.loop-i.i < size = omega arith in
    down-one long c.loop-i.invariant more _
    (ap (λ n. get_or (take n (drop from text)) c.loop-i.i 0) same)
