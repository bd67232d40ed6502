use Prim.Native.Nat.{◌+◌, ◌-◌, ◌<◌}
use mathlib.Core.Path.{◌≡◌, ap, sym, ◌∙◌}
use native.Mathlib.Omega.{arith}
use lib.ListN.{length, get_or, take, drop}
use Rattle.frame.specs.Frames.{part}
use Rattle.ascii_copy.specs.CodePage037.{counterpart}
use Rattle.copying.proofs.Laws.{down-one, length-translated, part_at, translated-at, length_part}
use Rattle.copying.proofs.translate_bytes.Goals as goal

pub loop-i-preserved : goal.loop-i-preserved
loop-i-preserved c =
    let text = c.args.text.now in
    let from = c.args.from in
    let size = c.args.size in
    let same : from + size - from ≡ size = omega arith in
    let part_more : c.loop-i.i < length (part from size text) = rw (← same) c.loop-i-test.true in
    let long = length_part text from size c.requires.0 in
    let more : c.loop-i.i < size = omega arith in
    down-one (length-translated text from size c.requires.0) c.loop-i.invariant more _
    (c.counterpart_of.ensures ∙ ap (λ n. counterpart (get_or (take n (drop from text)) c.loop-i.i 0)) same
    ∙ ap counterpart (sym (part_at text from size c.requires.0 c.loop-i.i more)) ∙ translated-at text from size c.requires.0 c.loop-i.i more)
