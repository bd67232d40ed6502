use Prim.Native.Nat.{◌+◌, ◌-◌}
use mathlib.Core.Path.{◌≡◌, ◌∙◌}
use native.Mathlib.Omega.{arith}
use native.Mathlib.Nat.{sub-zero}
use lib.Dec.{ltb}
use Rattle.tiff_directory.specs.Entries.{entries_from}
use Rattle.tiff.specs.Image.{disordered}
use Rattle.tiff.proofs.Laws.{lowest-all, low_small, lowest_step}
use borrow.Author.Rules.{rules}
use Rattle.tiff.proofs.Directory.lowest_disordered.Goals as goal

pub loop-init : goal.loop-init
loop-init c =
    let d = c.args.self in
    (omega arith, search rules, rw sub-zero (lowest-all (disordered (entries_from d.image.now d.count d.first))))

pub loop-preserved : goal.loop-preserved
loop-preserved c =
    let d = c.args.self in
    let left = d.count - (c.loop.counter - 1) in
    let fewer : d.count - (c.loop.counter + 1 - 1) ≡ left - 1 = omega arith in
    let before = c.entry_here-before in
    let e = c.entry_behind-e in (
      omega arith,
      rw c.lowest_with-low.ensures (low_small (ltb before.result.tag e.result.tag) c.loop.low e.result.tag c.loop.invariant.1),
      rw (c.lowest_with-low.ensures, fewer) (lowest_step d.image.now c.loop.low c.loop.at left (omega arith) before.result e.result before.ensures e.ensures ∙ c.loop.invariant.2),
    )
