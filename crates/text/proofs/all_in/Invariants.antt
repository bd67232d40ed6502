use Prim.Native.Nat.{◌≤◌}
use mathlib.Core.Path.{◌≡◌}
use mathlib.Core.Bool.{◌&&◌}
use lib.ListN.{length, drop}
use Rattle.text.specs.DataTypes.{every, admits}
use Rattle.text.proofs.all_in.Given as goal

abbrev pub invariant-loop-x : goal.invariant-loop-x
invariant-loop-x g l = (l.x-index ≤ length l.s) × (l.all && every (admits g.S.Charset.set l.t) (drop l.x-index l.s) ≡ every (admits g.S.Charset.set l.t) l.s)
