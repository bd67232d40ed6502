use mathlib.Core.Bool.{true}
use mathlib.Core.Path.{◌≡◌, sym, ap, subst, ◌∙◌}
use native.Mathlib.Omega.{arith}
use Prim.Native.Nat.{suc}
use lib.IntN.{ℤ, pos, negsuc, nat_abs, ◌-ℤ◌}
use lib.Signed.{lt_z, mag}
use mir.Syntax.{w64}
use mir.Val.{SFits, to_z, of_z}
use mir.ValLaws.{to_z-of_z}
use Rattle.net.proofs.Laws.{net-pos}
use Rattle.net.proofs.Signed.{below, above, unsigned}
use Rattle.net.proofs.magnitude.Goals as goal

-- `net::magnitude` meets its contract. Below zero, -1 minus the number is its distance from -1, which an i64 holds; a number that is not below zero is its own.
-- Assumes nothing.
turned : (z : ℤ) → SFits w64 z → lt_z (to_z w64 (of_z w64 z)) (pos 0) ≡ true → negsuc 0 -ℤ to_z w64 (of_z w64 z) ≡ pos (mag z)
turned z f e =
    ap (λ (y : ℤ). negsuc 0 -ℤ y) (to_z-of_z w64 z f ∙ below z f (mag z) (ap mag (sym (to_z-of_z w64 z f))) e) ∙ net-pos (mag z) (suc (mag z)) 1 (omega arith)

pub overflow_sub-result : goal.overflow_sub-result
overflow_sub-result c =
    subst (SFits w64) (sym (turned c.args.net c.ranges.net c.if-net-lt0.true)) (record { sfits = c.ranges.net.sfits })

pub overflow_cast-result-2 : goal.overflow_cast-result-2
overflow_cast-result-2 c =
    let z = c.args.net in
    unsigned _ (mag z) (to_z-of_z w64 z c.ranges.net ∙ above z c.ranges.net (mag z) (ap mag (sym (to_z-of_z w64 z c.ranges.net))) c.if-net-lt0.false) c.ranges.net.sfits

pub returns : goal.returns
returns c =
    let z = c.args.net in
    ap nat_abs (to_z-of_z w64 z c.ranges.net ∙ above z c.ranges.net (mag z) (ap mag (sym (to_z-of_z w64 z c.ranges.net))) c.if-net-lt0.false)
