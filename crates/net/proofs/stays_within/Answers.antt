use Prim.Native.Nat.{◌-◌}
use mathlib.Core.Path.{ap, ◌∙◌}
use lib.IntN.{ℤ, pos, ◌+ℤ◌, ◌-ℤ◌}
use mir.Syntax.{w64}
use mir.ValLaws.{to_z-of_z}
use Rattle.net.specs.Net.{within}
use Rattle.net.proofs.Bounds.{stays-above, stays-below}
use Rattle.net.proofs.stays_within.Goals as goal

pub returns-then-debit-credit : goal.returns-then-debit-credit
returns-then-debit-credit c =
    let credit = c.args.credit in
    let debit = c.args.debit in
    c.rises_within.ensures ∙ ap (λ (y : ℤ). within (y +ℤ pos (credit - debit))) (to_z-of_z w64 c.args.net c.ranges.net)
    ∙ stays-above c.args.net credit debit c.if-debit-credit.true

pub returns : goal.returns
returns c =
    let credit = c.args.credit in
    let debit = c.args.debit in
    c.falls_within.ensures ∙ ap (λ (y : ℤ). within (y -ℤ pos (debit - credit))) (to_z-of_z w64 c.args.net c.ranges.net)
    ∙ stays-below c.args.net credit debit c.if-debit-credit.false
