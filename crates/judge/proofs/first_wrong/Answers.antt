use mathlib.Core.Path.{sym, ◌∙◌, ap}
use Prim.Native.Nat.{◌+◌}
use native.Mathlib.Omega.{arith}
use Rattle.judge.proofs.Laws.{wrong-here, wrong-later, wrong-none}
use Rattle.layout.specs.Fault.{as_field}
use Rattle.layout.proofs.Fault.{a-field}
use borrow.Author.Rules.{rules}
use Rattle.judge.proofs.first_wrong.Goals as goal

pub returns-then-not-line_holds : goal.returns-then-not-line_holds
returns-then-not-line_holds c =
    sym (a-field (c.loop-i.i + 1) (omega arith))
    ∙ ap as_field (sym (wrong-here c.args.set c.args.lines.now c.args.body.now (c.loop-i.i + 1) c.loop-i.i (search rules) (sym (c.line_holds.ensures (c.loop-i.i + 1)) ∙ c.if-not-line_holds.true)) ∙ c.loop-i.invariant)

pub loop-i-preserved : goal.loop-i-preserved
loop-i-preserved c =
    sym (wrong-later c.args.set c.args.lines.now c.args.body.now (c.loop-i.i + 1) c.loop-i.i (search rules) (sym (c.line_holds.ensures (c.loop-i.i + 1)) ∙ c.if-not-line_holds.false)) ∙ c.loop-i.invariant

pub returns : goal.returns
returns c =
    ap as_field (sym (wrong-none c.args.set c.args.lines.now c.args.body.now (c.loop-i.i + 1) c.loop-i.i (search rules)) ∙ c.loop-i.invariant)
