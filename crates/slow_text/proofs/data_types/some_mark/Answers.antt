use Rattle.std.proofs.Common.{sym, ◌∙◌, arith}
use Rattle.text.specs.DataTypes.{is_mark}
use Rattle.text.proofs.Laws.{some-found, some-goes-on, some-ends}
use Rattle.slow_text.proofs.data_types.some_mark.Goals as goal

pub returns-then-is_mark : goal.returns-then-is_mark
returns-then-is_mark c = sym (some-found (is_mark c.args.set c.args.t) c.args.s.now c.loop-x.x-index (omega arith) (sym c.is_mark.ensures ∙ c.if-is_mark.true)) ∙ c.loop-x.invariant

pub loop-x-preserved : goal.loop-x-preserved
loop-x-preserved c = sym (some-goes-on (is_mark c.args.set c.args.t) c.args.s.now c.loop-x.x-index (omega arith) (sym c.is_mark.ensures ∙ c.if-is_mark.false)) ∙ c.loop-x.invariant

pub returns : goal.returns
returns c = sym (some-ends (is_mark c.args.set c.args.t) c.args.s.now c.loop-x.x-index (omega arith)) ∙ c.loop-x.invariant
