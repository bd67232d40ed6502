use Rattle.std.proofs.Common.{sym, ◌∙◌, arith}
use Rattle.text.specs.Characters.{is_numeric}
use Rattle.text.proofs.Laws.{some-found, some-goes-on, some-ends}
use Rattle.slow_text.proofs.data_types.some_digit.Goals as goal

pub returns-then-is_numeric : goal.returns-then-is_numeric
returns-then-is_numeric c = sym (some-found (is_numeric c.args.set) c.args.s.now c.loop-x.x-index (omega arith) (sym c.is_numeric.ensures ∙ c.if-is_numeric.true)) ∙ c.loop-x.invariant

pub loop-x-preserved : goal.loop-x-preserved
loop-x-preserved c = sym (some-goes-on (is_numeric c.args.set) c.args.s.now c.loop-x.x-index (omega arith) (sym c.is_numeric.ensures ∙ c.if-is_numeric.false)) ∙ c.loop-x.invariant

pub returns : goal.returns
returns c = sym (some-ends (is_numeric c.args.set) c.args.s.now c.loop-x.x-index (omega arith)) ∙ c.loop-x.invariant
