use Rattle.std.proofs.Common.{sym, ◌∙◌, arith}
use Rattle.text.proofs.Laws.{value-goes-on, value-ends, ten-more, ten-top}
use Rattle.slow_text.proofs.numbers.value_of.Goals as goal

pub overflow_mul-value : goal.overflow_mul-value
overflow_mul-value c = omega (arith, ten-top c.loop-x.x-index (omega arith))

pub overflow_add-value : goal.overflow_add-value
overflow_add-value c = omega (arith, ten-top c.loop-x.x-index (omega arith), c.digit_of.ensures.1)

pub loop-x-preserved : goal.loop-x-preserved
loop-x-preserved c = record {
  same = rw c.digit_of.ensures.0 (sym (value-goes-on c.args.set c.loop-x.value c.args.s.now c.loop-x.x-index (omega arith)) ∙ c.loop-x.invariant.same);
  below = omega (arith, ten-more c.loop-x.x-index, c.digit_of.ensures.1);
}

pub returns : goal.returns
returns c = sym (value-ends c.args.set c.loop-x.value c.args.s.now c.loop-x.x-index (omega arith)) ∙ c.loop-x.invariant.same
