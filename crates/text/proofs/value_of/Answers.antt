use native.Mathlib.Omega.{arith}
use Rattle.text.proofs.Laws.{ten-top}
use Rattle.text.proofs.value_of.Goals as goal

pub overflow_mul-value : goal.overflow_mul-value
overflow_mul-value c = omega (arith, ten-top c.loop-x.x-index (omega arith))

pub overflow_add-value : goal.overflow_add-value
overflow_add-value c = omega (arith, ten-top c.loop-x.x-index (omega arith), c.digit_of.ensures.1)
