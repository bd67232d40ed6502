use Rattle.std.proofs.Common.{arith}
use Rattle.std.proofs.lemmas.Grind.{common_steps}
use Rattle.slow_text.proofs.Laws.{blank-turn, blank-ends, end_taken}
use Rattle.slow_text.proofs.data_types.blank_within_digits.Goals as goal

pub returns-then-some_digit : goal.returns-then-some_digit
returns-then-some_digit c = grind (arith, common_steps, blank-turn, end_taken)

pub loop-i-preserved : goal.loop-i-preserved
loop-i-preserved c = grind (arith, common_steps, blank-turn, end_taken)

pub returns : goal.returns
returns c = grind (arith, common_steps, blank-ends)
