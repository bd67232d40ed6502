use mathlib.Core.Path.{◌∙◌}
use borrow.Author.Rules.{rules}
use Rattle.decimal.proofs.Laws.{put-turn, put-none}
use Rattle.decimal.proofs.put_digits.Goals as goal

pub loop-i-preserved : goal.loop-i-preserved
loop-i-preserved c = put-turn c.loop-i.out c.args.at c.loop-i.i c.loop-i.left (search rules) ∙ c.loop-i.invariant

pub returns : goal.returns
returns c = put-none c.loop-i.out c.args.at c.loop-i.i c.loop-i.left (search rules) ∙ c.loop-i.invariant
