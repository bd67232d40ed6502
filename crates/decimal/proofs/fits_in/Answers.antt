use mathlib.Core.Path.{◌∙◌}
use borrow.Author.Rules.{rules}
use Rattle.decimal.proofs.Laws.{fits-turn, fits-none}
use Rattle.decimal.proofs.fits_in.Goals as goal

pub loop-preserved : goal.loop-preserved
loop-preserved c = fits-turn c.args.size c.loop.counter c.loop.left (search rules) ∙ c.loop.invariant

pub returns : goal.returns
returns c = fits-none c.args.size c.loop.counter c.loop.left (search rules) ∙ c.loop.invariant
