use borrow.Author.Rules.{rules}
use Rattle.figures.specs.Figures.{covers}
use Rattle.figures.proofs.Figures.holds.Goals as goal

pub returns : goal.returns
unfolding covers
returns c = search rules
