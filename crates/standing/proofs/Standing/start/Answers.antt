use Rattle.standing.specs.Standing.{standing}
use Rattle.standing.proofs.Standing.start.Goals as goal

pub returns : goal.returns
unfolding standing
returns c = λ set file. rw (c.none.ensures, c.none-2.ensures, c.none-3.ensures)
