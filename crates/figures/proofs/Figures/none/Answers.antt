use Rattle.figures.proofs.Figures.none.Goals as goal

pub returns : goal.returns
returns c = rw c.none.ensures
