use Rattle.field.proofs.number_within.Goals as goal

pub returns : goal.returns
returns c = rw (c.all_numeric.ensures, c.number_in-n.ensures)
