use Rattle.field.proofs.one_or_two_digits.Goals as goal

pub returns : goal.returns
returns c = rw (c.all_admitted.ensures, c.some_numeric.ensures)
