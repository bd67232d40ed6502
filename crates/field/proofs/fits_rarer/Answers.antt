use Rattle.field.proofs.fits_rarer.Goals as goal

pub returns : goal.returns
returns c = simp (c.is_dashed_at.ensures, c.is_dashed_at-2.ensures, c.is_blanked.ensures, c.is_nonfinancial.ensures)
