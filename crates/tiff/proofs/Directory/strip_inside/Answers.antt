use mathlib.Core.Path.{sym}
use Rattle.tiff.specs.Image.{strip_inside}
use Rattle.tiff.proofs.Directory.strip_inside.Goals as goal

pub returns-then-not-is_number : goal.returns-then-not-is_number
unfolding strip_inside
returns-then-not-is_number c = rw (sym c.first_with-offset.ensures.0, sym c.first_with-size.ensures.0, sym c.is_number.ensures, sym c.is_number-2.ensures, c.if-not-is_number.true)

pub returns : goal.returns
unfolding strip_inside
returns c = rw (sym c.first_with-offset.ensures.0, sym c.first_with-size.ensures.0, sym c.is_number.ensures, sym c.is_number-2.ensures, c.if-not-is_number.false, sym c.number_in.ensures.0, sym c.number_in-2.ensures.0)
