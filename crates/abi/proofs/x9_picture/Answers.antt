use mathlib.Core.Path.{sym}
use Rattle.abi.proofs.x9_picture.Goals as goal

pub returns : goal.returns
returns c = record { number = rw (sym c.find_picture-found.ensures.found) c.number-number.ensures; place = rw (sym c.find_picture-found.ensures.found, c.number-number.ensures, c.field-field.ensures, c.start-start.ensures, c.size-size.ensures) }
