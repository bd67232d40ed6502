use mathlib.Core.Path.{sym, ◌∙◌, ap}
use Rattle.picture.specs.Picture.{bytes_of}
use Rattle.picture.proofs.BytesOfCopy.{bytes-of-copy}
use Rattle.picture.proofs.picture.Goals as goal

pub returns-in-Ok-clause-copy : goal.returns-in-Ok-clause-copy
returns-in-Ok-clause-copy c begins =
    c.part_of.ensures ∙ ap (bytes_of c.args.file.now) (sym c.in-Ok.is ∙ c.found_at.ensures) ∙ sym (bytes-of-copy c.args.file.now c.args.offset begins)

pub returns-in-Err-clause-copy : goal.returns-in-Err-clause-copy
returns-in-Err-clause-copy c begins =
    ap (bytes_of c.args.file.now) (sym c.in-Err.is ∙ c.found_at.ensures) ∙ sym (bytes-of-copy c.args.file.now c.args.offset begins)
