use mathlib.Core.Path.{sym, ◌∙◌}
use Rattle.picture.proofs.OfCopy.{picture-of-copy}
use Rattle.picture.proofs.find_picture.Goals as goal

pub returns : goal.returns
returns c = record {
  found = c.found_at.ensures;
  copy = λ begins. c.found_at.ensures ∙ sym (picture-of-copy c.args.file.now c.args.offset begins);
}
