use mathlib.Core.Path.{sym}
use Rattle.abi.proofs.x9_tiff.Goals as goal

pub returns : goal.returns
returns c = record { number = rw (sym c.judge_tags-tags.ensures) c.number-number.ensures; answer = rw (sym c.judge_tags-tags.ensures, c.number-number.ensures, c.tag-tag.ensures) }
