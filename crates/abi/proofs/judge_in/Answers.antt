use mathlib.Core.Path.{sym}
use Rattle.abi.proofs.judge_in.Goals as goal

pub returns : goal.returns
returns c = record { number = rw (sym c.judge_record-judged.ensures) c.number-number.ensures; answer = rw (sym c.judge_record-judged.ensures, c.number-number.ensures, c.field-field.ensures) }
