use mathlib.Core.Path.{sym}
use Rattle.abi.proofs.x9_record_in.Goals as goal

pub returns : goal.returns
returns c = rw (sym c.set_numbered.ensures) c.judge_in.ensures
