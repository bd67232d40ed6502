use mathlib.Core.Path.{sym, ◌∙◌, ap}
use Rattle.draft_rows.proofs.Rows.{row-blank}
use Rattle.draft.specs.Values.{values_of_row}
use Rattle.draft.specs.Completed.{leaves_blank}
use Rattle.draft_rows.proofs.leaves_blank.Goals as goal

pub returns-in-MicrCents : goal.returns-in-MicrCents
returns-in-MicrCents c set text = row-blank set text c.args.rows.now ∙ ap (leaves_blank (values_of_row set text c.args.rows.now)) (sym c.in-MicrCents.is)
