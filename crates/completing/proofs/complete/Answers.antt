use mathlib.Core.Path.{sym, ◌∙◌}
use lib.ListN.{length, get_or}
use Rattle.completing.proofs.Over.{fixed-lies}
use Rattle.completing.proofs.complete.Goals as goal

pub put_over-requires : goal.put_over-requires
put_over-requires c = (c.requires.0, c.requires.1, fixed-lies (get_or c.args.row.rows.now 0 0) (length c.args.text.now) (get_or c.args.row.rows.now 1 0) c.fixed_length-fixed.result c.fixed_length-fixed.ensures (sym c.lies_within.ensures ∙ c.if-lies_within.true))
