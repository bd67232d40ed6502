use mathlib.Core.Path.{sym, ◌∙◌, ap}
use Prim.Native.Nat.{ℕ}
use Rattle.layout.specs.Layout.{sized_parts}
use Rattle.draft.specs.Values.{layout_of, values_of_row}
use Rattle.draft.specs.Completed.{part_sized_at, own_statement}
use Rattle.draft_rows.proofs.Rows.{row_type}
use Rattle.draft_rows.proofs.own_statement.Goals as goal

pub returns-in-TypeNumber : goal.returns-in-TypeNumber
returns-in-TypeNumber c set text = row_type set text c.args.row.rows.now ∙ ap (own_statement (values_of_row set text c.args.row.rows.now) c.args.addenda c.args.first) (sym c.in-TypeNumber.is)

pub returns-in-PartSize : goal.returns-in-PartSize
returns-in-PartSize c set text =
    c.part_sized_at.ensures set text
    ∙ ap (λ (t : ℕ). part_sized_at c.args.first (sized_parts (layout_of t)) (values_of_row set text c.args.row.rows.now).parts) (row_type set text c.args.row.rows.now)
    ∙ ap (own_statement (values_of_row set text c.args.row.rows.now) c.args.addenda c.args.first) (sym c.in-PartSize.is)

pub returns-in-AddendumCount : goal.returns-in-AddendumCount
returns-in-AddendumCount c set text = ap (own_statement (values_of_row set text c.args.row.rows.now) c.args.addenda c.args.first) (sym c.in-AddendumCount.is)
