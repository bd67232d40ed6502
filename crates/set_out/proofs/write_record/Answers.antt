use mathlib.Core.Path.{ap}
use Prim.Native.Nat.{ℕ, ◌+◌}
use lib.ListN.{get_or}
use Rattle.draft.specs.Values.{layout_of, values_of_row}
use Rattle.set_out.proofs.Record.{record-size, record-set-down}
use borrow.Author.Rules.{rules}
use Rattle.set_out.proofs.write_record.Goals as goal

pub overflow_add-result : goal.overflow_add-result
overflow_add-result c = let e = record-size c.args.out.now c.args.fixed.now (values_of_row c.args.set c.args.text.now c.args.row.rows.now).parts (search rules) c.requires.0 c.requires.1 (c.size_of-size.ensures c.args.set c.args.text.now) in search rules

pub returns : goal.returns
returns c =
    let e = record-size c.args.out.now c.args.fixed.now (values_of_row c.args.set c.args.text.now c.args.row.rows.now).parts (search rules) c.requires.0 c.requires.1 (c.size_of-size.ensures c.args.set c.args.text.now) in
    (ap (λ (n : ℕ). 4 + n) e.0, record-set-down c.args.out.now c.args.fixed.now (values_of_row c.args.set c.args.text.now c.args.row.rows.now).parts c.size_of-size.result (layout_of (get_or c.args.row.rows.now 0 0)).fixed_length e.0 c.requires.0 e.1 c.put_length.ensures c.copy_bytes.ensures c.put_parts.ensures)
