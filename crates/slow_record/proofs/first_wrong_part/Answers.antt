use Rattle.std.proofs.Common.{sym, ◌∙◌, ap, arith, get_or}
use Rattle.text.specs.DataTypes.{of_type}
use Rattle.layout.specs.Fault.{as_field}
use Rattle.slow_record.specs.Rows.{entry_of, is_part, stated_in}
use Rattle.slow_record.proofs.Laws.{part-here, part-later, part_none, part-told}
use Rattle.slow_record.proofs.first_wrong_part.Goals as goal

pub returns-then-is_wrong_part : goal.returns-then-is_wrong_part
returns-then-is_wrong_part c = c.field_in.ensures ∙ ap as_field (sym (part-here c.args.set c.args.kind c.args.lines.now c.args.body.now c.loop-line.line-index c.loop-line.rest.now (omega arith) (part-told (is_part c.args.kind (entry_of (get_or c.args.lines.now c.loop-line.line-index 0))) (of_type c.args.set (entry_of (get_or c.args.lines.now c.loop-line.line-index 0)).data_type) (stated_in c.args.set (entry_of (get_or c.args.lines.now c.loop-line.line-index 0)) c.args.body.now) c.is_wrong_part.result c.part_of.result.now c.loop-line.rest.now c.stated_size-size.result c.is_wrong_part.ensures c.part_of.ensures c.stated_size-size.ensures ∙ c.if-is_wrong_part.true)) ∙ c.loop-line.invariant)

pub loop-line-preserved : goal.loop-line-preserved
loop-line-preserved c = rw (c.behind-rest.ensures, c.stated_size-size.ensures) (sym (part-later c.args.set c.args.kind c.args.lines.now c.args.body.now c.loop-line.line-index c.loop-line.rest.now (omega arith) (part-told (is_part c.args.kind (entry_of (get_or c.args.lines.now c.loop-line.line-index 0))) (of_type c.args.set (entry_of (get_or c.args.lines.now c.loop-line.line-index 0)).data_type) (stated_in c.args.set (entry_of (get_or c.args.lines.now c.loop-line.line-index 0)) c.args.body.now) c.is_wrong_part.result c.part_of.result.now c.loop-line.rest.now c.stated_size-size.result c.is_wrong_part.ensures c.part_of.ensures c.stated_size-size.ensures ∙ c.if-is_wrong_part.false)) ∙ c.loop-line.invariant)

pub returns : goal.returns
returns c = ap as_field {x = 0} (sym (part_none c.args.set c.args.kind c.args.lines.now c.args.body.now c.loop-line.line-index c.loop-line.rest.now (omega arith)) ∙ c.loop-line.invariant)
