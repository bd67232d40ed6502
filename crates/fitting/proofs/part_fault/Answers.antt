use mathlib.Core.Path.{sym, ◌∙◌, ap}
use Prim.Native.Nat.{◌+◌}
use native.Mathlib.Omega.{arith}
use lib.ListN.{length, get_or}
use borrow.Author.Rules.{rules}
use Rattle.text.specs.declared.data_types.DataType.{DataType}
use Rattle.fitting.proofs.Laws.{field_at, none_at, part_fits, size_at, numbered, faults-first, part-unfit, faults-on, faults-none}
use Rattle.fitting.proofs.part_fault.Goals as goal

pub loop-i-init : goal.loop-i-init
loop-i-init c = faults-first c.args.row.rows.now c.parts-part-items.result.now (length c.lines.result.now + 1) (numbered c.lines.result.now c.lines.ensures.are c.parts-part-items.result.now c.parts-part-items.ensures) c.fixed_length-place.ensures (omega arith) c.args.set c.args.text.now

pub bounds-row-i : goal.bounds-row-i
bounds-row-i c = omega (arith, c.loop-i.invariant.few, c.args.row.whole)

pub returns-then-not-part_fits : goal.returns-then-not-part_fits
returns-then-not-part_fits c = field_at _ _ (omega arith) (part-unfit c.args.row.rows.now c.parts-part-items.result.now (length c.lines.result.now + 1) c.args.set c.args.text.now c.loop-i.invariant c.loop-i-test.true (search rules) (ap (λ (t : DataType). part_fits c.args.set c.args.text.now t (get_or c.args.row.rows.now 1 0 + c.loop-i.place) (size_at c.args.row.rows.now c.parts-part-items.result.now (length c.lines.result.now + 1) c.loop-i.i)) (sym c.data_type_of-data_type.ensures) ∙ sym c.part_fits.ensures ∙ c.if-not-part_fits.true))

pub loop-i-preserved : goal.loop-i-preserved
loop-i-preserved c = faults-on c.args.row.rows.now c.parts-part-items.result.now (length c.lines.result.now + 1) c.args.set c.args.text.now c.loop-i.invariant c.loop-i-test.true (search rules) (ap (λ (t : DataType). part_fits c.args.set c.args.text.now t (get_or c.args.row.rows.now 1 0 + c.loop-i.place) (size_at c.args.row.rows.now c.parts-part-items.result.now (length c.lines.result.now + 1) c.loop-i.i)) (sym c.data_type_of-data_type.ensures) ∙ sym c.part_fits.ensures ∙ c.if-not-part_fits.false) c.saturating_add-place.ensures

pub returns : goal.returns
returns c = none_at _ (faults-none c.args.row.rows.now c.parts-part-items.result.now (length c.lines.result.now + 1) c.args.set c.args.text.now c.loop-i.invariant c.loop-i-test.false)
