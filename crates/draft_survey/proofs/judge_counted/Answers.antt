use mathlib.Core.Path.{refl, sym, ◌∙◌}
use native.Mathlib.Omega.{arith}
use lib.ListN.{get_or}
use Rattle.layout.proofs.Fault.{faulted, faultless}
use Rattle.draft_survey.proofs.Row.{Filled, row-place, row_carried, row_room, row_fits, row_within, row-long, row_field, row-part, row-agrees}
use Rattle.draft_survey.proofs.judge_counted.Goals as goal

pub returns-then-not-may_follow : goal.returns-then-not-may_follow
returns-then-not-may_follow c = row-place c.args.set c.args.text.now c.args.rows.now c.args.addenda c.args.sheet.now c.args.s (sym c.may_follow.ensures ∙ c.if-not-may_follow.true) _

pub invariant_of-row : goal.invariant_of-row
invariant_of-row c = record { owned = c.requires.0 (row_carried c.args.s (get_or c.args.rows.now 0 0) (sym c.may_follow.ensures ∙ c.if-not-may_follow.false)); whole = c.requires.2 }

pub overflow_add-body : goal.overflow_add-body
overflow_add-body c = record { fits = omega (arith, row_room c.args.s (get_or c.args.rows.now 0 0) c.slot_of-at.result (sym c.may_follow.ensures ∙ c.if-not-may_follow.false) c.slot_of-at.ensures) }

pub complete-fixed-requires : goal.complete-fixed-requires
complete-fixed-requires c = (c.requires.1, omega (arith, c.requires.3, row_room c.args.s (get_or c.args.rows.now 0 0) c.slot_of-at.result (sym c.may_follow.ensures ∙ c.if-not-may_follow.false) c.slot_of-at.ensures))

pub overflow_add-end : goal.overflow_add-end
overflow_add-end c = record {
  fits = omega (
    arith,
    row_fits ((let filled' : Filled c.args.set c.args.text.now c.args.rows.now c.args.sheet.now c.args.s c.args.addenda c.slot_of-at.result c.complete-fixed.result c.complete-fixed.new.out = record {
      may = sym c.may_follow.ensures ∙ c.if-not-may_follow.false;
      slot = c.slot_of-at.ensures;
      room = c.requires.3;
      stored = c.complete-fixed.ensures.0;
      long = c.complete-fixed.ensures.1;
    } in filled')),
  );
}

pub slice_bounds-field_fault-end : goal.slice_bounds-field_fault-end
slice_bounds-field_fault-end c = row_within ((let filled' : Filled c.args.set c.args.text.now c.args.rows.now c.args.sheet.now c.args.s c.args.addenda c.slot_of-at.result c.complete-fixed.result c.complete-fixed.new.out = record {
  may = sym c.may_follow.ensures ∙ c.if-not-may_follow.false;
  slot = c.slot_of-at.ensures;
  room = c.requires.3;
  stored = c.complete-fixed.ensures.0;
  long = c.complete-fixed.ensures.1;
} in filled'))

pub field_fault-requires : goal.field_fault-requires
field_fault-requires c = row-long ((let filled' : Filled c.args.set c.args.text.now c.args.rows.now c.args.sheet.now c.args.s c.args.addenda c.slot_of-at.result c.complete-fixed.result c.complete-fixed.new.out = record {
  may = sym c.may_follow.ensures ∙ c.if-not-may_follow.false;
  slot = c.slot_of-at.ensures;
  room = c.requires.3;
  stored = c.complete-fixed.ensures.0;
  long = c.complete-fixed.ensures.1;
} in filled'))

pub returns-in-Some : goal.returns-in-Some
returns-in-Some c = row_field ((let filled' : Filled c.args.set c.args.text.now c.args.rows.now c.args.sheet.now c.args.s c.args.addenda c.slot_of-at.result c.complete-fixed.result c.complete-fixed.new.out = record {
  may = sym c.may_follow.ensures ∙ c.if-not-may_follow.false;
  slot = c.slot_of-at.ensures;
  room = c.requires.3;
  stored = c.complete-fixed.ensures.0;
  long = c.complete-fixed.ensures.1;
} in filled')) c.in-Some.field (sym (faulted _ _ (sym (c.field_fault.ensures c.args.set) ∙ c.in-Some.is)).0) (λ z. omega (arith, (faulted _ _ (sym (c.field_fault.ensures c.args.set) ∙ c.in-Some.is)).1))

pub returns-in-Some-part_fault : goal.returns-in-Some-part_fault
returns-in-Some-part_fault c = row-part ((let filled' : Filled c.args.set c.args.text.now c.args.rows.now c.args.sheet.now c.args.s c.args.addenda c.slot_of-at.result c.complete-fixed.result c.complete-fixed.new.out = record {
  may = sym c.may_follow.ensures ∙ c.if-not-may_follow.false;
  slot = c.slot_of-at.ensures;
  room = c.requires.3;
  stored = c.complete-fixed.ensures.0;
  long = c.complete-fixed.ensures.1;
} in filled')) 0 (sym (faultless _ (sym (c.field_fault.ensures c.args.set) ∙ c.in_default.is))) refl c.in-Some-part_fault.part (sym (faulted _ _ (sym c.part_fault.ensures ∙ c.in-Some-part_fault.is)).0) (λ z. omega (arith, (faulted _ _ (sym c.part_fault.ensures ∙ c.in-Some-part_fault.is)).1))

pub returns : goal.returns
returns c = row-agrees ((let filled' : Filled c.args.set c.args.text.now c.args.rows.now c.args.sheet.now c.args.s c.args.addenda c.slot_of-at.result c.complete-fixed.result c.complete-fixed.new.out = record {
  may = sym c.may_follow.ensures ∙ c.if-not-may_follow.false;
  slot = c.slot_of-at.ensures;
  room = c.requires.3;
  stored = c.complete-fixed.ensures.0;
  long = c.complete-fixed.ensures.1;
} in filled')) 0 (sym (faultless _ (sym (c.field_fault.ensures c.args.set) ∙ c.in_default.is))) refl 0 (sym (faultless _ (sym c.part_fault.ensures ∙ c.in_default-part_fault.is))) refl c.agrees.result c.agrees.ensures
