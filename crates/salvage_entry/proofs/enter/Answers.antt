use native.Mathlib.Omega.{arith}
use Rattle.draft_survey.proofs.Laws.{rows-owned}
use Rattle.salvage_entry.proofs.Steps.{begun-roomy, step-carried, step-refused, step-on}
use Rattle.salvage_entry.proofs.enter.Goals as goal

pub judge_counted-requires : goal.judge_counted-requires
judge_counted-requires c = (rows-owned c.args.layouts.numbers.now _ c.args.row.now c.args.layouts.packed c.own_numbers-own.ensures, (begun-roomy c.requires.1.begun).0, c.requires.0, c.requires.1.begun.stands.long)

pub overflow_add-result : goal.overflow_add-result
overflow_add-result c = let g = (begun-roomy c.requires.1.begun).0 in record { fits = omega (arith, g.records) }

pub invariant_of-size_of : goal.invariant_of-size_of
invariant_of-size_of c = record { owned = rows-owned c.args.layouts.numbers.now _ c.args.row.now c.args.layouts.packed c.own_numbers-own.ensures (step-carried c.args.set c.args.text.now c.args.row.now c.requires.1 c.judge_counted.result _ c.judge_counted.ensures _ c.in-Ok.is); whole = c.requires.0 }

pub moved-standing-requires : goal.moved-standing-requires
moved-standing-requires c = begun-roomy c.requires.1.begun

pub returns-in-Err : goal.returns-in-Err
returns-in-Err c = λ e. step-refused c.args.set c.args.text.now c.args.row.now e c.judge_counted.result _ c.judge_counted.ensures _ c.in-Err.is

pub returns-in-Ok : goal.returns-in-Ok
returns-in-Ok c = λ e. step-on c.args.set c.args.text.now c.args.row.now e c.judge_counted.result _ c.judge_counted.ensures _ c.in-Ok.is c.slot_of.result c.moved-standing.result c.size_of-size.result c.slot_of.ensures c.moved-standing.ensures (c.size_of-size.ensures c.args.set c.args.text.now) c.plus.result c.plus-bytes.result c.plus.ensures c.plus-bytes.ensures
