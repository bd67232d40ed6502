use mathlib.Core.Path.{refl, sym, ◌∙◌}
use mathlib.Core.List.{[]}
use native.Mathlib.Omega.{arith}
use Rattle.text.specs.declared.character_set.CharacterSet.TheVariants.{Ascii}
use Rattle.draft_survey.proofs.Laws.{Next, rows_at, rows-some, rows-owned, next-found, survey-first, survey-roomy, survey-end, survey-stop, survey-carried, survey-long, survey-on}
use Rattle.draft_survey.proofs.survey_draft.Goals as goal

pub loop-at-init : goal.loop-at-init
loop-at-init c = survey-first c.set_of_text-set.result c.args.text.now c.args.draft.now _ c.start-s.result c.set_of_text-set.ensures (omega (arith, c.well_formed)) refl (c.start-s.ensures Ascii [])

pub bounds-rows-0 : goal.bounds-rows-0
bounds-rows-0 c = omega (arith, (rows-some c.args.draft.now c.loop-at.at c.loop-at-test.true))

pub slice_bounds-judge_row-end : goal.slice_bounds-judge_row-end
slice_bounds-judge_row-end c = sym c.loop-at.invariant.stands.long

pub judge_row-requires : goal.judge_row-requires
judge_row-requires c = (rows-owned c.args.layouts.numbers.now _ (rows_at c.args.draft.now c.loop-at.at) c.args.layouts.packed c.own_numbers-own.ensures, (survey-roomy c.loop-at.invariant).0, (rows-some c.args.draft.now c.loop-at.at c.loop-at-test.true), c.loop-at.invariant.stands.long)

pub overflow_add-result : goal.overflow_add-result
overflow_add-result c = let g = (survey-roomy c.loop-at.invariant).0 in record { fits = omega (arith, g.records) }

pub returns-in-Err : goal.returns-in-Err
returns-in-Err c = survey-stop ((let next' : Next c.loop-at.invariant c.judge_row.result c.judge_row.new.sheet = next-found c.loop-at.invariant c.judge_row.result _ c.loop-at-test.true c.judge_row.ensures in next')) _ c.in-Err.is

pub invariant_of-size_of : goal.invariant_of-size_of
invariant_of-size_of c = record { owned = rows-owned c.args.layouts.numbers.now _ (rows_at c.args.draft.now c.loop-at.at) c.args.layouts.packed c.own_numbers-own.ensures (survey-carried ((let next' : Next c.loop-at.invariant c.judge_row.result c.judge_row.new.sheet = next-found c.loop-at.invariant c.judge_row.result _ c.loop-at-test.true c.judge_row.ensures in next')) _ c.in-Ok.is); whole = rows-some c.args.draft.now c.loop-at.at c.loop-at-test.true }

pub slice_bounds-moved-end : goal.slice_bounds-moved-end
slice_bounds-moved-end c = sym (survey-long ((let next' : Next c.loop-at.invariant c.judge_row.result c.judge_row.new.sheet = next-found c.loop-at.invariant c.judge_row.result _ c.loop-at-test.true c.judge_row.ensures in next')) _ c.in-Ok.is)

pub moved-s-requires : goal.moved-s-requires
moved-s-requires c = survey-roomy c.loop-at.invariant

pub overflow_add-at : goal.overflow_add-at
overflow_add-at c = record { fits = omega (arith, c.loop-at.invariant.limit, c.loop-at.invariant.within, c.loop-at-test.true) }

pub loop-at-smaller : goal.loop-at-smaller
loop-at-smaller c = omega (arith, c.loop-at-test.true)

pub rows_ended-requires : goal.rows_ended-requires
rows_ended-requires c = (survey-roomy c.loop-at.invariant).0

pub returns : goal.returns
returns c = c.rows_ended.ensures c.loop-at.invariant.file c.loop-at.invariant.past c.loop-at.sheet c.loop-at.invariant.stands c.loop-at.invariant.size ∙ sym (survey-end c.loop-at.invariant c.loop-at-test.false)

pub loop-at-preserved : goal.loop-at-preserved
loop-at-preserved c = survey-on ((let next' : Next c.loop-at.invariant c.judge_row.result c.judge_row.new.sheet = next-found c.loop-at.invariant c.judge_row.result _ c.loop-at-test.true c.judge_row.ensures in next')) _ c.in-Ok.is c.slot_of.result c.moved-s.result c.size_of-size.result c.slot_of.ensures c.moved-s.ensures (c.size_of-size.ensures c.set_of_text-set.result c.args.text.now) c.saturating_add.result c.saturating_add-bytes.result (omega (arith, c.saturating_add.ensures)) c.saturating_add-bytes.ensures
