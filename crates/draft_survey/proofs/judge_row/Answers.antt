use Rattle.draft_survey.proofs.Row.{found-row}
use Rattle.draft_survey.proofs.judge_row.Goals as goal

pub judge_counted-requires : goal.judge_counted-requires
judge_counted-requires c = c.requires

pub returns : goal.returns
returns c = found-row c.args.set c.args.text.now c.args.rows.now c.args.sheet.now c.args.s _ _ _ (c.addenda_behind-addenda.ensures.0 c.args.set c.args.text.now) c.judge_counted.ensures
