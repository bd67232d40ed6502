use mathlib.Core.Path.{◌∙◌, ap}
use mathlib.Core.List.{List}
use Rattle.slow_record.specs.Rows.{Entry, judged_by}
use Rattle.slow_record.proofs.Dispatch.{judged-right}
use Rattle.slow_record.proofs.judge.Goals as goal

pub returns : goal.returns
returns c = c.judge_by.ensures ∙ ap (λ (es : List Entry). judged_by c.args.set c.args.kind es c.args.body.now) c.fields-lines.ensures.means ∙ judged-right c.args.set c.args.kind c.args.body.now
