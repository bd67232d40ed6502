use Rattle.judge.specs.Alone.{judged_as}
use Rattle.judge.proofs.judge_image.Goals as goal

pub returns : goal.returns
unfolding judged_as
returns c = c.judge_as.ensures
