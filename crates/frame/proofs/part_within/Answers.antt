use Rattle.frame.proofs.Laws.{part-whole}
use Rattle.frame.proofs.part_within.Goals as goal

pub returns : goal.returns
returns c = part-whole c.args.s.now c.args.start c.args.size
