use Rattle.salvage_marks.proofs.Marks.{group-run-at, next-group}
use Rattle.salvage_marks.proofs.Torn.group_begun.Goals as goal

pub group_fate-fate-requires : goal.group_fate-fate-requires
group_fate-fate-requires c = group-run-at c.args.self.set c.args.self.file.now c.args.self.end c.args.plan c.args.seen c.requires.3 c.requires.0 c.requires.1 c.group_at-group.result c.group_at-group.ensures.group c.requires.2.marks c.requires.2.left

pub returns : goal.returns
returns c = λ ms v. next-group c.args.self.set c.args.self.file.now c.args.self.end c.args.plan c.args.seen c.requires.3 c.requires.0 c.requires.1 c.group_at-group.result c.group_at-group.ensures.group ms v c.group_fate-fate.result c.group_fate-fate.ensures
