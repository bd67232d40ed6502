use Rattle.salvage_marks.proofs.Marks.{next-in-group}
use Rattle.salvage_marks.proofs.Torn.mark_next.Goals as goal

pub returns-then-at-plan-2 : goal.returns-then-at-plan-2
returns-then-at-plan-2 c = c.group_begun.ensures

pub returns : goal.returns
returns c = c.outside_letters.ensures

pub returns-then-at-plan : goal.returns-then-at-plan
returns-then-at-plan c = λ ms v. next-in-group c.args.self.set c.args.self.file.now c.args.self.end c.args.plan c.seen_at-seen.result c.seen_at-seen.ensures.seen ms v c.if-at-plan.true

pub group_begun-requires : goal.group_begun-requires
group_begun-requires c = (c.if-at-plan.false, c.if-at-plan-2.true, c.requires.1, c.seen_at-seen.ensures.seen)

pub outside_letters-requires : goal.outside_letters-requires
outside_letters-requires c = (c.if-at-plan.false, c.if-at-plan-2.false, c.requires.0, c.requires.1, c.seen_at-seen.ensures.seen)
