use Rattle.salvage_marks.proofs.Marks.{next-renewed, next-dropped}
use Rattle.salvage_marks.proofs.Torn.outside_letters.Goals as goal

pub letter_begun-requires : goal.letter_begun-requires
letter_begun-requires c = (c.requires.0, c.requires.1, c.requires.2, c.if-kind-eq10.true, c.requires.3, c.requires.4)

pub returns-then-kind-eq10 : goal.returns-then-kind-eq10
returns-then-kind-eq10 c = c.letter_begun.ensures

pub returns-then-kind-plan : goal.returns-then-kind-plan
returns-then-kind-plan c = λ ms v. next-renewed c.args.self.set c.args.self.file.now c.args.self.end c.args.plan c.args.seen c.requires.4 c.requires.0 c.requires.1 c.requires.2 ms v c.plan_at-next.result (c.plan_at-next.ensures.0 c.args.self.set c.args.self.file.now c.args.self.end) c.plan_at-next.ensures.1 c.if-kind-plan.true

pub returns-else-kind-plan : goal.returns-else-kind-plan
returns-else-kind-plan c = λ ms v. next-dropped c.args.self.set c.args.self.file.now c.args.self.end c.args.plan c.args.seen c.requires.4 c.requires.0 c.requires.1 c.requires.2 ms v c.plan_at-next.result (c.plan_at-next.ensures.0 c.args.self.set c.args.self.file.now c.args.self.end) c.plan_at-next.ensures.1 c.if-kind-eq10.false c.if-kind-plan.false
