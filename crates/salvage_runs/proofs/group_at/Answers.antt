use Rattle.salvage_runs.proofs.Groups.{group-61, group-other, group-torn, group-open, group-run}
use Rattle.salvage_runs.proofs.group_at.Goals as goal

pub returns-then-kind-eq61 : goal.returns-then-kind-eq61
returns-then-kind-eq61 c = record { group = group-61 c.args.set c.args.file.now c.args.at c.args.end c.seen_at-seen.result c.seen_at-seen.ensures.seen c.if-kind-eq61.true _ c.end_of-stop.ensures }

pub returns-then-kind-ne20 : goal.returns-then-kind-ne20
returns-then-kind-ne20 c = record { group = group-other c.args.set c.args.file.now c.args.at c.args.end c.seen_at-seen.result c.seen_at-seen.ensures.seen c.if-kind-ne20.true c.if-kind-eq61.false }

pub returns-then-closing-eq70 : goal.returns-then-closing-eq70
returns-then-closing-eq70 c = record { group = group-run c.args.set c.args.file.now c.args.at c.args.end c.seen_at-seen.result c.seen_at-seen.ensures.seen c.if-kind-ne20.false _ c.end_of-stop-2.ensures c.if-stop-end.true c.seen_at-closing.result c.seen_at-closing.ensures.seen c.if-closing-eq70.true }

pub returns-else-closing-eq70 : goal.returns-else-closing-eq70
returns-else-closing-eq70 c = record { group = group-open c.args.set c.args.file.now c.args.at c.args.end c.seen_at-seen.result c.seen_at-seen.ensures.seen c.if-kind-ne20.false _ c.end_of-stop-2.ensures c.if-stop-end.true c.seen_at-closing.result c.seen_at-closing.ensures.seen c.if-closing-eq70.false }

pub returns-else-stop-end : goal.returns-else-stop-end
returns-else-stop-end c = record { group = group-torn c.args.set c.args.file.now c.args.at c.args.end c.seen_at-seen.result c.seen_at-seen.ensures.seen c.if-kind-ne20.false _ c.end_of-stop-2.ensures c.if-stop-end.false }
