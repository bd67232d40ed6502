use Rattle.net.proofs.Signed.{below, above}
use Rattle.net.proofs.Bounds.{rises-short, rises-past, rises-beyond, rises-above}
use Rattle.net.proofs.rises_within.Goals as goal

pub returns-then-more-size : goal.returns-then-more-size
returns-then-more-size c =
    let e = below c.args.net c.ranges.net c.magnitude-size.result c.magnitude-size.ensures c.if-net-lt0.true in
    rises-short c.args.net c.magnitude-size.result c.args.more e c.if-more-size.true

pub returns-then-net-lt0 : goal.returns-then-net-lt0
returns-then-net-lt0 c =
    let e = below c.args.net c.ranges.net c.magnitude-size.result c.magnitude-size.ensures c.if-net-lt0.true in
    rises-past c.args.net c.magnitude-size.result c.args.more e c.if-more-size.false

pub returns-then-size-gt1000000000000000000 : goal.returns-then-size-gt1000000000000000000
returns-then-size-gt1000000000000000000 c =
    let e = above c.args.net c.ranges.net c.magnitude-size.result c.magnitude-size.ensures c.if-net-lt0.false in
    rises-beyond c.args.net c.magnitude-size.result c.args.more e c.if-size-gt1000000000000000000.true

pub returns : goal.returns
returns c =
    let e = above c.args.net c.ranges.net c.magnitude-size.result c.magnitude-size.ensures c.if-net-lt0.false in
    rises-above c.args.net c.magnitude-size.result c.args.more e c.if-size-gt1000000000000000000.false
