use Rattle.net.proofs.Signed.{below, above}
use Rattle.net.proofs.Bounds.{falls-beyond, falls_below, falls-short, falls-past}
use Rattle.net.proofs.falls_within.Goals as goal

pub returns-then-size-ge1000000000000000000 : goal.returns-then-size-ge1000000000000000000
returns-then-size-ge1000000000000000000 c =
    let e = below c.args.net c.ranges.net c.magnitude-size.result c.magnitude-size.ensures c.if-net-lt0.true in
    falls-beyond c.args.net c.magnitude-size.result c.args.less e c.if-size-ge1000000000000000000.true

pub returns-then-net-lt0 : goal.returns-then-net-lt0
returns-then-net-lt0 c =
    let e = below c.args.net c.ranges.net c.magnitude-size.result c.magnitude-size.ensures c.if-net-lt0.true in
    falls_below c.args.net c.magnitude-size.result c.args.less e c.if-size-ge1000000000000000000.false

pub returns-then-less-size : goal.returns-then-less-size
returns-then-less-size c =
    let e = above c.args.net c.ranges.net c.magnitude-size.result c.magnitude-size.ensures c.if-net-lt0.false in
    falls-short c.args.net c.magnitude-size.result c.args.less e c.if-less-size.true

pub returns : goal.returns
returns c =
    let e = above c.args.net c.ranges.net c.magnitude-size.result c.magnitude-size.ensures c.if-net-lt0.false in
    falls-past c.args.net c.magnitude-size.result c.args.less e c.if-less-size.false
