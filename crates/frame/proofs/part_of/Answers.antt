use mathlib.Core.Path.{sym}
use native.Mathlib.Omega.{arith}
use Rattle.frame.proofs.Laws.{part-outside, part-tail}
use Rattle.frame.proofs.part_of.Goals as goal

pub returns-then-s-start : goal.returns-then-s-start
returns-then-s-start c = sym (part-outside c.args.s.now c.args.start c.args.size (omega arith))

pub returns-then-s-start-2 : goal.returns-then-s-start-2
returns-then-s-start-2 c = part-tail c.args.s.now c.args.start c.args.size (omega arith)

pub returns : goal.returns
returns c = c.part_within.ensures
