use Rattle.std.proofs.Common.{sym, ◌∙◌, arith}
use borrow.Author.Tests.{eq-eqb, ne_eqb}
use Rattle.agree.proofs.Laws.{same-lengths, same_differs, same-goes-on, same_ends}
use Rattle.slow_links.proofs.same_bytes.Goals as goal

pub returns-then-a-b : goal.returns-then-a-b
returns-then-a-b c = sym (same-lengths c.args.a.now c.args.b.now c.if-a-b.true)

pub returns-then-x-b : goal.returns-then-x-b
returns-then-x-b c = sym (same_differs c.args.a.now c.args.b.now c.loop-i.i (omega arith) (omega arith) (ne_eqb _ _ c.if-x-b.true)) ∙ c.loop-i.invariant

pub loop-i-preserved : goal.loop-i-preserved
loop-i-preserved c = sym (same-goes-on c.args.a.now c.args.b.now c.loop-i.i (omega arith) (omega arith) (eq-eqb _ _ c.if-x-b.false)) ∙ c.loop-i.invariant

pub returns : goal.returns
returns c = sym (same_ends c.args.a.now c.args.b.now c.loop-i.i (omega arith) (omega arith)) ∙ c.loop-i.invariant
