use Rattle.copying.proofs.Laws.{down-none, down-one, down-all}
use Rattle.drafting.specs.ByNumbers.{parts_own}
use Rattle.drafting.proofs.Sizes.{seven}
use borrow.Author.Rules.{rules}
use Rattle.drafting.proofs.put_sizes.Goals as goal

pub loop-i-init : goal.loop-i-init
loop-i-init c = down-none

pub loop-i-preserved : goal.loop-i-preserved
loop-i-preserved c = down-one (seven c.args.set c.args.body.now (parts_own c.args.own.now)) c.loop-i.invariant (search rules) _ c.size_of_part.ensures

pub shape_of-draft : goal.shape_of-draft
shape_of-draft c = c.loop-i.invariant.long

pub returns : goal.returns
returns c = down-all (seven c.args.set c.args.body.now (parts_own c.args.own.now)) c.loop-i.invariant (search rules)
