use Rattle.net.proofs.Laws.{said, unsaid}
use Rattle.net.proofs.is_net.Goals as goal

pub returns-in-Some : goal.returns-in-Some
returns-in-Some c = said c.args.bits c.args.credit c.args.debit c.bits_of.result c.in-Some.net c.in-Some.ensures c.bits_of.ensures

pub returns-in-None : goal.returns-in-None
returns-in-None c = unsaid c.args.bits c.args.credit c.args.debit c.in-None.ensures
