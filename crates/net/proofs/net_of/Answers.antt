use Rattle.net.proofs.Laws.{within-some}
use Rattle.net.proofs.net_of.Goals as goal

pub unwrap-requires : goal.unwrap-requires
unwrap-requires c = within-some c.checked_signed_diff.result _ c.args.credit c.args.debit c.requires c.checked_signed_diff.ensures
