use Rattle.order.specs.MayFollow.{may_follow}
use Rattle.order.proofs.may_follow.Goals as goal

pub returns : goal.returns
unfolding may_follow
returns c = rw (c.follows_last.ensures, c.is_check_or_return.ensures)
