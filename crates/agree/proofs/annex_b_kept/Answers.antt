use Rattle.agree.specs.Links.{annex_b}
use Rattle.agree.proofs.annex_b_kept.Goals as goal

pub returns : goal.returns
unfolding annex_b
returns c = rw (c.is_item.ensures, c.is_check_or_return.ensures)
