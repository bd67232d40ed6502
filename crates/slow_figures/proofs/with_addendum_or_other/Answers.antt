use Rattle.standing.proofs.Little.{little-moves}
use Rattle.slow_figures.proofs.with_addendum_or_other.Goals as goal

pub returns : goal.returns
returns c = λ set file offset. rw (c.one_if.ensures.0, c.one_if-2.ensures.0, c.one_if-3.ensures.0, c.is_addendum.ensures, c.is_bofd_addendum.ensures, c.is_endorser_addendum.ensures) (little-moves set file c.args.s c.args.kind offset c.requires.1 c.requires.2)
