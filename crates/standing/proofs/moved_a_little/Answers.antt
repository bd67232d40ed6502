use Rattle.standing.proofs.Little.{little-moves}
use Rattle.standing.proofs.moved_a_little.Goals as goal

pub returns : goal.returns
returns c = λ set file offset.
    rw (c.from.ensures, c.from-2.ensures, c.from-3.ensures, c.is_addendum.ensures)
    (little-moves set file _ c.args.kind offset c.requires.1 c.requires.2)
