use mathlib.Core.Path.{◌∙◌}
use Rattle.book_gaps.proofs.Stored.{copied}
use Rattle.book_gaps.proofs.copy_row.Goals as goal

pub returns : goal.returns
returns c = c.copy_within.ensures.after ∙ copied c.args.book.now c.args.from c.args.to 9 c.requires.1 c.requires.0
