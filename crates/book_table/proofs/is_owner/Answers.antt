use mathlib.Core.Path.{refl}
use Rattle.book_model.specs.Table.{is_owner}
use Rattle.book_table.proofs.is_owner.Goals as goal

pub returns : goal.returns
unfolding is_owner
returns c = refl
