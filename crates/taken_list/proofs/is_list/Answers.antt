use Rattle.book_model.specs.Table.{is_list}
use Rattle.taken_list.proofs.is_list.Goals as goal

pub returns : goal.returns
unfolding is_list
returns c = rw (c.places_claimed.ensures, c.places_there.ensures)
