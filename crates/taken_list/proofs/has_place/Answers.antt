use native.Mathlib.Omega.{arith}
use Rattle.book_model.proofs.Taken.{in_list_lem}
use Rattle.taken_list.proofs.has_place.Goals as goal

pub overflow_sub-result : goal.overflow_sub-result
overflow_sub-result c = omega (arith, in_list_lem c.args.list.now c.requires, c.places_claimed.ensures, c.places_there.ensures)

pub returns : goal.returns
returns c = rw (c.places_claimed.ensures, c.places_there.ensures)
