-- The first free row from a place on, where so many of the rows claimed are still to come, and how many then are.
use Rattle.std.specs.Prelude.{ℕ, zero, suc, ◌+◌, cond, List, get_or}
use Rattle.book_model.specs.Table.{is_owner}
use Rattle.book_gaps.specs.declared.Spot.{Spot}

unfoldable pub spot_from : List ℕ → ℕ → ℕ → Spot
spot_from book zero at = record { at = at; rows = 0 }
spot_from book (suc n) at = cond (is_owner (get_or book at 0)) (spot_from book n (at + 9)) (record { at = at; rows = n })
