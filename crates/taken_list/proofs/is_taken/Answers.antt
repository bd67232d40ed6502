use Prim.Native.Nat.{ℕ}
use native.Mathlib.Omega.{arith}
use mathlib.Core.Path.{ap, ◌∙◌}
use Rattle.book_model.specs.PlainList.{is_taken}
use Rattle.book_model.specs.Table.{taken_from, taken_by}
use Rattle.book_model.proofs.Taken.{in_list_lem}
use Rattle.taken_list.proofs.is_taken.Goals as goal

pub is_among-requires : goal.is_among-requires
is_among-requires c = omega (arith, in_list_lem c.args.list.now c.requires, c.places_claimed.ensures)

pub returns : goal.returns
unfolding taken_by
returns c = c.is_among.ensures ∙ ap (λ (n : ℕ). is_taken c.args.number (taken_from c.args.owner c.args.list.now n 1)) c.places_claimed.ensures
