use mathlib.Core.Path.{sym, ap, ◌∙◌}
use Prim.Native.Nat.{ℕ}
use native.Mathlib.Omega.{arith}
use lib.ListN.{get_or}
use Rattle.figures.proofs.Laws.{room}
use Rattle.book_model.specs.Table.{last_number}
use Rattle.book_table.proofs.has_room.Goals as goal

pub returns : goal.returns
returns c =
    let number = (c.number_at.ensures ∙ ap (λ (n : ℕ). get_or c.args.book.now n 0) c.block_of-block.ensures.place) in
    rw (room 0xFFFF_FFFF_FFFF_FFFF (last_number c.args.owner c.args.book.now) c.args.letters (omega (arith, number)))
    (rw (sym number, c.has_room_for.ensures, c.figures_at-totals.ensures, c.block_of-block.ensures.place))
