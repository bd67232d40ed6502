use mathlib.Core.Path.{◌≡◌, sym, ◌∙◌}
use Prim.Native.Nat.{◌+◌, ◌-◌, ◌*◌}
use native.Mathlib.Omega.{arith}
use Rattle.book_model.proofs.Laws.{fewer, further}
use Rattle.book_gaps.proofs.Closing.{closing-first, closing-within, closing-own, closing-other, closing_end}
use Rattle.book_gaps.proofs.close_up.Goals.{then-is_owner, else-is_owner}
use Rattle.book_gaps.proofs.close_up.Goals as goal

pub loop-k-init : goal.loop-k-init
loop-k-init c = let all : c.args.claimed - 0 ≡ c.args.claimed = omega arith in rw all (closing-first c.args.book.now c.args.claimed)

pub copy_row-requires : goal.copy_row-requires
copy_row-requires c = (c.loop-k.invariant.before, closing-within c.args.book.now c.args.claimed c.loop-k.book c.loop-k.to (17 + 9 * c.loop-k.k) (c.args.claimed - c.loop-k.k) c.loop-k.invariant (omega arith) c.requires)

pub overflow_add-to : goal.overflow_add-to
overflow_add-to c = omega (arith, c.loop-k.invariant.before, closing-within c.args.book.now c.args.claimed c.loop-k.book c.loop-k.to (17 + 9 * c.loop-k.k) (c.args.claimed - c.loop-k.k) c.loop-k.invariant (omega arith) c.requires)

pub shape_of-book : goal.shape_of-book
shape_of-book c = c.loop-k.invariant.long

pub loop-k-preserved : goal.loop-k-preserved
loop-k-preserved c =
    elim c.if-is_owner.branch [
      | then-is_owner w ↦ rw (w.book-is, w.to-is, sym (fewer c.args.claimed c.loop-k.k), sym (further 17 c.loop-k.k)) (closing-own c.args.book.now c.args.claimed c.loop-k.book c.loop-k.to (17 + 9 * c.loop-k.k) (c.args.claimed - c.loop-k.k) c.loop-k.invariant (omega arith) c.requires (sym c.is_owner.ensures ∙ w.if-is_owner.true) w.copy_row.new.book w.copy_row.ensures)
      | else-is_owner w ↦ rw (w.book-is, w.to-is, sym (fewer c.args.claimed c.loop-k.k), sym (further 17 c.loop-k.k)) (closing-other c.args.book.now c.args.claimed c.loop-k.book c.loop-k.to (17 + 9 * c.loop-k.k) (c.args.claimed - c.loop-k.k) c.loop-k.invariant (omega arith) c.requires (sym c.is_owner.ensures ∙ w.if-is_owner.false))
    ]

pub returns : goal.returns
returns c =
    let end = closing_end c.args.book.now c.args.claimed c.loop-k.book c.loop-k.to (17 + 9 * c.loop-k.k) (c.args.claimed - c.loop-k.k) c.loop-k.invariant (omega arith) in
    record { reach = end.0; rows = end.1 }
