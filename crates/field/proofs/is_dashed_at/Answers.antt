use borrow.Author.Tests.{eq-eqb, ne_eqb}
use Prim.Native.Nat.{◌+◌}
use native.Mathlib.Nat.{sub-zero}
use Rattle.field.specs.RoutingForms.{parted_by}
use Rattle.field.proofs.Laws.{to_the_end}
use Rattle.field.proofs.is_dashed_at.Goals as goal

pub returns-then-s-ne9 : goal.returns-then-s-ne9
unfolding parted_by
returns-then-s-ne9 c = simp (ne_eqb _ _ c.if-s-ne9.true)

pub returns : goal.returns
unfolding parted_by
returns c = simp (sub-zero, eq-eqb _ _ c.if-s-ne9.false, to_the_end c.args.s.now (c.args.place + 1) c.if-s-ne9.false, c.is_dash.ensures, c.all_numeric.ensures, c.all_numeric-2.ensures)
