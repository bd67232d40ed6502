use Prim.Native.Nat.{◌+◌, ◌-◌, ◌/◌, ◌%◌}
use native.Mathlib.Omega.{arith}
use mathlib.Core.Path.{sym, ap, ◌∙◌}
use Rattle.std.specs.Prelude.{is_some}
use borrow.Author.Tests.{lt-leb, le-leb}
use lib.ListN.{length}
use Rattle.salvage_rows.proofs.Free.{alone-holds}
use Rattle.salvage_rows.proofs.keeps_rule.Goals as goal

pub returns-then-body-end : goal.returns-then-body-end
returns-then-body-end c = λ n. rw (lt-leb (c.args.packed / 0x1_0000_0000_0000 - 1 + c.args.packed / 0x100_0000_0000 % 0x100) (length c.args.body.now) (omega (arith, c.place_of.ensures, c.if-body-end.true)))

pub first_wrong-requires : goal.first_wrong-requires
first_wrong-requires c = rw (le-leb (c.args.packed / 0x1_0000_0000_0000 - 1 + c.args.packed / 0x100_0000_0000 % 0x100) (length c.args.body.now) (omega (arith, c.place_of.ensures, c.if-body-end.false)))

pub returns : goal.returns
returns c = λ n. rw (le-leb (c.args.packed / 0x1_0000_0000_0000 - 1 + c.args.packed / 0x100_0000_0000 % 0x100) (length c.args.body.now) (omega (arith, c.place_of.ensures, c.if-body-end.false))) (alone-holds c.args.set c.args.packed n c.args.body.now c.is_none.result (sym (ap is_some c.first_wrong.ensures) ∙ c.is_none.ensures))
