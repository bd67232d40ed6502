use mathlib.Core.Path.{sym, ◌∙◌, subst}
use Prim.Native.Nat.{◌-◌}
use native.Mathlib.Omega.{arith}
use Rattle.std.proofs.result.Match.{err_is}
use Rattle.passes.proofs.Passes.{accepted-small}
use Rattle.passes.specs.Answers.{Answer}
use Rattle.reader.proofs.Laws.{Meets, no_room, rows-filled, refused}
use Rattle.reader.proofs.read.Goals as goal

pub fill-requires : goal.fill-requires
fill-requires c = let g = rw c.in_ok-totals.was at c.survey.ensures.1 in (accepted-small c.args.file.now _ (sym c.survey.ensures.0 ∙ c.in_ok-totals.was), omega (arith, g))

pub returns-then-table-needed : goal.returns-then-table-needed
returns-then-table-needed c =
    let k = subst (λ (a : Answer). Meets c.args.file.now c.args.table.now a c.args.table.now) (sym c.of_file.ensures)
    (no_room c.args.file.now c.args.table.now (λ i. omega (arith, c.shared_slice_known-1.given i)) _ (sym c.survey.ensures.0 ∙ c.in_ok-totals.was) c.if-table-needed.true) in
    record { answer = k.0; rows = k.1.0; arranged = k.1.1.0; copy = k.1.1.1.0; own = k.1.1.1.1 }

pub returns : goal.returns
returns c =
    let k = rows-filled c.args.file.now c.args.table.now (λ i. omega (arith, c.shared_slice_known-1.given i)) _ _ (sym c.survey.ensures.0 ∙ c.in_ok-totals.was) c.if-table-needed.false c.fill.ensures in
    record { answer = k.0; rows = k.1.0; arranged = k.1.1.0; copy = k.1.1.1.0; own = k.1.1.1.1 }

pub returns-in_err-totals : goal.returns-in_err-totals
returns-in_err-totals c =
    let k = refused c.args.file.now c.args.table.now (λ i. omega (arith, c.shared_slice_known-1.given i)) _ _ _ _ (err_is _ _ c.from_residual.ensures.1 ∙ sym c.in_err-totals.was ∙ c.survey.ensures.0) (err_is _ _ c.from_residual.ensures.1) in
    record { answer = k.0; rows = k.1.0; arranged = k.1.1.0; copy = k.1.1.1.0; own = k.1.1.1.1 }
