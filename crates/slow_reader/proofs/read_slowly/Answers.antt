use native.Mathlib.Omega.{arith}
use Rattle.std.proofs.Common.{rules}
use Rattle.std.proofs.result.Match.{err_is}
use Rattle.slow_reader.proofs.Laws.{meets-as, too_long, empty, no_room, rows_written, refused}
use Rattle.slow_reader.proofs.read_slowly.Goals as goal

pub returns-then-file-gt65536 : goal.returns-then-file-gt65536
returns-then-file-gt65536 c =
    let m = meets-as c.of_file.ensures (too_long c.args.file.now c.args.table.now (λ i. omega (arith, c.type_inv.file i)) c.if-file-gt65536.true) in
    record { answer = m.answer; rows = m.rows; arranged = m.arranged }

pub returns-then-is_empty : goal.returns-then-is_empty
returns-then-is_empty c =
    let m =
    meets-as c.of_file-then-is_empty.ensures
    (empty c.args.file.now c.args.table.now (λ i. omega (arith, c.type_inv.file i)) c.if-file-gt65536.false (search rules)) in
    record { answer = m.answer; rows = m.rows; arranged = m.arranged }

pub returns-in_err-totals : goal.returns-in_err-totals
returns-in_err-totals c =
    let m =
    meets-as (err_is _ _ c.from_residual.ensures.1)
    (refused c.args.file.now c.args.table.now (λ i. omega (arith, c.type_inv.file i)) c.if-file-gt65536.false (search rules) c.set_of-set.ensures
    c.answer.ensures _ c.in_err-totals.was) in
    record { answer = m.answer; rows = m.rows; arranged = m.arranged }

pub returns-then-table-needed : goal.returns-then-table-needed
returns-then-table-needed c =
    let m =
    meets-as c.of_file-then-table-needed.ensures
    (no_room c.args.file.now c.args.table.now (λ i. omega (arith, c.type_inv.file i)) c.if-file-gt65536.false (search rules) c.set_of-set.ensures
    c.answer.ensures _ c.in_ok-totals.was c.if-table-needed.true) in
    record { answer = m.answer; rows = m.rows; arranged = m.arranged }

pub write_rows-requires : goal.write_rows-requires
write_rows-requires c =
    let g = rw c.in_ok-totals.was at c.answer.ensures.rows in
    (c.set_of-set.ensures, c.if-file-gt65536.false, omega (arith, g))

pub returns : goal.returns
returns c =
    let m =
    rows_written c.args.file.now c.args.table.now (λ i. omega (arith, c.type_inv.file i)) c.if-file-gt65536.false (search rules) c.set_of-set.ensures
    c.answer.ensures _ _ c.in_ok-totals.was c.if-table-needed.false c.write_rows.ensures in
    record { answer = m.answer; rows = m.rows; arranged = m.arranged }
