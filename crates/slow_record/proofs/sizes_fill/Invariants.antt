use Rattle.std.proofs.Common.{◌≡◌, drop, map}
use lib.Dec.{eqb}
use Rattle.slow_record.specs.Rows.{entry_of, parts_of, stated}
use Rattle.slow_record.proofs.sizes_fill.Given as goal

abbrev pub invariant-loop-line : goal.invariant-loop-line
invariant-loop-line l = eqb l.rest (stated l.set (parts_of l.kind (map entry_of (drop l.line-index l.lines))) l.body) ≡ eqb l.left (stated l.set (parts_of l.kind (map entry_of l.lines)) l.body)
