use Rattle.std.proofs.Common.{◌≡◌, drop, map}
use Rattle.slow_record.specs.Rows.{entry_of, parts_of, wrong_part}
use Rattle.slow_record.proofs.first_wrong_part.Given as goal

abbrev pub invariant-loop-line : goal.invariant-loop-line
invariant-loop-line l = wrong_part l.set (parts_of l.kind (map entry_of (drop l.line-index l.lines))) l.body l.rest ≡ wrong_part l.set (parts_of l.kind (map entry_of l.lines)) l.body l.parts
