use Prim.Native.Nat.{◌+◌}
use lib.ListN.{length, get_or}
use Rattle.draft.specs.Values.{layout_of}
use Rattle.set_out.proofs.Record.{DownTo}
use Rattle.set_out.proofs.put_parts.Given as goal

abbrev pub invariant-loop-i : goal.invariant-loop-i
invariant-loop-i l = DownTo l.set l.text l.row.rows.now l.part-items (length (layout_of (get_or l.row.rows.now 0 0)).lines + 1) l.initial.out l.out l.place l.i
