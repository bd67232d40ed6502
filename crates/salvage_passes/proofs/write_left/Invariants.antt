use lib.ListN.{length}
use Rattle.salvage_next.specs.Cued.{turns}
use Rattle.salvage_passes.specs.Writable.{Writable}
use Rattle.salvage_passes.proofs.Writing.{Writing}
use Rattle.salvage_passes.proofs.write_left.Given as goal

abbrev pub invariant-loop-at : goal.invariant-loop-at
invariant-loop-at l = (w : Writable l.torn.set l.torn.file.now l.torn.end l.initial.at (length l.initial.out)) → Writing l.torn.set l.torn.file.now l.torn.end w.values l.initial.out l.out l.sheet l.s l.bytes l.at

abbrev pub decreases-loop-at : goal.decreases-loop-at
decreases-loop-at l = turns l.torn.end l.at
