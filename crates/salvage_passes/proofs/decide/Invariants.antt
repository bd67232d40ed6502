use mathlib.Core.List.{List}
use Rattle.draft.specs.Values.{Values}
use Rattle.salvage_next.specs.Cued.{Cued, turns}
use Rattle.salvage_passes.proofs.Deciding.{Sofar}
use Rattle.salvage_passes.proofs.decide.Given as goal

abbrev pub invariant-loop-at : goal.invariant-loop-at
invariant-loop-at l = (all : List Values) → Cued l.torn.set l.torn.file.now l.torn.end l.initial.at all → Sofar l.torn.set l.torn.file.now l.torn.end all l.sheet l.pen l.at

abbrev pub decreases-loop-at : goal.decreases-loop-at
decreases-loop-at l = turns l.torn.end l.at
