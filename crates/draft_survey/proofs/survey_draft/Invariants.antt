use Prim.Native.Nat.{◌-◌}
use lib.ListN.{length}
use Rattle.draft_survey.proofs.Laws.{Surveyed}
use Rattle.draft_survey.proofs.survey_draft.Given as goal

abbrev pub invariant-loop-at : goal.invariant-loop-at
invariant-loop-at l = Surveyed l.set l.text l.draft l.sheet l.s l.bytes l.at

abbrev pub decreases-loop-at : goal.decreases-loop-at
decreases-loop-at l = length l.draft - l.at
