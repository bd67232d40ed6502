-- The answer to a draft as 64 bits hold it: a file of more bytes than they count is refused all the same (SIZE). Nothing of this has to be believed.
use Rattle.std.specs.Prelude.{Err}
use Rattle.draft.specs.Outcomes.{Outcome}
use Rattle.draft.specs.Outcomes.{Written}
use Rattle.draft.specs.Drafted.{offset_of}

abbrev pub capped_outcome : Outcome → Outcome
capped_outcome (Written n totals) = Written (offset_of n) totals
capped_outcome (Err r) = Err r
