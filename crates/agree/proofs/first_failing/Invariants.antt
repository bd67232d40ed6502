use Rattle.std.proofs.Common.{◌≡◌, true, drop}
use Rattle.agree.specs.Checks.{first_failing, checks_of, fields_from_one}
use Rattle.agree.proofs.first_failing.Given as goal

abbrev pub invariant-loop-field : goal.invariant-loop-field
invariant-loop-field l = (first_failing (checks_of (drop l.field-index l.checks)) ≡ first_failing (checks_of l.checks)) × (fields_from_one (drop l.field-index l.checks) ≡ true)
