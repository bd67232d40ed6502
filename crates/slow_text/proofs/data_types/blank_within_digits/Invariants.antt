use Rattle.std.proofs.Common.{◌≡◌, drop}
use Rattle.text.specs.DataTypes.{blank_embedded, blank_after}
use Rattle.slow_text.proofs.data_types.blank_within_digits.Given as goal

abbrev pub invariant-loop-i : goal.invariant-loop-i
invariant-loop-i l = blank_after l.set l.before (drop l.i l.s) ≡ blank_embedded l.set l.s
