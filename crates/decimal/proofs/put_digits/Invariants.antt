use mathlib.Core.Path.{◌≡◌}
use lib.Seq.{sets}
use Rattle.decimal.specs.Digits.{digits}
use Rattle.decimal.proofs.put_digits.Given as goal

abbrev pub invariant-loop-i : goal.invariant-loop-i
invariant-loop-i l = sets l.out l.at (digits l.i l.left) ≡ sets l.initial.out l.at (digits l.size l.value)
