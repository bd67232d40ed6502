use Prim.Native.Nat.{◌-◌}
use mathlib.Core.Path.{◌≡◌}
use Rattle.decimal.specs.Digits.{fits}
use Rattle.decimal.proofs.fits_in.Given as goal

abbrev pub invariant-loop : goal.invariant-loop
invariant-loop l = fits (l.size - l.counter) l.left ≡ fits l.size l.value
