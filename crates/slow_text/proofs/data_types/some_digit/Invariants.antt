use Rattle.std.proofs.Common.{◌≡◌, drop}
use Rattle.text.specs.Characters.{is_numeric}
use Rattle.text.specs.DataTypes.{some}
use Rattle.slow_text.proofs.data_types.some_digit.Given as goal

abbrev pub invariant-loop-x : goal.invariant-loop-x
invariant-loop-x l = some (is_numeric l.set) (drop l.x-index l.s) ≡ some (is_numeric l.set) l.s
