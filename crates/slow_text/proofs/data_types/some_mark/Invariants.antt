use Rattle.std.proofs.Common.{◌≡◌, drop}
use Rattle.text.specs.DataTypes.{some, is_mark}
use Rattle.slow_text.proofs.data_types.some_mark.Given as goal

abbrev pub invariant-loop-x : goal.invariant-loop-x
invariant-loop-x l = some (is_mark l.set l.t) (drop l.x-index l.s) ≡ some (is_mark l.set l.t) l.s
