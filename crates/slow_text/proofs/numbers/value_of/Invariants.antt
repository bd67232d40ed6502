use Rattle.std.proofs.Common.{◌≡◌, ◌<◌, ◌^◌, drop}
use Rattle.text.specs.Number.{value_after}
use Rattle.slow_text.proofs.numbers.value_of.Given as goal

abbrev pub invariant-loop-x : goal.invariant-loop-x
invariant-loop-x l = record { same : value_after l.set l.value (drop l.x-index l.s) ≡ value_after l.set 0 l.s; below : l.value < 10 ^ l.x-index }
