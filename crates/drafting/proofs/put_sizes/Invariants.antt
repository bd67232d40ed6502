use Rattle.copying.proofs.Laws.{Down}
use Rattle.drafting.specs.ByNumbers.{seven_sizes, parts_own}
use Rattle.drafting.proofs.put_sizes.Given as goal

abbrev pub invariant-loop-i : goal.invariant-loop-i
invariant-loop-i l = Down (seven_sizes l.set (parts_own l.own) l.body) l.initial.draft 7 l.base l.draft l.i
