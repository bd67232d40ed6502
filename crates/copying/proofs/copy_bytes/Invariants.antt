use Rattle.frame.specs.Frames.{part}
use Rattle.copying.proofs.Laws.{Down}
use Rattle.copying.proofs.copy_bytes.Given as goal

abbrev pub invariant-loop-i : goal.invariant-loop-i
invariant-loop-i l = Down (part l.from l.size l.text) l.initial.out l.size l.at l.out l.i
