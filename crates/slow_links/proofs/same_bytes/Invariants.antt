use Rattle.std.proofs.Common.{◌≡◌, drop}
use Rattle.agree.specs.Links.{same}
use Rattle.slow_links.proofs.same_bytes.Given as goal

abbrev pub invariant-loop-i : goal.invariant-loop-i
invariant-loop-i l = same (drop l.i l.a) (drop l.i l.b) ≡ same l.a l.b
