use mathlib.Core.Path.{ap}
use borrow.Author.Tests.{eq-eqb, ne_eqb}
use Rattle.standing.specs.declared.Standing.{Standing}
use Rattle.passes.specs.Reading.{ended_with}
use Rattle.passes.proofs.ended_at.Goals as goal

pub returns-then-s-eq99 : goal.returns-then-s-eq99
unfolding ended_with
returns-then-s-eq99 c = rw (eq-eqb _ _ c.if-s-eq99.true, ap (λ (u : Standing). u.whole) c.requires.1)

pub returns : goal.returns
unfolding ended_with
returns c = rw (ne_eqb _ _ c.if-s-eq99.false)
