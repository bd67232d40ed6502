use native.Mathlib.Nat.{mod-le}
use borrow.Author.Tests.{eq-eqb, ne_eqb}
use Rattle.tiff.specs.Image.{number_in}
use borrow.Author.Rules.{rules}
use Rattle.tiff.proofs.number_in.Goals as goal

pub returns-then-e-eq3 : goal.returns-then-e-eq3
unfolding number_in
returns-then-e-eq3 c = (simp (eq-eqb _ _ c.if-e-eq3.true), mod-le _ _)

pub returns : goal.returns
unfolding number_in
returns c = (simp (ne_eqb _ _ c.if-e-eq3.false), search rules)
