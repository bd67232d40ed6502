use mathlib.Core.Path.{sym, ◌∙◌}
use native.Mathlib.Omega.{arith}
use borrow.Author.Tests.{eq-eqb, ne_eqb}
use Rattle.layout.proofs.Fault.{faultless, faulted}
use Rattle.passes.specs.CheckOrder.{agreement}
use Rattle.passes.proofs.agrees.Goals as goal

pub returns-in-Some : goal.returns-in-Some
unfolding agreement
returns-in-Some c = let f = faulted _ _ (sym c.link_fault.ensures ∙ c.in-Some.is) in rw (f.0, ne_eqb c.in-Some.field 0 (λ e. omega (arith, f.1, e)))

pub returns-in-Some-total_fault : goal.returns-in-Some-total_fault
unfolding agreement
returns-in-Some-total_fault c = let f = faulted _ _ (sym c.total_fault.ensures ∙ c.in-Some-total_fault.is) in rw (eq-eqb _ _ (faultless _ (sym c.link_fault.ensures ∙ c.in_default.is)), f.0, ne_eqb c.in-Some-total_fault.field 0 (λ e. omega (arith, f.1, e)))

pub returns : goal.returns
unfolding agreement
returns c = rw (eq-eqb _ _ (faultless _ (sym c.link_fault.ensures ∙ c.in_default.is)), eq-eqb _ _ (faultless _ (sym c.total_fault.ensures ∙ c.in_default-total_fault.is)))
