use Prim.Native.Nat.{ℕ, ◌+◌, ◌-◌}
use mathlib.Core.Path.{refl, sym, ◌∙◌, subst}
use lib.ListN.{length, drop, length-drop}
use lib.Seq.{take_all}
use native.Mathlib.Omega.{arith}
use borrow.Author.Rules.{rules}
use Rattle.layout.proofs.Own.{Left, own-here, own-later, own-ends, own-at-end}
use Rattle.layout.proofs.packed.own_numbers.Goals as goal

pub loop-at-init : goal.loop-at-init
loop-at-init c = (search rules, record { fuel = length c.args.numbers.now; enough = omega arith; same = refl })

pub returns-then-kind-type_in : goal.returns-then-kind-type_in
returns-then-kind-type_in c =
    take_all (length c.args.numbers.now - c.loop-at.at) (drop c.loop-at.at c.args.numbers.now) (simp length-drop (omega arith))
    ∙ own-here c.args.numbers.now c.args.kind c.loop-at.at (search rules) c.loop-at.invariant.1 (search rules)

pub returns-then-numbers-at : goal.returns-then-numbers-at
returns-then-numbers-at c =
    own-ends c.args.numbers.now c.args.kind c.loop-at.at (search rules) (λ e. omega (arith, e)) c.loop-at.invariant.1 (omega (arith, c.fields_in-fields.ensures))

pub loop-at-preserved : goal.loop-at-preserved
loop-at-preserved c = (
  omega arith,
  subst (λ (k : ℕ). Left c.args.numbers.now c.args.kind (c.loop-at.at + (k + 1))) (sym c.fields_in-fields.ensures)
      (own-later c.args.numbers.now c.args.kind c.loop-at.at (search rules) (λ e. omega (arith, e)) c.loop-at.invariant.1),
)

pub returns : goal.returns
returns c = own-at-end c.args.numbers.now c.args.kind c.loop-at.at (search rules) c.loop-at.invariant.1
