use mathlib.Core.Path.{◌≡◌, sym, ◌∙◌, ap, subst}
use mathlib.Core.Bool.{true}
use mathlib.Core.List.{List}
use Prim.Native.Nat.{ℕ}
use Rattle.layout.specs.Packing.{is_whole}
use Rattle.judge.specs.ByNumbers.{by_own}
use Rattle.judge.proofs.Dispatch.{judged-by-own, table-own}
use Rattle.judge.proofs.judge_as.Goals as goal

pub judge_by-requires : goal.judge_by-requires
judge_by-requires c = subst (λ (xs : List ℕ). is_whole xs ≡ true) (sym c.own_numbers.ensures) (table-own c.args.layouts.numbers.now c.args.layouts.packed c.args.kind)

pub returns : goal.returns
returns c = c.judge_by.ensures ∙ ap (λ (xs : List ℕ). by_own c.args.set xs c.args.body.now) c.own_numbers.ensures ∙ judged-by-own c.args.set c.args.layouts.numbers.now c.args.layouts.packed c.args.kind c.args.body.now
