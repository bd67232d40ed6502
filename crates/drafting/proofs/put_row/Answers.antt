use mathlib.Core.Bool.{true}
use mathlib.Core.List.{List}
use mathlib.Core.Path.{◌≡◌, sym, ap, ◌∙◌, subst}
use Prim.Native.Nat.{ℕ}
use native.Mathlib.Omega.{arith}
use lib.ListN.{length-set}
use lib.Seq.{length-sets}
use Rattle.layout.specs.Packing.{is_whole}
use Rattle.judge.proofs.Dispatch.{table-own}
use Rattle.standing.specs.History.{one}
use Rattle.drafting.proofs.Rows.{row_put}
use Rattle.drafting.proofs.put_row.Goals as goal

pub bounds-draft-base-2 : goal.bounds-draft-base-2
bounds-draft-base-2 c = simp length-set (omega (arith, c.requires))

pub bounds-draft-base-3 : goal.bounds-draft-base-3
bounds-draft-base-3 c = simp length-set (omega (arith, c.requires))

pub put_sizes-requires : goal.put_sizes-requires
put_sizes-requires c = (
  subst (λ (own : List ℕ). is_whole own ≡ true) (sym c.own_numbers.ensures) (table-own c.args.layouts.numbers.now c.args.layouts.packed c.type_of-kind.result),
  simp length-set (omega (arith, c.requires)),
)

pub shape_of-draft : goal.shape_of-draft
shape_of-draft c = rw c.put_sizes.ensures (simp (length-sets, length-set))

pub returns : goal.returns
returns c = row_put c.args.set c.args.layouts.numbers.now c.args.body.now c.args.start c.args.base c.args.draft.now c.type_of-kind.result c.one_if.result _ _ c.args.layouts.packed c.type_of-kind.ensures (c.one_if.ensures.0 ∙ ap one c.leaves_micr_blank-blank.ensures) c.own_numbers.ensures c.put_sizes.ensures
