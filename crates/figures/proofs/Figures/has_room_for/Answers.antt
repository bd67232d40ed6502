use mathlib.Core.Path.{ap, ◌∙◌}
use native.Mathlib.Omega.{arith}
use Rattle.figures.specs.declared.Figures.{Figures}
use Rattle.figures.specs.Figures.{covers, minus, most}
use Rattle.figures.proofs.Laws.{Covered, within_most, room-left}
use Rattle.figures.proofs.Figures.has_room_for.Goals as goal

pub without-requires : goal.without-requires
without-requires c =
    let small : Covered most c.args.self = record { bundles = omega arith; debits = omega arith; credits = omega arith; views = omega arith; debit = omega arith; credit = omega arith } in
    ap (λ (f : Figures). covers f c.args.self) c.most.ensures ∙ within_most c.args.self small

pub returns : goal.returns
returns c =
    let small : Covered most c.args.self = record { bundles = omega arith; debits = omega arith; credits = omega arith; views = omega arith; debit = omega arith; credit = omega arith } in
    c.holds.ensures
    ∙ ap (λ (f : Figures). covers f c.args.more) (c.without.ensures ∙ ap (λ (f : Figures). minus f c.args.self) c.most.ensures)
    ∙ room-left c.args.self c.args.more small
