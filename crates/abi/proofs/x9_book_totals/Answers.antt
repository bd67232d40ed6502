use mathlib.Core.Path.{sym, ap, ◌∙◌}
use mathlib.Core.List.{[], ◌∷◌, ◌++◌}
use lib.IntN.{ℤ}
use mir.Syntax.{w64}
use mir.ValLaws.{to_z-of_z}
use Rattle.figures.specs.Figures.{numbers_of}
use Rattle.net.specs.Net.{bits_of}
use borrow.Author.Rules.{rules}
use Rattle.abi.proofs.x9_book_totals.Goals as goal

pub returns-in-Ok : goal.returns-in-Ok
returns-in-Ok c =
    let told = sym c.totals.ensures ∙ c.in-Ok.is in
    record { number = rw told; totals = rw (told, c.bits_of-net.ensures) (ap (λ (z : ℤ). 0 ∷ c.in-Ok.field-0.entries ∷ numbers_of c.in-Ok.field-0.figures ++ (bits_of z ∷ [])) (to_z-of_z w64 c.in-Ok.field-0.net (record { sfits = search rules }))) }

pub returns-in-Err : goal.returns-in-Err
returns-in-Err c =
    let told = sym c.totals.ensures ∙ c.in-Err.is in
    record { number = rw told c.number-refused.ensures; totals = rw (told, c.number-refused.ensures) }
