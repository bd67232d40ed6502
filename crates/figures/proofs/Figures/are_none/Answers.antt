use mathlib.Core.Path.{ap, ◌∙◌}
use Rattle.figures.specs.declared.Figures.{Figures}
use Rattle.figures.specs.Figures.{covers}
use Rattle.figures.proofs.Laws.{none-covers}
use Rattle.figures.proofs.Figures.are_none.Goals as goal

pub returns : goal.returns
returns c = c.holds.ensures ∙ ap (λ (f : Figures). covers f c.args.self) c.none.ensures ∙ none-covers c.args.self
