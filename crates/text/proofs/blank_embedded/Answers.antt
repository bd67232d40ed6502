use mathlib.Core.Bool.{false}
use mathlib.Core.Path.{sym, ◌∙◌}
use Rattle.text.proofs.Classes.{digits-have-no-gap}
use Rattle.text.proofs.blank_embedded.Goals as goal

pub returns-then-all_numeric : goal.returns-then-all_numeric
returns-then-all_numeric c = sym (digits-have-no-gap c.args.set false c.args.s.now (sym c.all_numeric.ensures ∙ c.if-all_numeric.true))
