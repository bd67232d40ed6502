use mathlib.Core.Path.{◌∙◌, ap}
use mathlib.Core.List.{List}
use Rattle.text.specs.declared.character_set.CharacterSet.TheVariants.{Ascii}
use Rattle.layout.specs.Fault.{as_field}
use Rattle.layout.specs.Layout.{Line}
use Rattle.judge.specs.Alone.{first_wrong}
use Rattle.fitting.proofs.field_fault.Goals as goal

pub first_wrong-requires : goal.first_wrong-requires
first_wrong-requires c = rw c.requires c.lines.ensures.within

pub returns : goal.returns
returns c set = c.lower_of.ensures _ _ (c.first_unfit.ensures set) (c.first_wrong.ensures ∙ ap (λ (ls : List Line). as_field (first_wrong Ascii ls c.args.fixed.now)) c.lines.ensures.are)
