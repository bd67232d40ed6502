use mathlib.Core.Path.{sym, ap₂, ◌∙◌}
use lib.Seq.{sets}
use Rattle.layout.specs.Packing.{line_of}
use Rattle.salvage_rows.proofs.Free.{free-taken, free-blank}
use Rattle.salvage_rows.proofs.put_free.Goals as goal

pub returns-then-not-keeps_rule : goal.returns-then-not-keeps_rule
returns-then-not-keeps_rule c = λ n. c.put_times.ensures ∙ ap₂ (sets c.args.text.now) c.place_of-place.ensures (free-blank c.args.set c.args.body.now (line_of n c.args.packed) (sym (c.keeps_rule.ensures n) ∙ c.if-not-keeps_rule.true))

pub returns : goal.returns
returns c = λ n. c.put_piece.ensures ∙ ap₂ (sets c.args.text.now) c.place_of-place.ensures (free-taken c.args.set c.args.body.now (line_of n c.args.packed) (sym (c.keeps_rule.ensures n) ∙ c.if-not-keeps_rule.false) c.data_type_of-data_type.ensures c.place_of-place.ensures)
