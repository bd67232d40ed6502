use mathlib.Core.Path.{ap, ◌∙◌}
use lib.Seq.{sets}
use Rattle.layout.specs.Packing.{line_of}
use Rattle.completing.proofs.Laws.{line-given, line-blank, line-worked-out}
use Rattle.completing.proofs.put_line.Goals as goal

pub returns-then-is_given : goal.returns-then-is_given
returns-then-is_given c = λ n. c.put_piece.ensures ∙ ap (sets c.args.out.now c.args.at) (line-given c.args.set c.args.text.now c.args.row.rows.now c.args.addenda c.args.s (line_of n c.args.packed) c.origin_of-origin.ensures c.is_given.ensures c.if-is_given.true c.data_type_of-data_type.ensures c.place_of.ensures)

pub returns-then-leaves_blank : goal.returns-then-leaves_blank
returns-then-leaves_blank c = λ n. c.put_times.ensures ∙ ap (sets c.args.out.now c.args.at) (line-blank c.args.set c.args.text.now c.args.row.rows.now c.args.addenda c.args.s (line_of n c.args.packed) c.origin_of-origin.ensures c.is_given.ensures c.if-is_given.false (c.leaves_blank.ensures c.args.set c.args.text.now) c.if-leaves_blank.true)

pub returns : goal.returns
returns c = λ n. c.put_digits.ensures ∙ ap (sets c.args.out.now c.args.at) (line-worked-out c.args.set c.args.text.now c.args.row.rows.now c.args.addenda c.args.s (line_of n c.args.packed) c.origin_of-origin.ensures c.is_given.ensures c.if-is_given.false (c.leaves_blank.ensures c.args.set c.args.text.now) c.if-leaves_blank.false (c.statement.ensures c.args.set c.args.text.now))
