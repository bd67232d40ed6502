use mathlib.Core.Path.{sym, ◌∙◌, ap}
use Prim.Native.Nat.{◌+◌}
use lib.ListN.{length}
use Rattle.text.specs.DataTypes.{of_type}
use Rattle.fitting.proofs.Laws.{part-outside, part-empty, part-inside, lies_in}
use borrow.Author.Rules.{rules}
use Rattle.fitting.proofs.part_fits.Goals as goal

pub overflow_add-start : goal.overflow_add-start
overflow_add-start c = let h = lies_in (length c.args.text.now) (c.args.start + c.args.place) c.args.size (sym c.lies_within.ensures ∙ c.if-not-lies_within.false) c.if-size-eq0.false in search rules

pub returns-then-not-lies_within : goal.returns-then-not-lies_within
returns-then-not-lies_within c = part-outside c.args.set c.args.text.now c.args.data_type (c.args.start + c.args.place) c.args.size (sym c.lies_within.ensures ∙ c.if-not-lies_within.true)

pub returns-then-size-eq0 : goal.returns-then-size-eq0
returns-then-size-eq0 c = part-empty c.args.set c.args.text.now c.args.data_type (c.args.start + c.args.place) c.args.size c.if-size-eq0.true

pub returns : goal.returns
returns c = c.of_type.ensures ∙ ap (of_type c.args.set c.args.data_type) c.part_of.ensures ∙ part-inside c.args.set c.args.text.now c.args.data_type (c.args.start + c.args.place) c.args.size (sym c.lies_within.ensures ∙ c.if-not-lies_within.false)
