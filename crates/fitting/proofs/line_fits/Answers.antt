use mathlib.Core.Path.{sym, ◌∙◌, ap}
use mathlib.Core.Bool.{◌||◌}
use Prim.Native.Nat.{ℕ, ◌+◌}
use lib.Dec.{leb, eqb}
use lib.ListN.{length, get_or}
use Rattle.decimal.specs.Digits.{fits}
use Rattle.layout.specs.Packing.{line_of}
use Rattle.draft.specs.Values.{is_given, values_of_row}
use Rattle.draft.specs.Completed.{own_statement}
use Rattle.fitting.proofs.Laws.{given-fits, worked-fits}
use Rattle.fitting.proofs.line_fits.Goals as goal

pub returns-then-is_given : goal.returns-then-is_given
returns-then-is_given c set n = c.lies_within.ensures ∙ ap (λ (k : ℕ). eqb (line_of n c.args.packed).size 0 || leb (get_or c.args.row.rows.now 1 0 + k + (line_of n c.args.packed).size) (length c.args.text.now)) c.place_of.ensures ∙ given-fits set c.args.text.now c.args.row.rows.now c.args.addenda (line_of n c.args.packed) (ap is_given (sym c.origin_of-origin.ensures) ∙ sym c.is_given.ensures ∙ c.if-is_given.true)

pub returns : goal.returns
returns c set n = c.fits_in.ensures ∙ ap (fits (line_of n c.args.packed).size) (c.own_statement-stated.ensures set c.args.text.now ∙ ap (own_statement (values_of_row set c.args.text.now c.args.row.rows.now) c.args.addenda (line_of n c.args.packed).first) c.origin_of-origin.ensures) ∙ worked-fits set c.args.text.now c.args.row.rows.now c.args.addenda (line_of n c.args.packed) (ap is_given (sym c.origin_of-origin.ensures) ∙ sym c.is_given.ensures ∙ c.if-is_given.false)
