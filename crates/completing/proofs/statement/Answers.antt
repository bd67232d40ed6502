use mathlib.Core.Bool.{cond}
use mathlib.Core.Path.{refl, ap, ◌∙◌}
use Prim.Native.Nat.{ℕ, ◌+◌}
use Rattle.measure.specs.declared.Sums.{Sums}
use Rattle.standing.specs.History.{is_bofd_addendum}
use Rattle.draft.specs.Values.{values_of_row}
use Rattle.draft_rows.proofs.Rows.{row_type}
use Rattle.completing.proofs.Origins.{stated-alone, sums-of-row, stated}
use Rattle.completing.proofs.statement.Goals as goal

pub returns-in-RecordNumber : goal.returns-in-RecordNumber
returns-in-RecordNumber c set text = stated set text c.args.row.rows.now c.args.addenda c.args.s c.args.first c.in-RecordNumber.is _ (c.record_number.ensures ∙ ap (λ (t : ℕ). cond (is_bofd_addendum t) c.args.s.bofd c.args.s.endorser + 1) (row_type set text c.args.row.rows.now))

pub returns-in-DebitCount : goal.returns-in-DebitCount
returns-in-DebitCount c set text = stated set text c.args.row.rows.now c.args.addenda c.args.s c.args.first c.in-DebitCount.is _ (ap (λ (x : Sums). x.debits.0) (sums-of-row set text c.args.row.rows.now c.args.s _ c.sums_for-sums.ensures))

pub returns-in-DebitCents : goal.returns-in-DebitCents
returns-in-DebitCents c set text = stated set text c.args.row.rows.now c.args.addenda c.args.s c.args.first c.in-DebitCents.is _ (ap (λ (x : Sums). x.debit.0) (sums-of-row set text c.args.row.rows.now c.args.s _ c.sums_for-sums.ensures))

pub returns-in-MicrCents : goal.returns-in-MicrCents
returns-in-MicrCents c set text = stated set text c.args.row.rows.now c.args.addenda c.args.s c.args.first c.in-MicrCents.is _ refl

pub returns-in-ViewCount : goal.returns-in-ViewCount
returns-in-ViewCount c set text = stated set text c.args.row.rows.now c.args.addenda c.args.s c.args.first c.in-ViewCount.is _ (ap (λ (x : Sums). x.views.0) (sums-of-row set text c.args.row.rows.now c.args.s _ c.sums_for-sums.ensures))

pub returns-in-CreditCount : goal.returns-in-CreditCount
returns-in-CreditCount c set text = stated set text c.args.row.rows.now c.args.addenda c.args.s c.args.first c.in-CreditCount.is _ (ap (λ (x : Sums). x.credits.0) (sums-of-row set text c.args.row.rows.now c.args.s _ c.sums_for-sums.ensures))

pub returns-in-CreditCents : goal.returns-in-CreditCents
returns-in-CreditCents c set text = stated set text c.args.row.rows.now c.args.addenda c.args.s c.args.first c.in-CreditCents.is _ (ap (λ (x : Sums). x.credit.0) (sums-of-row set text c.args.row.rows.now c.args.s _ c.sums_for-sums.ensures))

pub returns-in-BundleCount : goal.returns-in-BundleCount
returns-in-BundleCount c set text = stated set text c.args.row.rows.now c.args.addenda c.args.s c.args.first c.in-BundleCount.is _ refl

pub returns-in-LetterCount : goal.returns-in-LetterCount
returns-in-LetterCount c set text = stated set text c.args.row.rows.now c.args.addenda c.args.s c.args.first c.in-LetterCount.is _ refl

pub returns-in-RecordCount : goal.returns-in-RecordCount
returns-in-RecordCount c set text = stated set text c.args.row.rows.now c.args.addenda c.args.s c.args.first c.in-RecordCount.is _ refl

pub returns-in-ItemCount : goal.returns-in-ItemCount
returns-in-ItemCount c set text = stated set text c.args.row.rows.now c.args.addenda c.args.s c.args.first c.in-ItemCount.is _ refl

pub returns-in_default : goal.returns-in_default
returns-in_default c set text = c.own_statement.ensures set text ∙ stated-alone (values_of_row set text c.args.row.rows.now) c.args.addenda c.args.s c.args.first c.args.origin c.in_default.in_default-own.keys12
