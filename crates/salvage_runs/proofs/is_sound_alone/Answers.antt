use mathlib.Core.Path.{◌∙◌, sym, ap}
use Prim.Native.Nat.{ℕ}
use Rattle.judge.specs.Alone.{judged_as}
use Rattle.salvage_runs.proofs.Little.{right-ok, alone-short, alone-other, alone-judged}
use Rattle.salvage_runs.proofs.is_sound_alone.Goals as goal

pub returns-then-body-lt2 : goal.returns-then-body-lt2
returns-then-body-lt2 c = alone-short c.args.set c.args.kind c.args.body.now c.if-body-lt2.true

pub returns-then-stated-kind : goal.returns-then-stated-kind
returns-then-stated-kind c = alone-other c.args.set c.args.kind c.args.body.now (λ e. c.if-stated-kind.true (c.type_of-stated.ensures ∙ e))

pub returns : goal.returns
returns c = c.is_ok.ensures.value ∙ right-ok c.judge_as.result ∙ alone-judged c.args.set c.args.kind c.args.body.now c.if-body-lt2.false (sym c.type_of-stated.ensures ∙ c.if-stated-kind.false) _ (ap (λ (n : ℕ). judged_as c.args.set n c.args.body.now) (sym c.type_of-stated.ensures) ∙ sym c.judge_as.ensures)
