use mathlib.Core.Path.{refl, ◌∙◌}
use Rattle.salvage_marks.proofs.Marks.{never_both, annex-none, annex-any}
use Rattle.salvage_marks.proofs.Torn.is_letter_kept.Goals as goal

pub returns-then-not-sound : goal.returns-then-not-sound
returns-then-not-sound c = (λ _. refl, λ e. absurd (never_both _ (c.if-not-sound.true) e))

pub returns-then-indicator_of-eq78 : goal.returns-then-indicator_of-eq78
returns-then-indicator_of-eq78 c = (λ e. absurd (never_both _ e (c.if-not-sound.false)), λ e w q. annex-none c.args.self.set _ c.args.body.now w.header _ c.indicator_of.ensures c.if-indicator_of-eq78.true q)

pub any_bundle-requires : goal.any_bundle-requires
any_bundle-requires c = c.requires (c.if-not-sound.false)

pub returns : goal.returns
returns c = (λ e. absurd (never_both _ e (c.if-not-sound.false)), λ e w q. c.any_bundle.ensures w ∙ annex-any c.args.self.set _ c.args.body.now w.header _ c.indicator_of.ensures c.if-indicator_of-eq78.false q)
