use Rattle.frame.proofs.Laws.{whole-within}
use mathlib.Core.Path.{sym, ◌∙◌, ap}
use native.Mathlib.Omega.{arith}
use Rattle.judge.specs.Alone.{type_of}
use Rattle.frame.specs.Frames.{frame_at}
use Rattle.salvage_walk.proofs.Walking.{framed-seen, framed-onward, cut-unseen}
use Rattle.salvage_walk.proofs.seen_at.Goals as goal

pub overflow_add-result : goal.overflow_add-result
overflow_add-result c = omega (arith, whole-within c.args.file.now c.args.at _ _ (ap (frame_at c.args.file.now) (sym c.at.ensures) ∙ sym c.frame.ensures ∙ c.in-Some.is))

pub returns-in_default : goal.returns-in_default
returns-in_default c = record { seen = λ b s. cut-unseen c.args.set c.args.file.now c.args.at b _ (ap (frame_at c.args.file.now) (sym c.at.ensures) ∙ sym c.frame.ensures ∙ c.in_default.is) s; onward = λ h. h }

pub returns : goal.returns
returns c = record { seen = λ b s. framed-seen c.args.file.now c.args.at _ _ (ap (frame_at c.args.file.now) (sym c.at.ensures) ∙ sym c.frame.ensures ∙ c.in-Some.is) c.args.set b s _ (c.type_of-kind.ensures ∙ ap (type_of c.args.set) c.part_of.ensures); onward = λ h. framed-onward c.args.file.now c.args.at _ _ (ap (frame_at c.args.file.now) (sym c.at.ensures) ∙ sym c.frame.ensures ∙ c.in-Some.is) }
