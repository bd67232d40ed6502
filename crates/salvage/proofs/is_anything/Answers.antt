use Rattle.salvage.proofs.Begun.{nothing_walked, unsound-none, planned-behind, any_left}
use Rattle.salvage.proofs.is_anything.Goals as goal

pub returns-then-torn-eq0 : goal.returns-then-torn-eq0
returns-then-torn-eq0 c = nothing_walked c.requires c.if-torn-eq0.true

pub returns-then-not-is_sound_alone : goal.returns-then-not-is_sound_alone
returns-then-not-is_sound_alone c = unsound-none c.requires c.if-torn-eq0.false c.seen_at-seen.result c.seen_at-seen.ensures.seen _ c.part_of-body.ensures c.is_sound_alone.ensures (c.if-not-is_sound_alone.true)

pub is_any_kept-requires : goal.is_any_kept-requires
is_any_kept-requires c = planned-behind c.requires c.if-torn-eq0.false c.seen_at-seen.result c.seen_at-seen.ensures.seen _ c.part_of-body.ensures c.plan_at-plan.result (c.plan_at-plan.ensures.0 c.args.torn.set c.args.torn.file.now c.args.torn.end)

pub returns : goal.returns
returns c = any_left c.requires c.if-torn-eq0.false c.seen_at-seen.result c.seen_at-seen.ensures.seen _ c.part_of-body.ensures c.plan_at-plan.result (c.plan_at-plan.ensures.0 c.args.torn.set c.args.torn.file.now c.args.torn.end) c.is_sound_alone.ensures (c.if-not-is_sound_alone.false) c.is_any_kept.ensures
