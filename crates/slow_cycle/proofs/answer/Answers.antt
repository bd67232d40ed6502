use Rattle.std.proofs.Common.{sym, rules, unwrap_or}
use Rattle.slow_record.proofs.Types.{type-told}
use Rattle.slow_step.specs.Places.{type_at}
use Rattle.slow_cycle.proofs.Laws.{first-called, first-turned-away}
use Rattle.slow_cycle.proofs.answer.Goals as goal

pub file_header-requires : goal.file_header-requires
file_header-requires c =
    first-called c.args.set c.args.file.now c.start-s.result c.requires.0 c.requires.1 (c.start-s.ensures c.args.set c.args.file.now)
    (unwrap_or c.type_at.result 0) (sym (type-told c.type_at.result (type_at c.args.set c.args.file.now 0) c.type_at.ensures)) (search rules)

pub not_called_for-requires : goal.not_called_for-requires
not_called_for-requires c =
    first-turned-away c.args.set c.args.file.now c.start-s.result c.requires.0 c.requires.1 (c.start-s.ensures c.args.set c.args.file.now)
    (unwrap_or c.type_at.result 0) (sym (type-told c.type_at.result (type_at c.args.set c.args.file.now 0) c.type_at.ensures)) (search rules)
