use Rattle.std.proofs.Common.{◌+◌, ◌-◌}
use Rattle.std.proofs.lemmas.List.{drop-drop}
use Rattle.slow_figures.proofs.field_at.Goals as goal

pub returns : goal.returns
returns c = rw (c.part_of.ensures, c.behind-body.ensures, c.behind.ensures, c.place_of.ensures, drop-drop 4 c.args.offset c.args.file.now, drop-drop (c.args.first - 1) (c.args.offset + 4) c.args.file.now)
