use mathlib.Core.List.{[], ◌∷◌}
use mathlib.Core.Path.{◌∙◌, ap}
use native.Mathlib.Omega.{arith}
use Rattle.standing.specs.History.{entry}
use Rattle.standing.specs.Standing.{onward, capped_figures}
use Rattle.standing.specs.declared.Standing.{Standing}
use Rattle.standing.proofs.Laws.{moved_on}
use Rattle.salvage_runs.specs.Places.{placed_at}
use Rattle.salvage_runs.proofs.Little.{few-move}
use Rattle.salvage_runs.proofs.behind_header.Goals as goal

pub moved-first-requires : goal.moved-first-requires
moved-first-requires c = few-move c.args.set c.args.file.now [] _ (c.start.ensures c.args.set c.args.file.now) (omega arith)

pub moved-s-requires : goal.moved-s-requires
moved-s-requires c = few-move c.args.set c.args.file.now (entry 1 c.args.heading 0 ∷ []) _ (moved_on c.args.set c.args.file.now [] _ _ 1 c.args.heading 0 (c.start.ensures c.args.set c.args.file.now) c.moved-first.ensures) (omega arith)

pub returns : goal.returns
returns c = ap (λ (u : Standing). placed_at u c.args.heading) (c.moved-s.ensures ∙ ap (λ (u : Standing). capped_figures (onward c.args.set c.args.file.now u 10 c.args.heading)) (c.moved-first.ensures ∙ ap (λ (u : Standing). capped_figures (onward c.args.set c.args.file.now u 1 c.args.heading)) (c.start.ensures c.args.set c.args.file.now)))
