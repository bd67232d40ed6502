use mathlib.Core.Path.{refl}
use Rattle.salvage_marks.proofs.Marks.{left-of-file}
use Rattle.salvage_marks.proofs.Torn.plan_of_file.Goals as goal

pub returns : goal.returns
returns c = (λ b bs s l. left-of-file c.args.self.set c.args.self.file.now c.seen_at-next.result.next c.args.self.end b bs (c.seen_at-next.ensures.seen b s.0).next s l, refl)
