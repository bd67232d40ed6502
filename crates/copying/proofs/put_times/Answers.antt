use mathlib.Core.Path.{sym, ◌∙◌, ap}
use lib.ListN.{replicate, length-take, length-drop, length-replicate}
use native.Mathlib.Omega.{arith}
use Rattle.copying.proofs.Laws.{put-part, times-are}
use Rattle.copying.proofs.put_times.Goals as goal

pub returns : goal.returns
returns c =
    put-part _ _ _ c.args.at c.args.size c.requires (rw (times-are c.args.size c.args.byte) (length-replicate c.args.size c.args.byte))
    (c.fill.ensures.after (λ y e. e) ∙ ap (λ n. replicate n c.args.byte) (simp (length-take, length-drop) (omega arith)) ∙ sym (times-are c.args.size c.args.byte))
