use mathlib.Core.Path.{sym, ◌∙◌}
use Rattle.salvage_next.proofs.Entries.{underway, entry-closing, entry_kept, entry-control, entry_ending}
use Rattle.salvage_next.proofs.next_entry.Goals as goal
use Rattle.salvage_next.proofs.next_entry.Goals.{then-kind-eq99, else-kind-eq99}

pub next_left-mark-requires : goal.next_left-mark-requires
next_left-mark-requires c = underway _ _ _ _ c.requires.1

pub returns-then-cue-closes_first : goal.returns-then-cue-closes_first
returns-then-cue-closes_first c = λ vs q. entry-closing _ _ _ _ c.requires.0 c.next_left-mark.result c.next_left-mark.ensures c.closes_first.result c.closes_first.ensures vs q c.if-cue-closes_first.true c.new_control.result c.new_control.ensures

pub returns-then-is_kept : goal.returns-then-is_kept
returns-then-is_kept c = λ vs q. entry_kept _ _ _ _ c.requires.0 c.next_left-mark.result c.next_left-mark.ensures c.closes_first.result c.closes_first.ensures vs q c.if-cue-closes_first.false (sym c.is_kept.ensures ∙ c.if-is_kept.true) c.kept_entry.result c.kept_entry.ensures

pub returns : goal.returns
returns c = λ vs q. elim c.if-kind-eq99.branch [
  | then-kind-eq99 w ↦ entry_ending _ _ _ _ c.requires.0 c.next_left-mark.result c.next_left-mark.ensures c.closes_first.result c.closes_first.ensures vs q c.if-cue-closes_first.false (sym c.is_kept.ensures ∙ c.if-is_kept.false) _ c.new_control-2.result c.new_control-2.ensures w.if-kind-eq99.true w.made-is
  | else-kind-eq99 w ↦ entry-control _ _ _ _ c.requires.0 c.next_left-mark.result c.next_left-mark.ensures c.closes_first.result c.closes_first.ensures vs q c.if-cue-closes_first.false (sym c.is_kept.ensures ∙ c.if-is_kept.false) _ c.new_control-2.result c.new_control-2.ensures w.if-kind-eq99.false w.made-is
]
