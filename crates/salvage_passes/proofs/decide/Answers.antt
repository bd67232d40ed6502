use mathlib.Core.Path.{refl, sym, ◌∙◌}
use mathlib.Core.List.{[]}
use borrow.Author.Tests.{not-true, not-false}
use Rattle.text.specs.declared.character_set.CharacterSet.TheVariants.{Ascii}
use Rattle.salvage_passes.proofs.Deciding.{sofar-first, sofar-roomy, sofar-end, next-entered, next-fewer, sofar-stop, sofar-on}
use Rattle.salvage_passes.proofs.decide.Goals as goal

pub loop-at-init : goal.loop-at-init
loop-at-init c = λ all cued. sofar-first cued refl (c.start.ensures Ascii [])

pub next_entry-entry-requires : goal.next_entry-entry-requires
next_entry-entry-requires c = (not-true _ c.loop-at-test.true, record { values = (c.loop-at.invariant c.requires.values c.requires.cued).left; cued = (c.loop-at.invariant c.requires.values c.requires.cued).cued })

pub enter_next-requires : goal.enter_next-requires
enter_next-requires c = next-entered (c.loop-at.invariant c.requires.values c.requires.cued) c.next_entry-entry.ensures

pub returns-in-Err : goal.returns-in-Err
returns-in-Err c = λ all cued. sofar-stop (c.loop-at.invariant all cued) c.next_entry-entry.ensures c.enter_next.result _ c.enter_next.ensures c.in-Err.is _ refl

pub loop-at-smaller : goal.loop-at-smaller
loop-at-smaller c = next-fewer (c.loop-at.invariant c.requires.values c.requires.cued) c.next_entry-entry.ensures

pub loop-at-preserved : goal.loop-at-preserved
loop-at-preserved c = λ all cued. sofar-on (c.loop-at.invariant all cued) c.next_entry-entry.ensures c.enter_next.result _ c.enter_next.ensures c.in-Ok.is

pub rows_ended-requires : goal.rows_ended-requires
rows_ended-requires c = sofar-roomy (c.loop-at.invariant c.requires.values c.requires.cued)

pub returns : goal.returns
returns c = λ all cued. let u = c.loop-at.invariant all cued in c.rows_ended.ensures u.begun.file u.begun.past c.loop-at.sheet u.begun.stands u.begun.size ∙ sym (sofar-end u (not-false _ c.loop-at-test.false))
