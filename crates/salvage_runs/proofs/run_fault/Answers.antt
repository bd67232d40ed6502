use mathlib.Core.Bool.{Bool, cond}
use mathlib.Core.Option.{none, some}
use mathlib.Core.Path.{◌∙◌, sym, ap}
use native.Mathlib.Omega.{arith}
use borrow.Author.Tests.{eq-eqb, ne_eqb}
use Rattle.passes.specs.declared.Fault.TheVariants.{Place}
use Rattle.std.proofs.result.Match.{err_is}
use Rattle.salvage_runs.specs.RunAt.{read_through}
use Rattle.salvage_runs.proofs.Little.{reads_first, reads-roomy, reads-capped, reads_end, reads-fault, reads_on}
use Rattle.salvage_runs.proofs.run_fault.Goals as goal

pub loop-at-init : goal.loop-at-init
loop-at-init c = reads_first _ _ _ _ _ _ c.behind_header-s.ensures

pub judge_next-requires : goal.judge_next-requires
judge_next-requires c = reads-roomy c.args.set c.args.file.now c.args.heading c.args.from c.args.end c.loop-at.invariant c.requires (omega (arith, c.loop-at-test.true))

pub moved-s-requires : goal.moved-s-requires
moved-s-requires c = (reads-roomy c.args.set c.args.file.now c.args.heading c.args.from c.args.end c.loop-at.invariant c.requires (omega (arith, c.loop-at-test.true)), reads-capped c.args.set c.args.file.now c.args.heading c.args.from c.args.end c.loop-at.invariant c.requires)

pub returns-then-s-eq50 : goal.returns-then-s-eq50
returns-then-s-eq50 c = λ w. ap (λ (b : Bool). read_through (cond b (some Place) none)) (sym (eq-eqb _ _ c.if-s-eq50.true)) ∙ reads_end c.args.set c.args.file.now c.args.heading c.args.from c.args.end c.loop-at.invariant w c.loop-at-test.false

pub returns : goal.returns
returns c = λ w. ap (λ (b : Bool). read_through (cond b (some Place) none)) (sym (ne_eqb _ _ c.if-s-eq50.false)) ∙ reads_end c.args.set c.args.file.now c.args.heading c.args.from c.args.end c.loop-at.invariant w c.loop-at-test.false

pub returns-in_err-kind : goal.returns-in_err-kind
returns-in_err-kind c = λ w. err_is _ _ c.from_residual.ensures.1 ∙ sym (ap read_through (reads-fault c.args.set c.args.file.now c.args.heading c.args.from c.args.end c.loop-at.invariant w c.loop-at-test.true c.seen_at-seen.result c.seen_at-seen.ensures.seen _ c.part_of-body.ensures c.judge_next.result c.judge_next.ensures _ c.in_err-kind.was))

pub loop-at-smaller : goal.loop-at-smaller
loop-at-smaller c = omega (arith, c.loop-at-test.true, c.seen_at-seen.ensures.onward c.loop-at-test.true)

pub loop-at-preserved : goal.loop-at-preserved
loop-at-preserved c = λ w. reads_on c.args.set c.args.file.now c.args.heading c.args.from c.args.end c.loop-at.invariant w c.loop-at-test.true c.seen_at-seen.result c.seen_at-seen.ensures.seen _ c.part_of-body.ensures c.judge_next.result c.judge_next.ensures _ c.in_ok-kind.was _ c.moved-s.ensures
