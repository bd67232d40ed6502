use mathlib.Core.Path.{sym, ◌∙◌}
use native.Mathlib.Omega.{arith}
use Rattle.salvage_runs.proofs.Groups.{seeks-end, seeks-within, seeks-run, seeks-other, seeks-found, seeks-unsound}
use Rattle.salvage_runs.proofs.any_bundle.Goals as goal
use Rattle.salvage_runs.proofs.any_bundle.Goals.{else-is_bundle-via-then-is_bundle+else-is_ok, else-is_bundle-via-else-is_bundle}

pub returns : goal.returns
returns c = λ w. seeks-end c.args.set c.args.file.now c.args.heading c.args.from c.args.end c.loop-at.invariant w c.loop-at-test.false

pub run_fault-requires : goal.run_fault-requires
run_fault-requires c = seeks-run c.args.set c.args.file.now c.args.heading c.args.from c.args.end c.loop-at.invariant c.requires c.loop-at-test.true c.group_at-stop.result c.group_at-stop.ensures.group

pub returns-then-is_ok : goal.returns-then-is_ok
returns-then-is_ok c = λ w. seeks-found c.args.set c.args.file.now c.args.heading c.args.from c.args.end c.loop-at.invariant w c.loop-at-test.true c.group_at-stop.result c.group_at-stop.ensures.group (sym c.is_bundle.ensures ∙ c.if-is_bundle.true) _ c.run_fault.ensures (sym c.is_ok.ensures.value ∙ c.if-is_ok.true)

pub loop-at-smaller : goal.loop-at-smaller
loop-at-smaller c = omega (arith, c.loop-at-test.true, (seeks-within c.args.set c.args.file.now c.args.heading c.args.from c.args.end c.loop-at.invariant c.requires c.loop-at-test.true c.group_at-stop.result c.group_at-stop.ensures.group).0)

pub loop-at-preserved : goal.loop-at-preserved
loop-at-preserved c = λ w. elim c.else-is_bundle.branch [
  | else-is_bundle-via-then-is_bundle+else-is_ok b ↦ seeks-unsound c.args.set c.args.file.now c.args.heading c.args.from c.args.end c.loop-at.invariant w c.loop-at-test.true c.group_at-stop.result c.group_at-stop.ensures.group (sym c.is_bundle.ensures ∙ b.if-is_bundle.true) _ b.run_fault.ensures (sym b.is_ok.ensures.value ∙ b.if-is_ok.false)
  | else-is_bundle-via-else-is_bundle b ↦ seeks-other c.args.set c.args.file.now c.args.heading c.args.from c.args.end c.loop-at.invariant w c.loop-at-test.true c.group_at-stop.result c.group_at-stop.ensures.group (sym c.is_bundle.ensures ∙ b.if-is_bundle.false)
]
