use Rattle.std.proofs.Common.{◌+◌, sym, ◌∙◌, ap, arith, cond, map, drop, get_or}
use lib.Dec.{eqb}
use borrow.Author.Tests.{ne_eqb}
use Rattle.judge.proofs.Laws.{eqb-sub}
use Rattle.slow_record.specs.Rows.{entry_of, parts_of, is_part, stated_in, stated}
use Rattle.slow_record.proofs.Laws.{stated-line, stated-none}
use Rattle.slow_record.proofs.sizes_fill.Goals as goal

pub returns-in_default : goal.returns-in_default
returns-in_default c =
    let e = c.stated_size.ensures in
    let line = stated-line c.args.set c.args.kind c.args.lines.now c.args.body.now c.loop-line.line-index (omega arith) in
    sym (ne_eqb c.loop-line.rest (stated c.args.set (parts_of c.args.kind (map entry_of (drop c.loop-line.line-index c.args.lines.now))) c.args.body.now) (λ q. c.in_default.ensures (omega arith))) ∙ c.loop-line.invariant

pub loop-line-preserved : goal.loop-line-preserved
loop-line-preserved c =
    let size = cond (is_part c.args.kind (entry_of (get_or c.args.lines.now c.loop-line.line-index 0))) (stated_in c.args.set (entry_of (get_or c.args.lines.now c.loop-line.line-index 0)) c.args.body.now) 0 in
    rw (c.in-Some.ensures.1, c.stated_size.ensures) (sym (eqb-sub c.loop-line.rest size (stated c.args.set (parts_of c.args.kind (map entry_of (drop (c.loop-line.line-index + 1) c.args.lines.now))) c.args.body.now) (omega (arith, c.in-Some.ensures.0, c.stated_size.ensures))) ∙ ap (eqb c.loop-line.rest) (sym (stated-line c.args.set c.args.kind c.args.lines.now c.args.body.now c.loop-line.line-index (omega arith))) ∙ c.loop-line.invariant)

pub returns : goal.returns
returns c = sym (ap (eqb c.loop-line.rest) (stated-none c.args.set c.args.kind c.args.lines.now c.args.body.now c.loop-line.line-index (omega arith))) ∙ c.loop-line.invariant
