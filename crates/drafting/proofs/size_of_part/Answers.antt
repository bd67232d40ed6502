use mathlib.Core.Path.{◌∙◌}
use native.Mathlib.Omega.{arith}
use lib.ListN.{length}
use Rattle.judge.proofs.Dispatch.{Whole, whole, not_none}
use Rattle.drafting.proofs.Sizes.{size_none, size-past, size-there}
use Rattle.drafting.proofs.size_of_part.Goals as goal

pub returns-then-own-eq0 : goal.returns-then-own-eq0
returns-then-own-eq0 c = size_none c.args.set c.args.body.now c.args.own.now c.args.i c.if-own-eq0.true c.requires.1

pub returns-then-count-i : goal.returns-then-count-i
returns-then-count-i c = size-past c.args.set c.args.body.now c.args.own.now c.args.i (not_none (length c.args.own.now) c.if-own-eq0.false) (omega (arith, c.parts_in-count.ensures, c.if-count-i.true)) c.requires.1

pub overflow_sub-first : goal.overflow_sub-first
overflow_sub-first c = let w : Whole c.args.own.now = whole c.args.own.now (not_none (length c.args.own.now) c.if-own-eq0.false) c.requires.0 in omega (arith, w.parts, c.parts_in-count.ensures, c.fields_in.ensures)

pub bounds-own-first : goal.bounds-own-first
bounds-own-first c = let w : Whole c.args.own.now = whole c.args.own.now (not_none (length c.args.own.now) c.if-own-eq0.false) c.requires.0 in omega (arith, w.fields, w.parts, c.parts_in-count.ensures, c.fields_in.ensures, c.if-count-i.false)

pub returns : goal.returns
returns c =
    c.stated_size.ensures 0
    ∙ rw (c.fields_in.ensures, c.parts_in-count.ensures)
    (size-there c.args.set c.args.body.now c.args.own.now c.args.i (not_none (length c.args.own.now) c.if-own-eq0.false) c.requires.0 (omega (arith, c.parts_in-count.ensures, c.if-count-i.false)) c.requires.1)
