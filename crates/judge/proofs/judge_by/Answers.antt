use Prim.Native.Nat.{ℕ, ◌+◌, ◌-◌, ◌≤◌}
use mathlib.Core.Path.{◌≡◌, ◌∙◌, ap}
use lib.ListN.{length, get_or, take, drop}
use Rattle.layout.specs.Packing.{lines_from, sized_from, fields_in, parts_in, long_in}
use Rattle.judge.specs.Alone.{judged}
use borrow.Author.Rules.{rules}
use Rattle.judge.proofs.Dispatch.{own-judged}
use Rattle.judge.proofs.judge_by.Goals as goal

pub returns : goal.returns
returns c =
    let head : c.in-Some.field-0.now ≡ get_or c.args.own.now 0 0 = search rules in
    let any : 1 ≤ length c.args.own.now = search rules in
    let long : c.length_in-fixed.result ≡ long_in (get_or c.args.own.now 0 0) = cc in
    let to : c.fields_in-end.result + 1 ≡ fields_in (get_or c.args.own.now 0 0) + 1 = cc in
    let from : c.fields_in-end.result + 1 - c.parts_in.result ≡ c.fields_in-end.result + 1 - parts_in (get_or c.args.own.now 0 0) = cc in
    c.judge_body.ensures
    ∙ ap (λ (n : ℕ). judged c.args.set n (lines_from 1 (take ((c.fields_in-end.result + 1 - c.parts_in.result) - 1) (drop 1 c.args.own.now))) (sized_from (length (take ((c.fields_in-end.result + 1 - c.parts_in.result) - 1) (drop 1 c.args.own.now)) + 1) (take ((c.fields_in-end.result + 1) - (c.fields_in-end.result + 1 - c.parts_in.result)) (drop (c.fields_in-end.result + 1 - c.parts_in.result) c.args.own.now))) c.args.body.now) long
    ∙ own-judged c.args.set c.args.own.now (c.fields_in-end.result + 1 - c.parts_in.result) (c.fields_in-end.result + 1) any c.requires to from c.args.body.now
