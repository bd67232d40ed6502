use Rattle.std.proofs.Common.{◌≡◌, ◌&&◌, not, true, false, rules, ℕ, map}
use Rattle.std.proofs.lemmas.Iterator.{first_from_find, YieldsList-from_slice}
use Rattle.slow_record.specs.Rows.{entry_of, is_field, field_holds, fields_of, wrong_field}
use Rattle.slow_record.proofs.Laws.{wrong-first, found-number}
use Rattle.slow_record.proofs.first_wrong.Goals as goal

pub returns : goal.returns
returns c =
    let test = λ (x : ℕ). is_field c.args.kind (entry_of x) && not (field_holds c.args.set (entry_of x) c.args.body.now) in
    found-number _ (wrong_field c.args.set (fields_of c.args.kind (map entry_of c.args.lines.now)) c.args.body.now) (λ (x : ℕ). (entry_of x).number) _
    (wrong-first c.args.set c.args.kind c.args.body.now c.args.lines.now _
    (first_from_find _ _ _ (λ x. test x ≡ true) (λ x. test x ≡ false) c.find.ensures.ran (YieldsList-from_slice c.args.lines.now cc) (λ x q k. search rules) (λ x q k. search rules)))
    c.and_then.ensures (λ e. search rules) (λ x e. search rules)
