use Rattle.std.proofs.Common.{◌≡◌, true, false, rules, ℕ, map}
use Rattle.std.proofs.lemmas.Iterator.{first_from_find, YieldsList-from_slice}
use Rattle.slow_record.specs.Rows.{entry_of, is_record, length_of}
use Rattle.slow_record.proofs.Laws.{length-first, found-number}
use Rattle.slow_record.proofs.fixed_length.Goals as goal

pub returns : goal.returns
returns c =
    let test = λ (x : ℕ). is_record c.args.kind (entry_of x) in
    found-number _ (length_of c.args.kind (map entry_of c.args.lines.now)) (λ (x : ℕ). (entry_of x).size) _
    (length-first c.args.kind c.args.lines.now _
    (first_from_find _ _ _ (λ x. test x ≡ true) (λ x. test x ≡ false) c.find.ensures.ran (YieldsList-from_slice c.args.lines.now cc) (λ x q k. search rules) (λ x q k. search rules)))
    c.and_then.ensures (λ e. search rules) (λ x e. search rules)
