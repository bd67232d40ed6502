use Rattle.std.proofs.Common.{◌≡◌, true, false, rules}
use Rattle.std.proofs.lemmas.Iterator.{cases_from_all, YieldsList-from_slice}
use Rattle.text.specs.DataTypes.{admits}
use Rattle.slow_text.proofs.Laws.{every-told}
use Rattle.slow_text.proofs.data_types.all_may_stand.Goals as goal

pub returns : goal.returns
returns c = every-told (admits c.args.set c.args.t) _ c.args.s.now (cases_from_all _ _ _ (λ x. admits c.args.set c.args.t x ≡ true) (λ x. admits c.args.set c.args.t x ≡ false) c.all.ensures.ran (YieldsList-from_slice c.args.s.now cc) (λ x q k. search rules) (λ x q k. search rules))
