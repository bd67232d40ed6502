use Rattle.std.proofs.lemmas.Iterator.{YieldsList-from_slice}
use Rattle.std.proofs.lemmas.Iterator.Search.{any_from_yields_List}
use Rattle.text.specs.DataTypes.{is_mark}
use Rattle.text.proofs.Laws.{some_from_any}
use borrow.Author.Rules.{rules}
use Rattle.text.proofs.has_mark.Goals as goal

pub returns : goal.returns
returns c = some_from_any (is_mark c.args.set c.args.t) c.any.result c.args.s.now (any_from_yields_List (is_mark c.args.set c.args.t) _ _ c.any.result c.any.ensures.ran (YieldsList-from_slice c.args.s.now cc) (λ x b q k. search rules))
