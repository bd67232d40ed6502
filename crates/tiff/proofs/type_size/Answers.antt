use mathlib.Core.Path.{◌≡◌}
use borrow.Author.Rules.{rules}
use Rattle.tiff.specs.Image.{type_size}
use Rattle.tiff.proofs.Laws.{size_small}
use Rattle.tiff.proofs.type_size.Goals as goal

pub returns : goal.returns
unfolding type_size
returns c =
    let is : c.unwrap_or.result ≡ type_size c.args.kind = search rules in
    (is, rw is (size_small c.args.kind))
