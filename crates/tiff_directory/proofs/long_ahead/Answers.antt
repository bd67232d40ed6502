use Prim.Native.Nat.{◌+◌}
use mathlib.Core.Path.{◌≡◌, ap, ◌∙◌}
use native.Mathlib.Omega.{arith}
use borrow.Author.Rules.{rules}
use lib.ListN.{get_or}
use Rattle.tiff_directory.specs.Entries.{short_at, long_at}
use Rattle.tiff_directory.proofs.long_ahead.Goals as goal

pub returns : goal.returns
unfolding long_at short_at
returns c =
    let image = c.args.image.now in
    let place = c.args.at + c.args.ahead in
    let second : c.byte_ahead-2.result ≡ get_or image (place + 1) 0 = c.byte_ahead-2.ensures ∙ ap (λ n. get_or image n 0) (omega arith) in
    let third : c.byte_ahead-3.result ≡ get_or image (place + 2) 0 = c.byte_ahead-3.ensures ∙ ap (λ n. get_or image n 0) (omega arith) in
    let fourth : c.byte_ahead-4.result ≡ get_or image (place + 2 + 1) 0 = c.byte_ahead-4.ensures ∙ ap (λ n. get_or image n 0) (omega arith) in
    (c.from.ensures ∙ c.from_le_bytes.ensures ∙ omega (arith, c.byte_ahead.ensures, second, third, fourth), search rules)
