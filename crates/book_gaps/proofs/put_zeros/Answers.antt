use Prim.Native.Nat.{ℕ, ◌+◌, ◌-◌}
use native.Mathlib.Omega.{arith}
use mathlib.Core.Path.{◌≡◌, refl, sym, ap, ◌∙◌}
use lib.ListN.{length, replicate}
use Rattle.std.proofs.lemmas.Slice.{put_mid-paste}
use Rattle.copying.specs.Times.{times}
use Rattle.copying.proofs.Laws.{length_part, length-times}
use Rattle.book_gaps.proofs.Stored.{pasted, filled}
use Rattle.book_gaps.proofs.put_zeros.Goals as goal

pub returns : goal.returns
returns c =
    let size : c.args.from + c.args.count - c.args.from ≡ c.args.count = omega arith in
    let many = length_part c.args.book.now c.args.from (c.args.from + c.args.count - c.args.from) (omega arith) ∙ size in
    let long = length-times c.args.count 0 in
    put_mid-paste c.args.from (c.args.from + c.args.count - c.args.from) c.args.book.now c.fill.new.self (times c.args.count 0) (length (times c.args.count 0)) (c.fill.ensures.after (λ y e. e) ∙ ap (λ (n : ℕ). replicate n 0) many ∙ filled c.args.count 0) (long ∙ sym size) refl
    ∙ pasted c.args.book.now (times c.args.count 0) c.args.from (omega (arith, long))
