use mathlib.Core.Path.{refl, sym, ap}
use Prim.Native.Nat.{◌+◌}
use borrow.Author.Tests.{le-leb, lt-leb}
use Rattle.tiff.specs.Image.{directory_inside, entry_count, directory_start}
use Rattle.tiff.proofs.Directory.within.Goals as goal

pub returns-then-image-start : goal.returns-then-image-start
unfolding directory_inside entry_count directory_start
returns-then-image-start c = rw (sym c.long_at-start.ensures.0, sym c.short_at-count.ensures.0) (lt-leb _ _ c.if-image-start.true)

pub returns : goal.returns
unfolding directory_inside entry_count directory_start
returns c = record {
  inside = rw (sym c.long_at-start.ensures.0, sym c.short_at-count.ensures.0) (le-leb _ _ c.if-image-start.false);
  same = refl;
  first-is = ap (λ n. n + 2) c.long_at-start.ensures.0;
  count-is = rw (sym c.long_at-start.ensures.0) c.short_at-count.ensures.0;
}
