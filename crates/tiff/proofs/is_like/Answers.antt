use native.Mathlib.Nat.{mul-le-mul}
use native.Mathlib.Omega.{arith}
use Rattle.tiff.specs.Required.{is_like, numerator, denominator}
use Rattle.tiff.proofs.is_like.Goals as goal

pub overflow_mul-product : goal.overflow_mul-product
overflow_mul-product c = let h = mul-le-mul c.long_at.ensures.1 c.long_at-2.ensures.1 in omega arith

pub overflow_mul-other : goal.overflow_mul-other
overflow_mul-other c = let h = mul-le-mul c.long_at-3.ensures.1 c.long_at-4.ensures.1 in omega arith

pub returns : goal.returns
unfolding is_like numerator denominator
returns c = rw (c.long_at.ensures.0, c.long_at-2.ensures.0, c.long_at-3.ensures.0, c.long_at-4.ensures.0)
