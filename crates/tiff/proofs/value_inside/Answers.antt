use native.Mathlib.Nat.{mul-le-mul}
use native.Mathlib.Omega.{arith}
use Rattle.tiff.specs.Image.{value_inside}
use Rattle.tiff.proofs.value_inside.Goals as goal

pub overflow_mul-size : goal.overflow_mul-size
overflow_mul-size c = let h = mul-le-mul c.requires.0 c.type_size.ensures.1 in omega arith

pub overflow_add-result : goal.overflow_add-result
overflow_add-result c = let h = mul-le-mul c.requires.0 c.type_size.ensures.1 in omega arith

pub returns : goal.returns
unfolding value_inside
returns c = rw c.type_size.ensures.0
