use mathlib.Core.Path.{refl}
use mathlib.Core.List.{[]}
use native.Mathlib.Omega.{arith}
use borrow.Author.Rules.{rules}
use Rattle.text.specs.Capitals.{capital}
use Rattle.ascii_copy.specs.CodePage037.{counterpart}
use Rattle.ascii_copy.proofs.Counterparts.{in-run, in-gap, stands-for-none}
use Rattle.ascii_copy.proofs.counterpart_of.Goals as goal

pub counterpart_below_80-requires : goal.counterpart_below_80-requires
unfolding counterpart capital
counterpart_below_80-requires c = search rules

pub returns-then-byte-lt128 : goal.returns-then-byte-lt128
unfolding counterpart capital
returns-then-byte-lt128 c = search rules

pub counterpart_of_letter-requires : goal.counterpart_of_letter-requires
unfolding counterpart capital
counterpart_of_letter-requires c = search rules

pub returns-then-byte-lt240 : goal.returns-then-byte-lt240
unfolding counterpart capital
returns-then-byte-lt240 c = search rules

pub overflow_add-result : goal.overflow_add-result
unfolding counterpart capital
overflow_add-result c = search rules

pub returns-then-byte-le249 : goal.returns-then-byte-le249
unfolding counterpart capital
returns-then-byte-le249 c = in-run 0xF0 10 0x30 refl c.args.byte (omega arith) (omega arith)

pub returns : goal.returns
unfolding counterpart capital
returns c = stands-for-none [] 0xFA 6 refl c.args.byte (omega arith) (omega arith)
    (in-gap 0xFA 6 refl c.args.byte (omega arith) (omega arith)) tt
