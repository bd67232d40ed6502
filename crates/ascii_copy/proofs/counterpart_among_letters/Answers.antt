use mathlib.Core.Path.{refl}
use mathlib.Core.List.{[], ◌∷◌}
use native.Mathlib.Omega.{arith}
use Rattle.text.specs.Capitals.{capital}
use Rattle.ascii_copy.specs.CodePage037.{counterpart}
use Rattle.ascii_copy.proofs.Counterparts.{single, stands-for-none}
use Rattle.ascii_copy.proofs.counterpart_among_letters.Goals as goal

pub returns-in_default : goal.returns-in_default
unfolding counterpart capital
returns-in_default c =
    stands-for-none
    (0xE0 ∷ 0xD0 ∷ 0xC0 ∷ 0xBB ∷ 0xBA ∷ 0xB0 ∷ 0xA1 ∷ [])
    0x80 0x80 refl c.args.byte (omega arith) (omega arith) c.requires.1 c.in_default.in_default-own.rest

pub returns-in-161 : goal.returns-in-161
unfolding counterpart
returns-in-161 c = single 0xA1 0x7E _ refl c.in-161.is

pub returns-in-176 : goal.returns-in-176
unfolding counterpart
returns-in-176 c = single 0xB0 0x5E _ refl c.in-176.is

pub returns-in-186 : goal.returns-in-186
unfolding counterpart
returns-in-186 c = single 0xBA 0x5B _ refl c.in-186.is

pub returns-in-187 : goal.returns-in-187
unfolding counterpart
returns-in-187 c = single 0xBB 0x5D _ refl c.in-187.is

pub returns-in-192 : goal.returns-in-192
unfolding counterpart
returns-in-192 c = single 0xC0 0x7B _ refl c.in-192.is

pub returns-in-208 : goal.returns-in-208
unfolding counterpart
returns-in-208 c = single 0xD0 0x7D _ refl c.in-208.is

pub returns-in-224 : goal.returns-in-224
unfolding counterpart
returns-in-224 c = single 0xE0 0x5C _ refl c.in-224.is
