use mathlib.Core.Path.{refl}
use mathlib.Core.List.{[], ◌∷◌}
use native.Mathlib.Omega.{arith}
use Rattle.text.specs.Capitals.{capital}
use Rattle.ascii_copy.specs.CodePage037.{counterpart}
use Rattle.ascii_copy.proofs.Counterparts.{in-gap, single, stands-for-none}
use Rattle.ascii_copy.proofs.counterpart_below_80.Goals as goal

pub returns-in_default : goal.returns-in_default
unfolding counterpart capital
returns-in_default c =
    stands-for-none
    (0x7F ∷ 0x7E ∷ 0x7D ∷ 0x7C ∷ 0x7B ∷ 0x7A ∷ 0x79 ∷ 0x6F ∷ 0x6E ∷ 0x6D ∷ 0x6C ∷ 0x6B ∷ 0x61 ∷ 0x60 ∷ 0x5E ∷ 0x5D ∷ 0x5C ∷ 0x5B ∷ 0x5A ∷ 0x50 ∷ 0x4F ∷ 0x4E ∷ 0x4D ∷ 0x4C ∷ 0x4B ∷ 0x40 ∷ [])
    0 0x80 refl c.args.byte (omega arith) (omega arith)
    (in-gap 0 0x80 refl c.args.byte (omega arith) (omega arith)) c.in_default.in_default-own.rest

pub returns-in-64 : goal.returns-in-64
unfolding counterpart
returns-in-64 c = single 0x40 0x20 _ refl c.in-64.is

pub returns-in-75 : goal.returns-in-75
unfolding counterpart
returns-in-75 c = single 0x4B 0x2E _ refl c.in-75.is

pub returns-in-76 : goal.returns-in-76
unfolding counterpart
returns-in-76 c = single 0x4C 0x3C _ refl c.in-76.is

pub returns-in-77 : goal.returns-in-77
unfolding counterpart
returns-in-77 c = single 0x4D 0x28 _ refl c.in-77.is

pub returns-in-78 : goal.returns-in-78
unfolding counterpart
returns-in-78 c = single 0x4E 0x2B _ refl c.in-78.is

pub returns-in-79 : goal.returns-in-79
unfolding counterpart
returns-in-79 c = single 0x4F 0x7C _ refl c.in-79.is

pub returns-in-80 : goal.returns-in-80
unfolding counterpart
returns-in-80 c = single 0x50 0x26 _ refl c.in-80.is

pub returns-in-90 : goal.returns-in-90
unfolding counterpart
returns-in-90 c = single 0x5A 0x21 _ refl c.in-90.is

pub returns-in-91 : goal.returns-in-91
unfolding counterpart
returns-in-91 c = single 0x5B 0x24 _ refl c.in-91.is

pub returns-in-92 : goal.returns-in-92
unfolding counterpart
returns-in-92 c = single 0x5C 0x2A _ refl c.in-92.is

pub returns-in-93 : goal.returns-in-93
unfolding counterpart
returns-in-93 c = single 0x5D 0x29 _ refl c.in-93.is

pub returns-in-94 : goal.returns-in-94
unfolding counterpart
returns-in-94 c = single 0x5E 0x3B _ refl c.in-94.is

pub returns-in-96 : goal.returns-in-96
unfolding counterpart
returns-in-96 c = single 0x60 0x2D _ refl c.in-96.is

pub returns-in-97 : goal.returns-in-97
unfolding counterpart
returns-in-97 c = single 0x61 0x2F _ refl c.in-97.is

pub returns-in-107 : goal.returns-in-107
unfolding counterpart
returns-in-107 c = single 0x6B 0x2C _ refl c.in-107.is

pub returns-in-108 : goal.returns-in-108
unfolding counterpart
returns-in-108 c = single 0x6C 0x25 _ refl c.in-108.is

pub returns-in-109 : goal.returns-in-109
unfolding counterpart
returns-in-109 c = single 0x6D 0x5F _ refl c.in-109.is

pub returns-in-110 : goal.returns-in-110
unfolding counterpart
returns-in-110 c = single 0x6E 0x3E _ refl c.in-110.is

pub returns-in-111 : goal.returns-in-111
unfolding counterpart
returns-in-111 c = single 0x6F 0x3F _ refl c.in-111.is

pub returns-in-121 : goal.returns-in-121
unfolding counterpart
returns-in-121 c = single 0x79 0x60 _ refl c.in-121.is

pub returns-in-122 : goal.returns-in-122
unfolding counterpart
returns-in-122 c = single 0x7A 0x3A _ refl c.in-122.is

pub returns-in-123 : goal.returns-in-123
unfolding counterpart
returns-in-123 c = single 0x7B 0x23 _ refl c.in-123.is

pub returns-in-124 : goal.returns-in-124
unfolding counterpart
returns-in-124 c = single 0x7C 0x40 _ refl c.in-124.is

pub returns-in-125 : goal.returns-in-125
unfolding counterpart
returns-in-125 c = single 0x7D 0x27 _ refl c.in-125.is

pub returns-in-126 : goal.returns-in-126
unfolding counterpart
returns-in-126 c = single 0x7E 0x3D _ refl c.in-126.is

pub returns-in-127 : goal.returns-in-127
unfolding counterpart
returns-in-127 c = single 0x7F 0x22 _ refl c.in-127.is
