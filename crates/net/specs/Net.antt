-- The net position: credit cents minus debit cents, "below zero when debits exceed" (request 9, reading 58).
use Rattle.std.specs.Prelude.{ℕ, Bool, ◌&&◌, eqb, ℤ, pos, negsuc}
use Rattle.std.proofs.Math.IntN.{sub_ℕ}
use Rattle.std.specs.Int.Signed.{le_z}
use Rattle.std.specs.Int.{w64}
use Rattle.std.proofs.Common.{to_z, of_z}

abbrev pub net_of : ℕ → ℕ → ℤ
net_of credit debit = sub_ℕ credit debit

-- "in the table as two's complement": the 64 bits of a number, and the number that 64 bits say
abbrev pub bits_of : ℤ → ℕ
bits_of net = of_z w64 net

abbrev pub signed : ℕ → ℤ
signed bits = to_z w64 bits

-- BOOK where it is not that sum; a sum that no i64 holds is none (reading 58)
unfoldable pub is_net : ℕ → ℤ → Bool
is_net bits net = le_z (negsuc 0x7FFF_FFFF_FFFF_FFFF) net && le_z net (pos 0x7FFF_FFFF_FFFF_FFFF) && eqb bits (bits_of net)

-- RANGE "beyond 10^18 cents either side" (request 9); exactly 10^18 is allowed (reading 58)
unfoldable pub within : ℤ → Bool
within net = le_z (negsuc 999_999_999_999_999_999) net && le_z net (pos 1_000_000_000_000_000_000)
