use mathlib.Core.Path.{refl}
use native.Mathlib.Omega.{arith}
use Rattle.text.specs.Capitals.{capital}
use Rattle.ascii_copy.specs.CodePage037.{counterpart}
use Rattle.ascii_copy.proofs.Counterparts.{in-run, in-gap}
use Rattle.ascii_copy.proofs.counterpart_of_letter.Goals as goal
use Rattle.ascii_copy.proofs.counterpart_of_letter.Goals.{in_default-via-then-byte-lt193+then-byte-lt129, in_default-via-then-byte-lt193+else-byte-lt129+else-byte-lt138+then-byte-lt145, in_default-via-then-byte-lt193+else-byte-lt129+else-byte-lt138+else-byte-lt145+else-byte-lt154+then-byte-lt162, in_default-via-then-byte-lt193+else-byte-lt129+else-byte-lt138+else-byte-lt145+else-byte-lt154+else-byte-lt162+else-byte-lt170, in_default-via-else-byte-lt193+else-byte-lt202+then-byte-lt209, in_default-via-else-byte-lt193+else-byte-lt202+else-byte-lt209+else-byte-lt218+then-byte-lt226, in_default-via-else-byte-lt193+else-byte-lt202+else-byte-lt209+else-byte-lt218+else-byte-lt226+else-byte-lt234}

pub returns-in-129-to-137 : goal.returns-in-129-to-137
unfolding counterpart
returns-in-129-to-137 c = in-run 0x81 9 0x61 refl c.args.byte (omega arith) (omega arith)

pub returns-in-145-to-153 : goal.returns-in-145-to-153
unfolding counterpart
returns-in-145-to-153 c = in-run 0x91 9 0x6A refl c.args.byte (omega arith) (omega arith)

pub returns-in-162-to-169 : goal.returns-in-162-to-169
unfolding counterpart
returns-in-162-to-169 c = in-run 0xA2 8 0x73 refl c.args.byte (omega arith) (omega arith)

pub returns-in-193-to-201 : goal.returns-in-193-to-201
unfolding counterpart
returns-in-193-to-201 c = in-run 0xC1 9 0x41 refl c.args.byte (omega arith) (omega arith)

pub returns-in-209-to-217 : goal.returns-in-209-to-217
unfolding counterpart
returns-in-209-to-217 c = in-run 0xD1 9 0x4A refl c.args.byte (omega arith) (omega arith)

pub returns-in-226-to-233 : goal.returns-in-226-to-233
unfolding counterpart
returns-in-226-to-233 c = in-run 0xE2 8 0x53 refl c.args.byte (omega arith) (omega arith)

pub counterpart_among_letters-requires : goal.counterpart_among_letters-requires
unfolding capital
counterpart_among_letters-requires c = (c.requires.0, elim c.in_default.branch [ in_default-via-then-byte-lt193+then-byte-lt129 w ↦ in-gap 0x80 1 refl c.args.byte (omega arith) (omega arith) | in_default-via-then-byte-lt193+else-byte-lt129+else-byte-lt138+then-byte-lt145 w ↦ in-gap 0x8A 7 refl c.args.byte (omega arith) (omega arith) | in_default-via-then-byte-lt193+else-byte-lt129+else-byte-lt138+else-byte-lt145+else-byte-lt154+then-byte-lt162 w ↦ in-gap 0x9A 8 refl c.args.byte (omega arith) (omega arith) | in_default-via-then-byte-lt193+else-byte-lt129+else-byte-lt138+else-byte-lt145+else-byte-lt154+else-byte-lt162+else-byte-lt170 w ↦ in-gap 0xAA 23 refl c.args.byte (omega arith) (omega arith) | in_default-via-else-byte-lt193+else-byte-lt202+then-byte-lt209 w ↦ in-gap 0xCA 7 refl c.args.byte (omega arith) (omega arith) | in_default-via-else-byte-lt193+else-byte-lt202+else-byte-lt209+else-byte-lt218+then-byte-lt226 w ↦ in-gap 0xDA 8 refl c.args.byte (omega arith) (omega arith) | in_default-via-else-byte-lt193+else-byte-lt202+else-byte-lt209+else-byte-lt218+else-byte-lt226+else-byte-lt234 w ↦ in-gap 0xEA 6 refl c.args.byte (omega arith) (omega arith) ])
