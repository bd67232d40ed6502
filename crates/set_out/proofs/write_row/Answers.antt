use Rattle.set_out.proofs.Rows.{row-ready, row-set-out}
use native.Mathlib.Omega.{arith}
use Rattle.set_out.proofs.write_row.Goals as goal

pub write_counted-requires : goal.write_counted-requires
write_counted-requires c = (c.requires.0, row-ready c.args.set c.args.text.now c.args.rows.now c.args.out.now c.requires.0 c.requires.1 (c.addenda_behind-addenda.ensures.0 c.args.set c.args.text.now))

pub returns : goal.returns
returns c = record { some = omega (arith, c.write_counted.ensures.0); within = omega (arith, c.write_counted.ensures.0, c.requires.0); onward = λ b. row-set-out c.args.set c.args.text.now c.args.rows.now c.args.out.now c.requires.0 b (c.addenda_behind-addenda.ensures.0 c.args.set c.args.text.now) c.write_counted.ensures.0 c.write_counted.ensures.1 }
