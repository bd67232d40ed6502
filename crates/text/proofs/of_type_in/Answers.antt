use Rattle.text.proofs.Laws.{binary-passes}
use Rattle.text.proofs.of_type_in.Goals as goal

pub returns-in-Binary : goal.returns-in-Binary
returns-in-Binary g c = rw c.in-Binary.is (binary-passes g.S.Charset.set c.args.s.now)
