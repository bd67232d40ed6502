use Prim.Native.Nat.{◌-◌}
use lib.ListN.{length}
use Rattle.book.proofs.Letters.{Writing}
use Rattle.book.proofs.put_letters.Given as goal

abbrev pub invariant-loop-at : goal.invariant-loop-at
invariant-loop-at l = Writing l.set l.file l.initial.book l.number l.owner l.last l.claimed l.at l.s l.book l.place l.rows l.given

abbrev pub decreases-loop-at : goal.decreases-loop-at
decreases-loop-at l = length l.file - l.at
