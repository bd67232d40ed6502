-- The records of a torn file (request 11, reading 60): "Walk the lengths from the start until CUT, a length below 2 or the first 99".
use Rattle.std.specs.Prelude.{ℕ, zero, suc, ◌+◌, cond, List, [], ◌∷◌, leb, eqb, length, Some}
use Rattle.text.specs.CharacterSet.{set_of}
use Rattle.text.specs.declared.character_set.CharacterSet.{CharacterSet}
use Rattle.frame.specs.Frames.{Frame}
use Rattle.frame.specs.Frames.{Cut, Whole}
use Rattle.frame.specs.Frames.{part, frame_at}
use Rattle.judge.specs.Alone.{type_of}
use Rattle.file_as_records.specs.Framed.{Body}

-- behind the first record of type 99, which is walked itself; types by the file's set, from the first two characters alone, whether the record is
-- sound or not (reading 60)
abbrev pub walked_on : CharacterSet → List ℕ → Frame → (ℕ → List Body) → List Body
walked_on set file Cut others = []
walked_on set file (Some x) others =
    cond (leb 2 x.size) (part x.start x.size file ∷ cond (eqb (type_of set (part x.start x.size file)) 99) [] (others (x.start + x.size))) []

-- from an offset on, n records at most
unfoldable pub walked_from : CharacterSet → ℕ → List ℕ → ℕ → List Body
walked_from set zero file at = []
walked_from set (suc n) file at = walked_on set file (frame_at file at) (λ next. walked_from set n file next)

unfoldable pub walked : List ℕ → List Body
walked file = walked_from (set_of file) (length file) file 0
