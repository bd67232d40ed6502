-- What the writer's first pass finds of one row: the turn, and, where the record is good, a sheet and figures that stand for the file with it.
-- Nothing of this has to be believed.
use Rattle.std.specs.Prelude.{ℕ, List, ◌≡◌}
use Rattle.text.specs.declared.character_set.CharacterSet.TheVariants.{Ascii}
use Rattle.standing.specs.History.{Entry}
use Rattle.standing.specs.Standing.{standing, onward, capped_figures}
use Rattle.standing.specs.declared.Standing.{Standing}
use Rattle.passes.specs.Answers.{Turn}
use Rattle.passes.specs.Answers.{Good}
use Rattle.draft.specs.Values.{Values}
use Rattle.draft.specs.Drafted.{file_with, past_with, turn_of_row}
use Rattle.sheet.specs.Sheet.{slot_of, OnSheet}

pub record JudgedRow (v : Values) (vs : List Values) (file : List ℕ) (past : List Entry) (s : Standing) (turn : Turn) (sheet : List ℕ) : Type 0 where
  pub found : turn ≡ turn_of_row v vs file past (standing Ascii file past)
  pub moves : (t : ℕ) → turn ≡ Good t
      → OnSheet (file_with v vs file past) (past_with v vs file past) sheet (capped_figures (onward Ascii sheet s t (slot_of t)))
