-- Marks for whose rows a list has room. Nothing of this has to be believed.
use Rattle.std.specs.Prelude.{ℕ, ◌*◌, ◌≤◌, List, length}
use Rattle.text.specs.declared.character_set.CharacterSet.{CharacterSet}
use Rattle.salvage_model.specs.Kept.{Marked}
use Rattle.salvage_marks.specs.declared.Plan.{Plan}
use Rattle.salvage_marks.specs.Left.{Left}

pub record Listable (set : CharacterSet) (file : List ℕ) (end : ℕ) (p : Plan) (room : ℕ) : Type 0 where
  pub marks : List Marked
  pub left : Left set file end p marks
  pub within : 4 * length marks ≤ room
