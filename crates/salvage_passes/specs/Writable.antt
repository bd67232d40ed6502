-- A new file that can be made out, with room for it. Nothing of this has to be believed.
use Rattle.std.specs.Prelude.{ℕ, List, []}
use Rattle.text.specs.declared.character_set.CharacterSet.{CharacterSet}
use Rattle.draft.specs.Values.{Values}
use Rattle.set_out.specs.SetOut.{Fits}
use Rattle.salvage_next.specs.declared.Cue.{Cue}
use Rattle.salvage_next.specs.Cued.{Cued}

pub record Writable (set : CharacterSet) (file : List ℕ) (end : ℕ) (c : Cue) (room : ℕ) : Type 0 where
  pub values : List Values
  pub cued : Cued set file end c values
  pub fits : Fits values [] [] room
