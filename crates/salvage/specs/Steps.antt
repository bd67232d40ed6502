-- The steps of the call. Nothing of this has to be believed.
use Rattle.std.specs.Prelude.{ℕ, ◌≤◌, List, ◌≡◌, length}
use Rattle.text.specs.CharacterSet.{set_of}
use Rattle.text.specs.declared.character_set.CharacterSet.{CharacterSet}
use Rattle.draft.specs.Outcomes.{Outcome}
use Rattle.salvage_model.specs.Walked.{walked}
use Rattle.salvage_model.specs.Salvaged.{salvage_outcome, salvage_buffer, salvage_list}
use Rattle.salvage_walk.specs.Spans.{Spans}

-- a file of a size that is read, walked up to an end
pub record WalkedTo (set : CharacterSet) (file : List ℕ) (end : ℕ) : Type 0 where
  pub is : set ≡ set_of file
  pub some : 1 ≤ length file
  pub limit : length file ≤ 268_435_456
  pub within : end ≤ length file
  pub spans : Spans file 0 (walked file) end

-- the answer to a file, and what buffer and list are then
pub record SalvagedAs (file out list : List ℕ) (outcome : Outcome) (out' list' : List ℕ) : Type 0 where
  pub answer : outcome ≡ salvage_outcome file (length out) (length list)
  pub buffer : out' ≡ salvage_buffer file out (length list)
  pub rows : list' ≡ salvage_list file (length out) list
