-- A run where it stands in the file, and the groups under a header. Nothing of this has to be believed.
use Rattle.std.specs.Prelude.{ℕ, ◌≤◌, Bool, true, false, ◌&&◌, cond, eqb, List, ◌∷◌, ◌≡◌, Result, Ok, Err}
use Rattle.std.proofs.Math.Option.{Option, none, some}
use Rattle.text.specs.declared.character_set.CharacterSet.{CharacterSet}
use Rattle.judge.specs.Alone.{type_of}
use Rattle.passes.specs.declared.Fault.{Fault}
use Rattle.file_as_records.specs.Framed.{Body}
use Rattle.salvage_model.specs.Runs.{run, loose, groups_of, sound_alone}
use Rattle.salvage_walk.specs.Spans.{Stands, Spans}
use Rattle.salvage_runs.specs.declared.Group.{Group}
use Rattle.salvage_runs.specs.declared.Group.TheVariants.{Bundle, Credit, Loose}
use Rattle.salvage_runs.specs.declared.Grouped.{Grouped}

-- how a run is read: through, or up to its first fault
abbrev pub read_through : Option Fault → Result (Unit {0}) Fault
read_through none = Ok tt
read_through (some fault) = Err fault

-- what a group is
abbrev pub is_run : Group → Bool
is_run Bundle = true
is_run Credit = true
is_run Loose = false

abbrev pub is_bundle : Group → Bool
is_bundle Bundle = true
is_bundle Credit = false
is_bundle Loose = false

-- a header that is sound alone at an offset, and records from another on
pub record RunAt (set : CharacterSet) (file : List ℕ) (header_at from end : ℕ) : Type 0 where
  pub header : Body
  pub bodies : List Body
  pub stands : Stands file header_at header
  pub sound : sound_alone set 10 header ≡ true
  pub spans : Spans file from bodies end
  pub limit : end ≤ 268_435_456

-- the first group of the records under a header, where it ends, and the others behind it
pub record GroupAt (set : CharacterSet) (file : List ℕ) (at : ℕ) (bs : List Body) (end : ℕ) (r : Grouped) : Type 0 where
  pub first : Body
  pub own : List Body
  pub others : List Body
  pub groups : groups_of set bs ≡ cond (is_run r.group) (run (first ∷ own)) (loose (first ∷ own)) ∷ groups_of set others
  pub spans : Spans file at (first ∷ own) r.end
  pub behind : Spans file r.end others end
  pub bundle : is_bundle r.group ≡ (is_run r.group && eqb (type_of set first) 20)
  pub kind : r.kind ≡ type_of set first
