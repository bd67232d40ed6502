-- What an entry says of the next record of the new file, and that this record can be entered or written. Nothing of this has to be believed.
use Rattle.std.specs.Prelude.{ℕ, true, false, List, ◌≡◌}
use Rattle.std.proofs.Math.Option.{some}
use Rattle.text.specs.declared.character_set.CharacterSet.{CharacterSet}
use Rattle.frame.specs.Frames.{part}
use Rattle.standing.specs.declared.Standing.{Standing}
use Rattle.draft.specs.Values.{Values, layout_of, values_of_body}
use Rattle.set_out.specs.SetOut.{ReadyOne}
use Rattle.salvage_model.specs.Kept.{control_values}
use Rattle.salvage_made.specs.ByMarks.{is_control}
use Rattle.salvage_next.specs.declared.Entry.{Entry}
use Rattle.salvage_entry.specs.declared.Pen.{Pen}
use Rattle.salvage_entry.specs.Entered.{Entering}

-- its values: those of the body that is kept, or those of a new control, to which fields of the body are lent
pub record Says (set : CharacterSet) (file : List ℕ) (e : Entry) (v : Values) : Type 0 where
  pub kept : e.kept ≡ true → v ≡ values_of_body set (part e.start e.size file)
  pub control : e.kept ≡ false → (is_control e.kind ≡ true) × (v ≡ control_values set (layout_of e.kind) (some (part e.start e.size file)))

-- it can be entered behind what has been entered
pub record NextEntered (set : CharacterSet) (file : List ℕ) (e : Entry) (sheet : List ℕ) (pen : Pen) : Type 0 where
  pub value : Values
  pub says : Says set file e value
  pub entering : Entering value e.addenda sheet pen

-- it can be written behind what has been written
pub record NextWritten (set : CharacterSet) (file : List ℕ) (e : Entry) (sheet : List ℕ) (s : Standing) (room : ℕ) : Type 0 where
  pub value : Values
  pub says : Says set file e value
  pub ready : ReadyOne value e.addenda sheet s room
