-- One record more of a file that is made out record by record, without a draft. Nothing of this has to be believed.
use Rattle.std.specs.Prelude.{ℕ, ◌≤◌, List, ◌∷◌, ◌≡◌, length, Ok, Err}
use Rattle.std.specs.declared.result.Result.{Result}
use Rattle.standing.specs.History.{Entry}
use Rattle.passes.specs.declared.Refusal.{Refusal}
use Rattle.draft.specs.Values.{Values}
use Rattle.draft.specs.Completed.{addenda_behind}
use Rattle.draft.specs.Drafted.{file_with, past_with, offset_of, answer_from}
use Rattle.sheet.specs.Sheet.{OnSheet}
use Rattle.salvage_entry.specs.declared.Pen.{Pen}

-- what one record more comes to: the pen behind it, or a refusal
abbrev pub Entered : Type 0
Entered = Result Pen Refusal

pattern abbrev pub On : Pen → Entered
On pen = Ok pen

-- a file for which a sheet, figures and a number of bytes stand
pub record Begun (sheet : List ℕ) (pen : Pen) : Type 0 where
  pub file : List ℕ
  pub past : List Entry
  pub stands : OnSheet file past sheet pen.standing
  pub size : pen.bytes ≡ offset_of (length file)
  pub few : length past ≤ 0x2000_0000_0000_0000

-- the same, where a record of values v comes next with so many addenda behind it, and others
pub record Entering (v : Values) (addenda : ℕ) (sheet : List ℕ) (pen : Pen) : Type 0 where
  pub begun : Begun sheet pen
  pub others : List Values
  pub behind : addenda ≡ addenda_behind v.type others

-- that record has joined the file
pub record OneMore (v : Values) (vs : List Values) (file : List ℕ) (past : List Entry) (pen : Pen) (sheet : List ℕ) : Type 0 where
  pub stands : OnSheet (file_with v vs file past) (past_with v vs file past) sheet pen.standing
  pub size : pen.bytes ≡ offset_of (length (file_with v vs file past))
  pub answer : answer_from (v ∷ vs) file past ≡ answer_from vs (file_with v vs file past) (past_with v vs file past)

abbrev pub EnteredAs : Values → List Values → List ℕ → List Entry → Entered → List ℕ → Type 0
EnteredAs v vs file past (Err r) sheet = answer_from (v ∷ vs) file past ≡ Err r
EnteredAs v vs file past (On pen) sheet = OneMore v vs file past pen sheet
