-- How far a draft has been set out. Nothing of this has to be believed.
use Rattle.std.specs.Prelude.{ℕ, ◌+◌, ◌/◌, ◌≤◌, List, ◌∷◌, ◌++◌, ◌≡◌, length, drop}
use Rattle.text.specs.declared.character_set.CharacterSet.{CharacterSet}
use Rattle.standing.specs.History.{Entry}
use Rattle.standing.specs.declared.Standing.{Standing}
use Rattle.passes.specs.declared.Totals.{Totals}
use Rattle.draft.specs.Outcomes.{Written}
use Rattle.draft.specs.Values.{Values, values_of_rows}
use Rattle.draft.specs.Completed.{addenda_behind}
use Rattle.draft.specs.Drafted.{completed_from, answer_from}
use Rattle.sheet.specs.Sheet.{OnSheet}
use Rattle.set_out.specs.declared.Progress.{Progress}

-- the values of the rows of a draft, from one on
abbrev pub values_in : CharacterSet → List ℕ → List ℕ → List Values
values_in set text rows = values_of_rows set text (length rows / 10) rows

-- records that can be made out behind a file, with room for them
pub record Fits (vs : List Values) (file : List ℕ) (past : List Entry) (room : ℕ) : Type 0 where
  pub size : ℕ
  pub totals : Totals
  pub written : answer_from vs file past ≡ Written size totals
  pub within : size ≤ length file + room

-- the same, behind some file for which a sheet and figures stand
pub record Ready (vs : List Values) (sheet : List ℕ) (s : Standing) (room : ℕ) : Type 0 where
  pub file : List ℕ
  pub past : List Entry
  pub stands : OnSheet file past sheet s
  pub few : length past + length vs ≤ 0x2000_0000_0000_0000
  pub fits : Fits vs file past room

-- Some of them have been set out in a buffer, in so many bytes from its start on, and others are left: behind the longer file they come to the same.
pub record Onward (vs : List Values) (file : List ℕ) (past : List Entry) (out : List ℕ) (left : List Values) (sheet : List ℕ) (s : Standing) (bytes : ℕ) (after : List ℕ) : Type 0 where
  pub longer : List ℕ
  pub newer : List Entry
  pub stands : OnSheet longer newer sheet s
  pub many : length newer + length left ≡ length past + length vs
  pub answer : answer_from left longer newer ≡ answer_from vs file past
  pub whole : completed_from left longer newer ≡ completed_from vs file past
  pub long : length longer ≡ length file + bytes
  pub within : bytes ≤ length out
  pub is : file ++ after ≡ longer ++ drop bytes out

-- what is ensured where one row or more have been set out
pub record RowsSetOut (set : CharacterSet) (text rows sheet out : List ℕ) (s : Standing) (r : Progress) (sheet' out' : List ℕ) : Type 0 where
  pub some : 10 ≤ r.numbers
  pub within : r.numbers ≤ length rows
  pub onward : (b : Ready (values_in set text rows) sheet s (length out))
      → Onward (values_in set text rows) b.file b.past out (values_in set text (drop r.numbers rows)) sheet' r.standing r.bytes out'

-- the same of one record with so many addenda behind it, and of others
pub record ReadyOne (v : Values) (addenda : ℕ) (sheet : List ℕ) (s : Standing) (room : ℕ) : Type 0 where
  pub others : List Values
  pub behind : addenda ≡ addenda_behind v.type others
  pub ready : Ready (v ∷ others) sheet s room
