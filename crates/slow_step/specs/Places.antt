-- What the slow reader's functions promise each other. Each stands at an offset of the file and gives the answer to the whole file.
use Rattle.std.specs.Prelude.{ℕ, ◌+◌, ◌*◌, ◌≤◌, ◌<◌, Bool, true, false, ◌&&◌, cond, ◌≡◌, List, [], leb, eqb, length, Some, Err}
use Rattle.text.specs.declared.character_set.CharacterSet.{CharacterSet}
use Rattle.std.specs.declared.option.Option.{Option}
use Rattle.frame.specs.Frames.{Frame}
use Rattle.frame.specs.Frames.{Cut}
use Rattle.frame.specs.Frames.{part, frame_at}
use Rattle.judge.specs.Alone.{type_of}
use Rattle.order.specs.MayFollow.{is_carried, follows}
use Rattle.slow_record.specs.Types.{as_type}
use Rattle.standing.specs.History.{Entry}
use Rattle.standing.specs.Standing.{standing, capped_figures}
use Rattle.standing.specs.declared.Standing.{Standing}
use Rattle.passes.specs.Answers.{Answer}
use Rattle.passes.specs.Rows.{rows_of, rows_from}
use Rattle.passes.specs.Reading.{run, Counted}
use Rattle.slow_step.specs.Entered.{Entered, On}

-- the type of a record, where it can be told: 0 where LENGTH or UNKNOWN TYPE comes first
abbrev pub type_in : CharacterSet → List ℕ → ℕ
type_in set body = cond (leb 2 (length body) && is_carried (type_of set body)) (type_of set body) 0

abbrev pub framed_type : CharacterSet → List ℕ → Frame → ℕ
framed_type set file Cut = 0
framed_type set file (Some x) = type_in set (part x.start x.size file)

-- the same of the record at an offset, 0 too where the bytes end there or are cut
unfoldable pub type_at : CharacterSet → List ℕ → ℕ → ℕ
type_at set file at = framed_type set file (frame_at file at)

-- the answer to the file, with a row for each of its records where it is accepted
pub record IsAnswer (set : CharacterSet) (file : List ℕ) (r : Answer) : Type 0 where
  pub answer : r ≡ run set (length file) file 0 []
  pub rows : Counted file r

-- The reading has come to an offset, behind the records of `past`: their figures are s, and the answer to the file is the answer from here.
pub record Reached (set : CharacterSet) (file : List ℕ) (at : ℕ) (s : Standing) : Type 0 where
  pub past : List Entry
  pub fuel : ℕ
  pub within : at ≤ length file
  pub limit : length file ≤ 65_536
  pub few : length past ≤ at
  pub enough : length file ≤ at + fuel
  pub stands : s ≡ capped_figures (standing set file past)
  pub same : run set (length file) file 0 [] ≡ run set fuel file at past
  pub count : length (rows_of file) ≡ 7 * length past + length (rows_from set fuel file at past)

-- A record of a type stands there, in a bundle or outside, and may follow the last one, whatever items the bundle has.
pub record Called (set : CharacterSet) (file : List ℕ) (s : Standing) (at : ℕ) (inside : Bool) (kind : ℕ) : Type 0 where
  pub reached : Reached set file at s
  pub level : s.inside ≡ inside
  pub type : type_at set file at ≡ kind
  pub place : follows inside s.last kind ≡ true

-- Behind that record: its figures, the offset where the next one is to stand, and the next one's type, if it can be told.
pub record GoesOn (set : CharacterSet) (file : List ℕ) (s : Standing) (at kind : ℕ) (here : Standing) (next : ℕ) (called : Option ℕ) : Type 0 where
  pub reached : Reached set file next here
  pub level : here.inside ≡ cond (eqb kind 20) true (cond (eqb kind 70) false s.inside)
  pub last : here.last ≡ kind
  pub fewer : at < next
  pub type : called ≡ as_type (type_at set file next)

abbrev pub Enters : CharacterSet → List ℕ → Standing → ℕ → ℕ → Entered → Type 0
Enters set file s at kind (Err refusal) = IsAnswer set file (Err refusal)
Enters set file s at kind (On here next called) = GoesOn set file s at kind here next called
