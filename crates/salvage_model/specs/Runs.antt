-- What lies under a cash letter header, and when it is sound (request 11, readings 61 and 62).
use Rattle.std.specs.Prelude.{ℕ, zero, suc, ◌+◌, Bool, true, false, ◌&&◌, not, cond, List, [], ◌∷◌, ◌++◌, eqb, length}
use Rattle.std.proofs.Math.Option.{Option, none, some}
use Rattle.text.specs.declared.character_set.CharacterSet.{CharacterSet}
use Rattle.judge.specs.Alone.{Judged}
use Rattle.judge.specs.Alone.{Sound, WrongLength, UnknownType, WrongField}
use Rattle.judge.specs.Alone.{type_of, judged_record}
use Rattle.order.specs.MayFollow.{is_one_of}
use Rattle.standing.specs.History.{Entry, entry}
use Rattle.standing.specs.Standing.{standing}
use Rattle.passes.specs.declared.Fault.{Fault}
use Rattle.passes.specs.declared.Fault.TheVariants.{Place}
use Rattle.passes.specs.Answers.{Turn}
use Rattle.passes.specs.Answers.{Faulty, Good}
use Rattle.passes.specs.CheckOrder.{turn_of}
use Rattle.file_as_records.specs.Framed.{Body, framed}

-- the records at the beginning that pass a test, and those from the first on that does not
abbrev pub leading : (Body → Bool) → List Body → List Body
leading test [] = []
leading test (b ∷ bs) = cond (test b) (b ∷ leading test bs) []

abbrev pub following : (Body → Bool) → List Body → List Body
following test [] = []
following test (b ∷ bs) = cond (test b) (following test bs) (b ∷ bs)

-- of one of some types, or of none of them
abbrev pub of : CharacterSet → List ℕ → Body → Bool
of set types b = is_one_of (type_of set b) types

abbrev pub not_of : CharacterSet → List ℕ → Body → Bool
not_of set types b = not (of set types b)

-- Under a header (reading 61): a stretch begins at each 20 and ends at the first 70 behind it, or before the next 20, or where the records under the 10 end.
-- One that ends at a 70 is a run. A 61 that lies in no stretch is directly under the 10; with the 50s, 52s and 54s right behind it, in any number and order,
-- it is a run too. All other records are in no run.
pub data Group : Type 0 where
  run : List Body → Group
  loose : List Body → Group

-- a stretch with what it is closed by, where that is a 70, and the groups behind it
abbrev pub stretch_then : CharacterSet → List Body → List Body → (List Body → List Group) → List Group
stretch_then set inside [] others = loose inside ∷ []
stretch_then set inside (b ∷ bs) others =
    cond (eqb (type_of set b) 70) (run (inside ++ (b ∷ [])) ∷ others bs) (loose inside ∷ others (b ∷ bs))

-- of the first n records at most
unfoldable pub groups_from : CharacterSet → ℕ → List Body → List Group
groups_from set zero bs = []
groups_from set (suc n) [] = []
groups_from set (suc n) (b ∷ bs) =
    cond (eqb (type_of set b) 20)
    (stretch_then set (b ∷ leading (not_of set (20 ∷ 70 ∷ [])) bs) (following (not_of set (20 ∷ 70 ∷ [])) bs) (groups_from set n))
    (cond (eqb (type_of set b) 61)
    (run (b ∷ leading (of set (50 ∷ 52 ∷ 54 ∷ [])) bs) ∷ groups_from set n (following (of set (50 ∷ 52 ∷ 54 ∷ [])) bs))
    (loose (b ∷ []) ∷ groups_from set n bs))

unfoldable pub groups_of : CharacterSet → List Body → List Group
groups_of set bs = groups_from set (length bs) bs

-- a record that is sound alone
abbrev pub is_right : Judged → Bool
is_right Sound = true
is_right WrongLength = false
is_right UnknownType = false
is_right (WrongField n) = false

unfoldable pub sound_alone : CharacterSet → ℕ → Body → Bool
sound_alone set t b = eqb (type_of set b) t && is_right (judged_record set b)

-- "the reader, having read a sound 01 and that 10 and nothing else, would read the run through without a fault": the first fault, where there is one. At the
-- end "PLACE where a 61's run ends behind a 50".
abbrev pub or_fault : Turn → Option Fault → Option Fault
or_fault (Faulty fault) next = some fault
or_fault (Good t) next = next

unfoldable pub read_on : CharacterSet → List ℕ → List Body → ℕ → List Entry → Option Fault
read_on set file [] at past = cond (eqb (standing set file past).last 50) (some Place) none
read_on set file (b ∷ bs) at past =
    or_fault (turn_of set file (standing set file past) at b) (read_on set file bs (at + 4 + length b) (entry (type_of set b) at (length b) ∷ past))

-- nothing of the 01 is looked at but that it was read, so that a run is read by the set, its header and its own records alone
unfoldable pub run_fault : CharacterSet → Body → List Body → Option Fault
run_fault set header bs = read_on set (framed (header ∷ bs)) bs (4 + length header) (entry 10 0 (length header) ∷ entry 1 0 0 ∷ [])
