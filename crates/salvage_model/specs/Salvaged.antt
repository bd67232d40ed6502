-- What becomes of a torn file (request 11, reading 66): the answer, the buffer and the list.
use Rattle.std.specs.Prelude.{ℕ, ◌+◌, ◌/◌, ◌&&◌, List, [], ◌∷◌, ◌++◌, leb, length, drop, Err}
use Rattle.text.specs.CharacterSet.{set_of}
use Rattle.text.specs.declared.character_set.CharacterSet.{CharacterSet}
use Rattle.frame.specs.Unless.{unless}
use Rattle.judge.specs.Alone.{type_of}
use Rattle.passes.specs.declared.Fault.TheVariants.{Size, Room, Nothing}
use Rattle.draft.specs.Outcomes.{Outcome}
use Rattle.draft.specs.Outcomes.{Written, Refused}
use Rattle.draft.specs.Values.{Values}
use Rattle.draft.specs.Drafted.{made, outcome_of, buffer_after}
use Rattle.salvage_model.specs.Walked.{walked}
use Rattle.salvage_model.specs.Kept.{Fate, kept, renewed, dropped, Marked, marks_of, salvaged_values, is_anything}

-- what the new file is made out of, by request 4's writer
unfoldable pub values_left : List ℕ → List Values
values_left file = salvaged_values (set_of file) (walked file)

-- "then ROOM with the rows needed where the list is" short
abbrev pub in_list : ℕ → ℕ → Outcome → Outcome
in_list rows needed (Written n t) = unless (leb needed rows) (Refused Room needed 0) (Written n t)
in_list rows needed (Err r) = Err r

-- "Refusals ..: SIZE; NOTHING (17) ..; those of request 4, ROOM also for a short list". "Rows available are the whole fours."
unfoldable pub salvage_outcome : List ℕ → ℕ → ℕ → Outcome
salvage_outcome file room list_length =
    unless (leb 1 (length file) && leb (length file) 268_435_456) (Refused Size 0 0)
    (unless (is_anything (set_of file) (walked file)) (Refused Nothing 0 0)
    (in_list (list_length / 4) (length (walked file)) (outcome_of (values_left file) room)))

-- "Buffer and list are untouched on every refusal, and the buffer behind the file always"
unfoldable pub salvage_buffer : List ℕ → List ℕ → ℕ → List ℕ
salvage_buffer file out list_length = buffer_after (salvage_outcome file (length out) list_length) (made (values_left file)) out

-- four numbers for each record walked: offset, type (0 where the first two characters are not digits), status (0 kept, 1 made new, 2 dropped), number
-- (0 unless dropped): reading 66
abbrev pub status_of : Fate → ℕ
status_of kept = 0
status_of renewed = 1
status_of (dropped n) = 2

abbrev pub fault_number : Fate → ℕ
fault_number kept = 0
fault_number renewed = 0
fault_number (dropped n) = n

unfoldable pub listed : CharacterSet → ℕ → List Marked → List ℕ
listed set at [] = []
listed set at (m ∷ ms) =
    at ∷ type_of set m.body ∷ status_of m.fate ∷ fault_number m.fate ∷ listed set (at + 4 + length m.body) ms

unfoldable pub list_of : List ℕ → List ℕ
list_of file = listed (set_of file) 0 (marks_of (set_of file) (walked file))

abbrev pub list_after : Outcome → List ℕ → List ℕ → List ℕ
list_after (Written n t) rows list = rows ++ drop (length rows) list
list_after (Err r) rows list = list

unfoldable pub salvage_list : List ℕ → ℕ → List ℕ → List ℕ
salvage_list file room list = list_after (salvage_outcome file room (length list)) (list_of file) list
