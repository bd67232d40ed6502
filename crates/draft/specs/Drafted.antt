-- What becomes of a draft (request 4, reading 43): the answer, and the file.
use Rattle.std.specs.Prelude.{ℕ, ◌+◌, min, Bool, true, false, cond, List, [], ◌∷◌, ◌++◌, leb, eqb, length, drop, Err}
use Rattle.text.specs.declared.character_set.CharacterSet.TheVariants.{Ascii}
use Rattle.frame.specs.Unless.{unless}
use Rattle.layout.specs.Layout.{sized_parts}
use Rattle.judge.specs.Alone.{first_wrong}
use Rattle.order.specs.MayFollow.{may_follow}
use Rattle.standing.specs.History.{Entry, entry}
use Rattle.standing.specs.Standing.{standing}
use Rattle.standing.specs.declared.Standing.{Standing}
use Rattle.passes.specs.declared.Fault.{Fault}
use Rattle.passes.specs.declared.Fault.TheVariants.{Size, Room, Place, Field}
use Rattle.passes.specs.declared.Totals.{Totals}
use Rattle.passes.specs.Answers.{Turn}
use Rattle.passes.specs.Answers.{Faulty, Good}
use Rattle.passes.specs.CheckOrder.{agreement}
use Rattle.passes.specs.Reading.{totals_of}
use Rattle.file_as_records.specs.Framed.{framed}
use Rattle.draft.specs.Outcomes.{Outcome}
use Rattle.draft.specs.Outcomes.{Written, Refused}
use Rattle.draft.specs.Values.{Values, layout_of, values_of_draft}
use Rattle.draft.specs.Completed.{addenda_behind, completed, first_unfit, first_unfit_part, lower}

-- a file with one record more, the record of values v with vs behind them; `past` are the records of the file, newest first
abbrev pub body_of : Values → List Values → List ℕ → List Entry → List ℕ
body_of v vs file past = completed v (addenda_behind v.type vs) (standing Ascii file past)

abbrev pub file_with : Values → List Values → List ℕ → List Entry → List ℕ
file_with v vs file past = file ++ framed (body_of v vs file past ∷ [])

abbrev pub past_with : Values → List Values → List ℕ → List Entry → List Entry
past_with v vs file past = entry v.type (length file) (length (body_of v vs file past)) ∷ past

-- all of them completed, sound or not
unfoldable pub completed_from : List Values → List ℕ → List Entry → List ℕ
completed_from [] file past = file
completed_from (v ∷ vs) file past = completed_from vs (file_with v vs file past) (past_with v vs file past)

unfoldable pub made : List Values → List ℕ
made vs = completed_from vs [] []

-- FIELD at the lowest field that breaks its rule or whose characters do not all lie in the text, at a length field whose part outgrows it, at
-- 25.12 or 31.8 where more addenda follow than it can state (reading 43)
unfoldable pub field_fault : Values → ℕ → Standing → ℕ
field_fault v addenda s =
    lower (first_unfit v addenda (layout_of v.type).lines v.fields) (first_wrong Ascii (layout_of v.type).lines (completed v addenda s))

abbrev pub unless_field : ℕ → Turn → Turn
unless_field n turn = unless (eqb n 0) (Faulty (Field n)) turn

-- Record by record in the reader's order (reading 43): PLACE where the type may not follow (a type that is not carried, and any record behind a 99, too),
-- FIELD, LINK and TOTAL as the reader gives them. A record number or a sum that is too long is completed with its last digits, and so is
-- LINK, field 2, or TOTAL.
unfoldable pub turn_of_row : Values → List Values → List ℕ → List Entry → Standing → Turn
turn_of_row v vs file past s =
    unless (may_follow s.inside s.last s.present v.type) (Faulty Place)
    (unless_field (field_fault v (addenda_behind v.type vs) s)
    (unless_field (first_unfit_part (sized_parts (layout_of v.type)) v.parts)
    (agreement Ascii (file_with v vs file past) s (length file) v.type)))

-- offsets are whole numbers; one that 64 bits do not hold is given as 2^64 - 1 (reading 43)
abbrev pub offset_of : ℕ → ℕ
offset_of n = min n 0xFFFF_FFFF_FFFF_FFFF

abbrev pub after_turn : List ℕ → List Entry → Turn → Outcome → Outcome
after_turn file past (Faulty fault) others = Refused fault (length past + 1) (offset_of (length file))
after_turn file past (Good t) others = others

-- where the rows end before a 99: PLACE at the record after the last (reading 43)
unfoldable pub rows_ended : List ℕ → List Entry → Standing → Outcome
rows_ended file past s =
    cond (eqb s.last 99) (Written (length file) (totals_of s)) (Refused Place (length past + 1) (offset_of (length file)))

unfoldable pub answer_from : List Values → List ℕ → List Entry → Outcome
answer_from [] file past = rows_ended file past (standing Ascii file past)
answer_from (v ∷ vs) file past =
    after_turn file past (turn_of_row v vs file past (standing Ascii file past)) (answer_from vs (file_with v vs file past) (past_with v vs file past))

-- then SIZE (0, 0, 0), where the file would pass 268,435,456 bytes; then ROOM, with the bytes needed as the record (reading 43)
abbrev pub in_room : ℕ → Outcome → Outcome
in_room room (Written n totals) = unless (leb n 268_435_456) (Refused Size 0 0) (unless (leb n room) (Refused Room n 0) (Written n totals))
in_room room (Err r) = Err r

unfoldable pub outcome_of : List Values → ℕ → Outcome
outcome_of vs room = in_room room (answer_from vs [] [])

-- on a refusal the buffer is as it was, and on success so are its bytes behind the file (reading 43)
abbrev pub buffer_after : Outcome → List ℕ → List ℕ → List ℕ
buffer_after (Written n totals) file out = file ++ drop n out
buffer_after (Err r) file out = out

unfoldable pub buffer_of : List Values → List ℕ → List ℕ
buffer_of vs out = buffer_after (outcome_of vs (length out)) (made vs) out
