-- The reading of a whole file: for any bytes and any table the one answer and the one table.
use Rattle.std.specs.Prelude.{ℕ, zero, suc, ◌+◌, ◌*◌, ◌/◌, ◌&&◌, cond, ◌≡◌, List, [], ◌∷◌, ◌++◌, leb, eqb, length, drop, Some, Err}
use Rattle.text.specs.CharacterSet.{set_of}
use Rattle.text.specs.declared.character_set.CharacterSet.{CharacterSet}
use Rattle.measure.specs.Measures.{capped_sums}
use Rattle.frame.specs.Frames.{Frame, part, frame_at}
use Rattle.frame.specs.Frames as frames
use Rattle.standing.specs.History.{Entry, entry}
use Rattle.standing.specs.Standing.{standing}
use Rattle.standing.specs.declared.Standing.{Standing}
use Rattle.passes.specs.declared.Fault.TheVariants.{Size, Room, Cut, Open, After}
use Rattle.passes.specs.declared.Totals.{Totals}
use Rattle.passes.specs.Answers.{Turn, Good, Faulty, Step, On, Stop, Answer, Accepted, Refused}
use Rattle.passes.specs.CheckOrder.{turn_of}
use Rattle.passes.specs.Rows.{rows_of}

-- "the totals are those of the whole file as added up from its records". They are asked for behind a 99 only, which states their cents, so
-- that none of them is capped: `Arranged` says so.
abbrev pub totals_of : Standing → Totals
totals_of s =
    record { records = s.records; letters = s.letters; bundles = s.bundles; items = s.items; sums = capped_sums s.whole }

abbrev pub of_turn : ℕ → Turn → Step
of_turn size (Faulty fault) = Stop fault
of_turn size (Good t) = On t size

-- CUT, and then the checks of the record that the length frames
abbrev pub of_frame : CharacterSet → List ℕ → Standing → ℕ → Frame → Step
of_frame set file s at frames.Cut = Stop Cut
of_frame set file s at (Some x) = of_turn x.size (turn_of set file s at (part x.start x.size file))

-- where bytes follow: AFTER, "any byte follows the 99", else the record that begins there
unfoldable pub step_of : CharacterSet → List ℕ → Standing → ℕ → Step
step_of set file s at = cond (eqb s.last 99) (Stop After) (of_frame set file s at (frame_at file at))

-- a fault is the answer; a good record joins those before it, and the reading goes on behind it
abbrev pub after_step : ℕ → List Entry → Step → (ℕ → List Entry → Answer) → Answer
after_step at past (Stop fault) go_on = Refused fault (length past + 1) at
after_step at past (On t size) go_on = go_on (at + 4 + size) (entry t at size ∷ past)

-- at the end of the bytes: accepted behind a 99, else OPEN, "bytes end at a record boundary before a 99"
unfoldable pub ended_with : Standing → ℕ → Answer
ended_with s at = cond (eqb s.last 99) (Accepted (totals_of s)) (Refused Open (s.records.0 + 1) at)

abbrev pub ended : CharacterSet → List ℕ → List Entry → ℕ → Answer
ended set file past at = ended_with (standing set file past) at

-- the answer from an offset on, behind the records of `past`, newest first; n is as many as may still come
unfoldable pub run : CharacterSet → ℕ → List ℕ → ℕ → List Entry → Answer
run set zero file at past = ended set file past at
run set (suc n) file at past =
    cond (leb (length file) at) (ended set file past at)
    (after_step at past (step_of set file (standing set file past) at) (λ next newer. run set n file next newer))

-- SIZE first
unfoldable pub surveyed : List ℕ → Answer
surveyed file =
    cond (leb 1 (length file) && leb (length file) 268_435_456) (run (set_of file) (length file) file 0 []) (Refused Size 0 0)

-- an accepted file has a row for each of its records
abbrev pub Counted : List ℕ → Answer → Type 0
Counted file (Accepted t) = length (rows_of file) ≡ 7 * t.records.0
Counted file (Err r) = Unit

-- ROOM last: "all rules hold but there are more records than rows"
abbrev pub in_room : ℕ → Answer → Answer
in_room rows (Accepted t) = cond (leb t.records.0 rows) (Accepted t) (Refused Room t.records.0 0)
in_room rows (Err r) = Err r

-- "Rows available = whole sevens in the lent slice"
unfoldable pub answer_of : List ℕ → ℕ → Answer
answer_of file table_length = in_room (table_length / 7) (surveyed file)

-- the table afterwards: the rows and then the untouched rest; untouched where the file is refused
abbrev pub table_after : Answer → List ℕ → List ℕ → List ℕ
table_after (Accepted t) rows table = rows ++ drop (length rows) table
table_after (Err r) rows table = table

unfoldable pub table_of : List ℕ → List ℕ → List ℕ
table_of file table = table_after (answer_of file (length table)) (rows_of file) table
