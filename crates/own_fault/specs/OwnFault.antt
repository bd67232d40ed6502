-- Request 7: whether a fault would vanish had the rest arrived differently. `answer` is what a file gets; the statements say what other files get,
-- each with any table.
use Rattle.std.specs.Prelude.{ℕ, ◌+◌, ◌/◌, ◌≤◌, ◌<◌, Bool, true, false, List, ◌++◌, ◌≡◌, length, take, Err}
use Rattle.frame.specs.Frames.{length_at}
use Rattle.passes.specs.declared.Fault.{Fault}
use Rattle.passes.specs.declared.Fault.TheVariants.{Size, Room, Cut, Length, UnknownType, Place, Field, Link, Total, Open, After, Duplicate, Full, NoEntry, Range, Nothing, Book}
use Rattle.passes.specs.declared.Totals.{Totals}
use Rattle.passes.specs.Answers.{Answer}
use Rattle.passes.specs.Answers.{Accepted, Refused}
use Rattle.passes.specs.Reading.{answer_of}

-- "For TYPE, PLACE, LENGTH, FIELD, LINK and TOTAL"
abbrev pub is_own : Fault → Bool
is_own Size = false
is_own Room = false
is_own Cut = false
is_own Length = true
is_own UnknownType = true
is_own Place = true
is_own (Field n) = true
is_own (Link n) = true
is_own (Total n) = true
is_own Open = false
is_own After = false
is_own Duplicate = false
is_own Full = false
is_own NoEntry = false
is_own Range = false
is_own Nothing = false
is_own Book = false

-- the faults for want of bytes
abbrev pub wants_bytes : Fault → Bool
wants_bytes Size = false
wants_bytes Room = false
wants_bytes Cut = true
wants_bytes Length = false
wants_bytes UnknownType = false
wants_bytes Place = false
wants_bytes (Field n) = false
wants_bytes (Link n) = false
wants_bytes (Total n) = false
wants_bytes Open = true
wants_bytes After = false
wants_bytes Duplicate = false
wants_bytes Full = false
wants_bytes NoEntry = false
wants_bytes Range = false
wants_bytes Nothing = false
wants_bytes Book = false

-- "the end of the named record": its offset, the four bytes of its length, and as many as the length says
abbrev pub end_of : List ℕ → ℕ → ℕ
end_of file offset = offset + 4 + length_at file offset

-- an answer at a record or behind it: an acceptance has that record, a refusal names it or a later one
abbrev pub NotBefore : ℕ → Answer → Type 0
NotBefore place (Accepted t) = place ≤ t.records.0
NotBefore place (Err r) = place ≤ r.place

pub record OwnFault (file : List ℕ) (answer : Answer) : Type 0 where
  -- "two files within the size limit that agree on every byte up to the end of the named record get the same answer"
  pub own : (fault : Fault) (place offset : ℕ) → answer ≡ Refused fault place offset → is_own fault ≡ true
      → (other : List ℕ) (n : ℕ) → length other ≤ 268_435_456 → take (end_of file offset) other ≡ take (end_of file offset) file
      → answer_of other n ≡ answer
  -- "no accepted file is the beginning of a longer file that would be accepted": with bytes more it is AFTER
  pub accepted : (t : Totals) → answer ≡ Accepted t → (more : List ℕ) (n : ℕ) → 1 ≤ length more → length (file ++ more) ≤ 268_435_456
      → answer_of (file ++ more) n ≡ Refused After (t.records.0 + 1) (length file)
  pub after : (place offset : ℕ) → answer ≡ Refused After place offset → (more : List ℕ) (n : ℕ) → length (file ++ more) ≤ 268_435_456
      → answer_of (file ++ more) n ≡ answer
  -- bytes more can change CUT and OPEN alone, and then nothing before the record that these name
  pub wanting : (fault : Fault) (place offset : ℕ) → answer ≡ Refused fault place offset → wants_bytes fault ≡ true
      → (more : List ℕ) (n : ℕ) → length (file ++ more) ≤ 268_435_456 → NotBefore place (answer_of (file ++ more) n)
  -- ROOM is the table's: with rows enough the file is accepted, with fewer it is ROOM
  pub room : (needed offset : ℕ) → answer ≡ Refused Room needed offset → (n : ℕ)
      → (needed ≤ n / 7 → (t : Totals) × (answer_of file n ≡ Accepted t)) × (n / 7 < needed → answer_of file n ≡ answer)
