-- What comes back (document 01): the number, record, field, offset and totals of each answer. Document 02's numbers stand in the same table; those behind
-- After belong to the day book (requests 6, 9) and to salvage (request 11), and a reading never gives one of them.
use Rattle.std.specs.Prelude.{ℕ, List, [], ◌∷◌, Ok, Err}
use Rattle.std.specs.declared.result.Result.{Result}
use Rattle.passes.specs.declared.Fault.{Fault}
use Rattle.passes.specs.declared.Fault.TheVariants.{Size, Room, Cut, Length, UnknownType, Place, Field, Link, Total, Open, After, Duplicate, Full, NoEntry, Range, Nothing, Book}
use Rattle.passes.specs.declared.Totals.{Totals}
use Rattle.passes.specs.declared.Refusal.{Refusal}

-- what is found of one record in its place: its type, or a fault
abbrev pub Turn : Type 0
Turn = Result ℕ Fault

pattern abbrev pub Good : ℕ → Turn
Good t = Ok t

pattern abbrev pub Faulty : Fault → Turn
Faulty fault = Err fault

-- what stands where bytes follow: a good record's type and length, or a fault
abbrev pub Step : Type 0
Step = Result (ℕ × ℕ) Fault

pattern abbrev pub On : ℕ → ℕ → Step
On t size = Ok (t, size)

pattern abbrev pub Stop : Fault → Step
Stop fault = Err fault

-- the answer to a whole file: what it adds up to, or the fault, the record and the offset
abbrev pub Answer : Type 0
Answer = Result Totals Refusal

pattern abbrev pub Accepted : Totals → Answer
Accepted t = Ok t

abbrev pub Refused : Fault → ℕ → ℕ → Answer
Refused fault place offset = Err (record { fault = fault; place = place; offset = offset })

-- the table of numbers
abbrev pub number_of : Fault → ℕ
number_of Size = 1
number_of Room = 2
number_of Cut = 3
number_of Length = 4
number_of UnknownType = 5
number_of Place = 6
number_of (Field n) = 7
number_of (Link n) = 8
number_of (Total n) = 9
number_of Open = 10
number_of After = 11
number_of Duplicate = 12
number_of Full = 13
number_of NoEntry = 15
number_of Range = 16
number_of Nothing = 17
number_of Book = 20

-- "field (from 1; 0 for the whole record)"
abbrev pub field_of : Fault → ℕ
field_of Size = 0
field_of Room = 0
field_of Cut = 0
field_of Length = 0
field_of UnknownType = 0
field_of Place = 0
field_of (Field n) = n
field_of (Link n) = n
field_of (Total n) = n
field_of Open = 0
field_of After = 0
field_of Duplicate = 0
field_of Full = 0
field_of NoEntry = 0
field_of Range = 0
field_of Nothing = 0
field_of Book = 0

-- Number, record, field, offset, and the totals: records, cash letters, bundles, items, views, debit cents, credits, credit cents. "ACCEPTED:
-- record = record count, field 0, offset = file length"; "on every number but 0, totals are zero".
abbrev pub numbers_of : ℕ → Answer → List ℕ
numbers_of file_length (Accepted t) =
    0 ∷ t.records.0 ∷ 0 ∷ file_length ∷ t.records.0 ∷ t.letters ∷ t.bundles ∷ t.items.0 ∷ t.sums.views.0
    ∷ t.sums.debit.0 ∷ t.sums.credits.0 ∷ t.sums.credit.0 ∷ []
numbers_of file_length (Err r) =
    number_of r.fault ∷ r.place ∷ field_of r.fault ∷ r.offset ∷ 0 ∷ 0 ∷ 0 ∷ 0 ∷ 0 ∷ 0 ∷ 0 ∷ 0 ∷ []

abbrev pub answer_number : Answer → ℕ
answer_number (Accepted t) = 0
answer_number (Err r) = number_of r.fault
