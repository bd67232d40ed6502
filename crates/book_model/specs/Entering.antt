-- What entering a file gives: the first entry number given and the totals of the file, or the fault, the record and the offset.
use Rattle.std.specs.Prelude.{ℕ, Result, Ok, Err}
use Rattle.passes.specs.declared.Fault.{Fault}
use Rattle.passes.specs.declared.Totals.{Totals}
use Rattle.passes.specs.declared.Refusal.{Refusal}

abbrev pub Entering : Type 0
Entering = Result (ℕ × Totals) Refusal

pattern abbrev pub Entered : ℕ → Totals → Entering
Entered first t = Ok (first, t)

abbrev pub Refused : Fault → ℕ → ℕ → Entering
Refused fault place offset = Err (record { fault = fault; place = place; offset = offset })
