-- What becomes of a draft: the bytes of the file and what it adds up to, or the fault, the record (from 1) and the offset that its length field would have.
use Rattle.std.specs.Prelude.{ℕ, Ok, Err}
use Rattle.std.specs.declared.result.Result.{Result}
use Rattle.passes.specs.declared.Fault.{Fault}
use Rattle.passes.specs.declared.Totals.{Totals}
use Rattle.passes.specs.declared.Refusal.{Refusal}

abbrev pub Outcome : Type 0
Outcome = Result (ℕ × Totals) Refusal

pattern abbrev pub Written : ℕ → Totals → Outcome
Written n t = Ok (n, t)

abbrev pub Refused : Fault → ℕ → ℕ → Outcome
Refused fault place offset = Err (record { fault = fault; place = place; offset = offset })
