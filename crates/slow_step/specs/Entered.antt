-- What a function of the slow reader finds where it enters a record: the figures with it, the offset behind it and the type of the record that stands
-- there, if it can be told; or the refusal of the file.
use Rattle.std.specs.Prelude.{ℕ, Ok}
use Rattle.std.specs.declared.option.Option.{Option}
use Rattle.std.specs.declared.result.Result.{Result}
use Rattle.standing.specs.declared.Standing.{Standing}
use Rattle.passes.specs.declared.Refusal.{Refusal}

abbrev pub Entered : Type 0
Entered = Result (Standing × ℕ × Option ℕ) Refusal

pattern abbrev pub On : Standing → ℕ → Option ℕ → Entered
On here next called = Ok (here, next, called)
