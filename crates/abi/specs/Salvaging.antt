-- What x9_salvage promises (request 11), and that the promise leaves one outcome for every input.
use Rattle.std.specs.Prelude.{ℕ, List, ◌≡◌, length}
use Rattle.std.proofs.Common.{sym, ◌∙◌}
use Rattle.salvage_model.specs.Salvaged.{salvage_outcome, salvage_buffer, salvage_list}
use Rattle.salvage_model.specs.Promises.{Promised}
use Rattle.abi.specs.Filled.{outcome_number, outcome_numbers}

-- the number, the buffer and the list afterwards, the twelve numbers, and what is promised of them
pub record Salvaging (file out list : List ℕ) (n : ℕ) (after rows numbers : List ℕ) : Type 0 where
  pub number : n ≡ outcome_number (salvage_outcome file (length out) (length list))
  pub buffer : after ≡ salvage_buffer file out (length list)
  pub listed : rows ≡ salvage_list file (length out) list
  pub answer : numbers ≡ outcome_numbers (salvage_outcome file (length out) (length list))
  pub promised : Promised file out list (salvage_outcome file (length out) (length list)) after

pub one-salvaging : (file out list : List ℕ) {n m : ℕ} {after later rows others answer other : List ℕ}
    → Salvaging file out list n after rows answer → Salvaging file out list m later others other → (n ≡ m) × (after ≡ later) × (rows ≡ others) × (answer ≡ other)
one-salvaging file out list r s =
    (r.number ∙ sym s.number, r.buffer ∙ sym s.buffer, r.listed ∙ sym s.listed, r.answer ∙ sym s.answer)
