use mathlib.Core.List.{List, [], ◌∷◌, ◌++◌}
use mathlib.Core.Path.{◌≡◌, refl, ap, ◌∙◌}
use Prim.Native.Nat.{ℕ}
use lib.ListN.{length, drop, set}
use Rattle.passes.specs.Answers.{answer_number, numbers_of}
use Rattle.abi.specs.Filled.{entering_number, entering_numbers}
use Rattle.abi.proofs.Laws.{set-last, twelve}
use Rattle.abi.proofs.tell_entered.Goals.{in-Ok, in-Err}
use Rattle.abi.proofs.tell_entered.Goals as goal

pub returns : goal.returns
returns c =
    let first = c.match-entering.first.0 in
    let told = c.match-entering.first.1 in
    let number : answer_number told ≡ entering_number c.args.entering = elim c.match-entering.branch [
      | in-Ok w ↦ rw (w.in-Ok.is, w.first-is) refl
      | in-Err w ↦ rw (w.in-Err.is, w.first-is) refl
    ] in
    let numbers : numbers_of c.args.bytes told ++ (first ∷ []) ≡ entering_numbers c.args.bytes c.args.entering = elim c.match-entering.branch [
      | in-Ok w ↦ rw (w.in-Ok.is, w.first-is) refl
      | in-Err w ↦ rw (w.in-Err.is, w.first-is) refl
    ] in
    let read : c.copy_from_slice.new.self ≡ numbers_of c.args.bytes told = c.copy_from_slice.ensures.after ∙ c.tell-number.ensures.1 in
    let placed : set (c.copy_from_slice.new.self ++ drop 12 c.args.answer.now) 12 first ≡ c.copy_from_slice.new.self ++ (first ∷ []) =
    set-last c.copy_from_slice.new.self c.args.answer.now 12 first (ap length read ∙ twelve c.args.bytes told) c.told-answer in
    (c.tell-number.ensures.0 ∙ number, placed ∙ ap (λ (l : List ℕ). l ++ (first ∷ [])) read ∙ numbers)
