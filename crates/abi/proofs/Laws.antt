-- A promise of an outcome is one of what the outcome is. Assumes nothing.
use Prim.Native.Nat.{ℕ, suc}
use mathlib.Core.List.{List, [], ◌∷◌, ◌++◌}
use mathlib.Core.Path.{◌≡◌, refl, sym, ap, ◌∙◌, subst}
use lib.ListN.{length, set, drop}
use native.Mathlib.Nat.{suc_inj, suc-ne-zero}
use Rattle.std.specs.Prelude.{Ok, Err}
use Rattle.passes.specs.Answers.{Answer, numbers_of}
use Rattle.draft.specs.Outcomes.{Outcome}
use Rattle.draft.specs.Promises.{Promised}
use Rattle.salvage_model.specs.Promises as salvage

pub of-outcome : {text draft out after : List ℕ} {a b : Outcome} → a ≡ b → Promised text draft out a after → Promised text draft out b after
of-outcome {text} {draft} {out} {after} e h = subst (λ (a : Outcome). Promised text draft out a after) e h

pub of-salvage : {file out list after : List ℕ} {a b : Outcome} → a ≡ b → salvage.Promised file out list a after → salvage.Promised file out list b after
of-salvage {file} {out} {list} {after} e h = subst (λ (a : Outcome). salvage.Promised file out list a after) e h

-- An answer tells twelve numbers.
pub twelve : (bytes : ℕ) (told : Answer) → length (numbers_of bytes told) ≡ 12
twelve bytes (Ok t) = refl
twelve bytes (Err r) = refl

-- Where a list is longer by one than what was copied over its front, the number set behind is its last.
last : (xs l : List ℕ) (z : ℕ) → length l ≡ suc (length xs) → set (xs ++ drop (length xs) l) (length xs) z ≡ xs ++ (z ∷ [])
last [] [] z e = absurd (suc-ne-zero 0 (sym e))
last [] (y ∷ []) z e = refl
last [] (y ∷ t ∷ l) z e = absurd (suc-ne-zero (length l) (suc_inj e))
last (x ∷ xs) [] z e = absurd (suc-ne-zero (suc (length xs)) (sym e))
last (x ∷ xs) (y ∷ l) z e = ap (λ (r : List ℕ). x ∷ r) (last xs l z (suc_inj e))

pub set-last : (xs l : List ℕ) (n z : ℕ) → length xs ≡ n → length l ≡ suc n → set (xs ++ drop n l) n z ≡ xs ++ (z ∷ [])
set-last xs l n z e h = subst (λ (k : ℕ). set (xs ++ drop k l) k z ≡ xs ++ (z ∷ [])) e (last xs l z (h ∙ ap suc (sym e)))
