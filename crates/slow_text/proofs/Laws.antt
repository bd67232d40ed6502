-- What `all` of the library tells, and one turn of the search for a blank within digits, on plain lists. Assumes nothing.
use mathlib.Core.Path.{◌≡◌, refl, sym}
use mathlib.Core.Bool.{Bool, true, false, ◌&&◌, ◌||◌}
use mathlib.Core.List.{List, [], ◌∷◌}
use Prim.Native.Nat.{ℕ, zero, suc, ◌+◌, ◌-◌, ◌≤◌, ◌<◌}
use native.Mathlib.Omega.{arith}
use lib.ListN.{length, get_or, take, drop, drop_of_length-le, length-drop}
use lib.Seq.{take_all}
use Rattle.std.specs.Bool.{MatchBool}
use Rattle.std.specs.List.{AllWithin, HoldsAt}
use Rattle.text.specs.declared.character_set.CharacterSet.{CharacterSet}
use Rattle.text.specs.Characters.{is_blank, is_numeric}
use Rattle.text.specs.DataTypes.{every, some, blank_after}
use Rattle.text.proofs.Laws.{rest}

module _ (test : ℕ → Bool) where
  abbrev Passes : ℕ → Type 0
  Passes x = test x ≡ true

  abbrev Fails : ℕ → Type 0
  Fails x = test x ≡ false

  every-passes : (xs : List ℕ) → AllWithin Passes xs 0 (length xs) → every test xs ≡ true
  every-passes [] h = refl
  every-passes (x ∷ xs) h = rw (h 0 0 (omega arith) (omega arith)) (every-passes xs (λ k d _ l. h (suc k) d (omega arith) (omega arith)))

  every-fails : (xs : List ℕ) (k : ℕ) → k < length xs → Fails (get_or xs k 0) → every test xs ≡ false
  every-fails [] k l h = absurd (omega arith)
  every-fails (x ∷ xs) zero l h = rw h
  every-fails (x ∷ xs) (suc k) l h = rw (every-fails xs k (omega arith) h) (ends (test x))
    where
      ends : (b : Bool) → b && false ≡ false
      ends true = refl
      ends false = refl

  pub every-told : (told : Bool) (xs : List ℕ) → MatchBool told (AllWithin Passes xs 0 (length xs)) ((k : ℕ) × (k < length xs) × HoldsAt Fails xs k)
      → told ≡ every test xs
  every-told true xs h = sym (every-passes xs h)
  every-told false xs h = sym (every-fails xs h.0 h.1 (h.2 0))

-- the end of a list, as a range of a slice takes it
pub end_taken : (i : ℕ) (s : List ℕ) → take (length s - i) (drop i s) ≡ drop i s
end_taken i s = take_all (length s - i) (drop i s) (omega (arith, length-drop i s))

module _ (set : CharacterSet) (before : Bool) (i : ℕ) (s : List ℕ) where
  pub blank-turn : i < length s → blank_after set before (drop i s)
      ≡ (before && (is_blank set (get_or s i 0) && some (is_numeric set) (drop (i + 1) s))) || blank_after set (before || is_numeric set (get_or s i 0)) (drop (i + 1) s)
  blank-turn h = rw (rest s i h)

  pub blank-ends : length s ≤ i → blank_after set before (drop i s) ≡ false
  blank-ends h = rw (drop_of_length-le s h)
