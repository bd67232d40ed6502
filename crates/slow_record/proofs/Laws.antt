-- One turn of each loop over the lines of the table, on plain values. Assumes nothing.
use mathlib.Core.Path.{◌≡◌, refl, sym, ap, ◌∙◌}
use mathlib.Core.Bool.{Bool, true, false, cond, ◌&&◌, not}
use mathlib.Core.List.{List, [], ◌∷◌, map}
use Prim.Native.Nat.{ℕ, zero, suc, ◌+◌, ◌≤◌, ◌<◌}
use native.Mathlib.Nat.{zero-add}
use lib.ListN.{length, get_or, take, drop, drop_of_length-le}
use Rattle.text.specs.declared.character_set.CharacterSet.{CharacterSet}
use Rattle.text.specs.DataTypes.{of_type}
use Rattle.text.proofs.Laws.{rest}
use denote.Ref.{Bor}
use Rattle.std.specs.Prelude.{Option, None, Some, MatchOption}
use Rattle.std.specs.List.{AllWithin, HoldsAt}
use native.Mathlib.Omega.{arith}
use Rattle.layout.specs.Fault.{as_field}
use Rattle.slow_record.specs.Rows.{Entry, entry_of, is_field, is_part, is_record, field_holds, stated_in, fields_of, parts_of, length_of, wrong_field, stated, wrong_part}

-- an entry that is passed over, that is right, or that is wrong
module _ (set : CharacterSet) (e : Entry) (es : List Entry) (body : List ℕ) where
  wrong-stop : (own : Bool) → own && not (field_holds set e body) ≡ true → wrong_field set (cond own (e ∷ es) es) body ≡ e.number
  unfolding wrong_field
  wrong-stop true t = found (field_holds set e body) t
    where
      found : (right : Bool) → not right ≡ true → cond right (wrong_field set es body) e.number ≡ e.number
      found true t = cc
      found false t = refl
  wrong-stop false t = cc

  wrong-pass : (own : Bool) → own && not (field_holds set e body) ≡ false → wrong_field set (cond own (e ∷ es) es) body ≡ wrong_field set es body
  unfolding wrong_field
  wrong-pass true t = right (field_holds set e body) t
    where
      right : (right : Bool) → not right ≡ false → cond right (wrong_field set es body) e.number ≡ wrong_field set es body
      right true t = refl
      right false t = cc
  wrong-pass false t = refl

  stated-pass : (own : Bool) → stated set (cond own (e ∷ es) es) body ≡ cond own (stated_in set e body) 0 + stated set es body
  unfolding stated
  stated-pass true = refl
  stated-pass false = sym (zero-add (stated set es body))

  module _ (after : List ℕ) where
    abbrev of_its_type : Bool
    of_its_type = of_type set e.data_type (take (stated_in set e body) after)

    part-stop : (own : Bool) → own && not of_its_type ≡ true → wrong_part set (cond own (e ∷ es) es) body after ≡ e.number
    unfolding wrong_part
    part-stop true t = found of_its_type t
      where
        found : (right : Bool) → not right ≡ true → cond right (wrong_part set es body (drop (stated_in set e body) after)) e.number ≡ e.number
        found true t = cc
        found false t = refl
    part-stop false t = cc

    part-pass : (own : Bool) → own && not of_its_type ≡ false
        → wrong_part set (cond own (e ∷ es) es) body after ≡ wrong_part set es body (drop (cond own (stated_in set e body) 0) after)
    unfolding wrong_part
    part-pass true t = right of_its_type t
      where
        right : (right : Bool) → not right ≡ false
            → cond right (wrong_part set es body (drop (stated_in set e body) after)) e.number ≡ wrong_part set es body (drop (stated_in set e body) after)
        right true t = refl
        right false t = cc
    part-pass false t = refl

-- What `find` tells of a definition that stops at the first number that passes a test.
module _ (test : ℕ → Bool) where
  abbrev Passes : ℕ → Type 0
  Passes x = test x ≡ true

  abbrev Fails : ℕ → Type 0
  Fails x = test x ≡ false

  -- a number that is the first in the list to pass, or none
  abbrev FirstFound : List ℕ → Option (Bor ℕ) → Type 0
  FirstFound xs r =
      MatchOption r (AllWithin Fails xs 0 (length xs)) (λ x. Passes x.now × (i : ℕ) × (i < length xs) × HoldsAt (λ y. y ≡ x.now) xs i × AllWithin Fails xs 0 i)

  module _ (F : List ℕ → ℕ) (v : ℕ → ℕ) (none : F [] ≡ 0)
      (hit : (x : ℕ) (xs : List ℕ) → Passes x → F (x ∷ xs) ≡ v x) (miss : (x : ℕ) (xs : List ℕ) → Fails x → F (x ∷ xs) ≡ F xs) where
    passed : (xs : List ℕ) → AllWithin Fails xs 0 (length xs) → F xs ≡ 0
    passed [] h = none
    passed (x ∷ xs) h = miss x xs (h 0 0 (omega arith) (omega arith)) ∙ passed xs (λ k d _ l. h (suc k) d (omega arith) (omega arith))

    stopped : (xs : List ℕ) (i x : ℕ) → i < length xs → Passes x → HoldsAt (λ y. y ≡ x) xs i → AllWithin Fails xs 0 i → F xs ≡ v x
    stopped [] i x l p at h = absurd (omega arith)
    stopped (y ∷ ys) zero x l p at h = let same : y ≡ x = at 0 in hit y ys (rw same p) ∙ ap v same
    stopped (y ∷ ys) (suc i) x l p at h =
        miss y ys (h 0 0 (omega arith) (omega arith)) ∙ stopped ys i x (omega arith) p at (λ k d _ l. h (suc k) d (omega arith) (omega arith))

    pub found : (xs : List ℕ) (r : Option (Bor ℕ)) → FirstFound xs r → MatchOption r (F xs ≡ 0) (λ x. F xs ≡ v x.now)
    found xs None h = passed xs h
    found xs (Some x) h = stopped xs h.1 x.now h.2 h.0 h.3 h.4

-- the number of a line that was found, as it is told
pub found-number : {P : Type 0} {Q : Bor ℕ → Type 0} (r : Option (Bor ℕ)) (n : ℕ) (v : ℕ → ℕ) (o : Option ℕ) → MatchOption r (n ≡ 0) (λ x. n ≡ v x.now)
    → MatchOption r P Q → (P → o ≡ None) → ((x : Bor ℕ) → Q x → o ≡ as_field (v x.now)) → o ≡ as_field n
found-number None n v o h k p q = rw h (p k)
found-number (Some x) n v o h k p q = rw h (q x k)

module _ (set : CharacterSet) (kind : ℕ) (body : List ℕ) where
  abbrev is_wrong : ℕ → Bool
  is_wrong line = is_field kind (entry_of line) && not (field_holds set (entry_of line) body)

  abbrev wrong_in : List ℕ → ℕ
  wrong_in lines = wrong_field set (fields_of kind (map entry_of lines)) body

  pub wrong-first : (lines : List ℕ) (r : Option (Bor ℕ)) → FirstFound is_wrong lines r
      → MatchOption r (wrong_in lines ≡ 0) (λ x. wrong_in lines ≡ (entry_of x.now).number)
  unfolding wrong_field
  wrong-first = found is_wrong wrong_in (λ x. (entry_of x).number) refl
      (λ x xs t. wrong-stop set (entry_of x) (fields_of kind (map entry_of xs)) body (is_field kind (entry_of x)) t)
      (λ x xs t. wrong-pass set (entry_of x) (fields_of kind (map entry_of xs)) body (is_field kind (entry_of x)) t)

module _ (kind : ℕ) where
  abbrev names_it : ℕ → Bool
  names_it line = is_record kind (entry_of line)

  abbrev length_among : List ℕ → ℕ
  length_among lines = length_of kind (map entry_of lines)

  pub length-first : (lines : List ℕ) (r : Option (Bor ℕ)) → FirstFound names_it lines r
      → MatchOption r (length_among lines ≡ 0) (λ x. length_among lines ≡ (entry_of x.now).size)
  unfolding length_of
  length-first = found names_it length_among (λ x. (entry_of x).size) refl (λ x xs t. rw t) (λ x xs t. rw t)

module _ (set : CharacterSet) (kind : ℕ) (lines body : List ℕ) (i : ℕ) where
  abbrev line : Entry
  line = entry_of (get_or lines i 0)

  abbrev left : List Entry
  left = map entry_of (drop i lines)

  abbrev later : List Entry
  later = map entry_of (drop (i + 1) lines)

  pub stated-line : i < length lines
      → stated set (parts_of kind left) body ≡ cond (is_part kind line) (stated_in set line body) 0 + stated set (parts_of kind later) body
  stated-line h = rw (rest lines i h) (stated-pass set line (parts_of kind later) body (is_part kind line))

  pub stated-none : length lines ≤ i → stated set (parts_of kind left) body ≡ 0
  unfolding stated
  stated-none h = rw (drop_of_length-le lines h)

  module _ (after : List ℕ) where
    pub part-here : i < length lines → is_part kind line && not (of_type set line.data_type (take (stated_in set line body) after)) ≡ true
        → wrong_part set (parts_of kind left) body after ≡ line.number
    part-here h t = rw (rest lines i h) (part-stop set line (parts_of kind later) body after (is_part kind line) t)

    pub part-later : i < length lines → is_part kind line && not (of_type set line.data_type (take (stated_in set line body) after)) ≡ false
        → wrong_part set (parts_of kind left) body after
        ≡ wrong_part set (parts_of kind later) body (drop (cond (is_part kind line) (stated_in set line body) 0) after)
    part-later h t = rw (rest lines i h) (part-pass set line (parts_of kind later) body after (is_part kind line) t)

    pub part_none : length lines ≤ i → wrong_part set (parts_of kind left) body after ≡ 0
    unfolding wrong_part
    part_none h = rw (drop_of_length-le lines h)

-- a test of the characters of a line of the kind does not hang on the size that is taken for other lines
same_test : (own : Bool) (test : ℕ → Bool) (size : ℕ) → own && not (test (cond own size 0)) ≡ own && not (test size)
same_test true test size = refl
same_test false test size = refl

pub part-told : (own : Bool) (test : List ℕ → Bool) (size : ℕ) (result : Bool) (characters rest : List ℕ) (n : ℕ) → result ≡ own && not (test characters)
    → characters ≡ take n rest → n ≡ cond own size 0 → own && not (test (take size rest)) ≡ result
part-told own test size result characters rest n told taken sized =
    sym (told ∙ rw (taken, sized) (same_test own (λ (m : ℕ). test (take m rest)) size))
