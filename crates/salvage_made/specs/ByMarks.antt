-- The values of what is left, mark by mark: the order in which the code makes them out. Nothing of this has to be believed.
use Rattle.std.specs.Prelude.{ℕ, ◌+◌, Bool, true, false, ◌||◌, cond, List, [], ◌∷◌, map, ◌≡◌, eqb}
use Rattle.std.proofs.Math.Option.{none, some}
use Rattle.text.specs.declared.character_set.CharacterSet.{CharacterSet}
use Rattle.layout.specs.Layouts.{cash_letter_control, file_control}
use Rattle.judge.specs.Alone.{type_of}
use Rattle.file_as_records.specs.Framed.{Body}
use Rattle.draft.specs.Values.{Values, values_of_body}
use Rattle.draft.specs.Completed.{is_own_addendum, addenda_behind}
use Rattle.salvage_model.specs.Kept.{Fate, kept, renewed, dropped, Marked, control_values}

-- a letter that is open is closed by a new control before anything else is written
abbrev pub closing : CharacterSet → Bool → List Values → List Values
closing set is_open vs = cond is_open (control_values set cash_letter_control none ∷ vs) vs

abbrev pub by_fate : CharacterSet → Bool → Fate → Body → (Bool → List Values) → List Values
by_fate set is_open kept b others =
    cond (eqb (type_of set b) 10) (closing set is_open (values_of_body set b ∷ others true)) (values_of_body set b ∷ others is_open)
by_fate set is_open renewed b others =
    cond (eqb (type_of set b) 99) (closing set is_open (control_values set file_control (some b) ∷ [])) (control_values set cash_letter_control (some b) ∷ others false)
by_fate set is_open (dropped n) b others = others is_open

unfoldable pub by_marks : CharacterSet → Bool → List Marked → List Values
by_marks set is_open [] = closing set is_open (control_values set file_control none ∷ [])
by_marks set is_open (m ∷ ms) = by_fate set is_open m.fate m.body (λ o. by_marks set o ms)

-- the kinds that are made new
abbrev pub is_control : ℕ → Bool
is_control kind = eqb kind 90 || eqb kind 99

-- whether any record is kept
abbrev pub is_kept_fate : Fate → Bool
is_kept_fate kept = true
is_kept_fate renewed = false
is_kept_fate (dropped n) = false

abbrev pub any_marked : List Marked → Bool
any_marked [] = false
any_marked (m ∷ ms) = is_kept_fate m.fate || any_marked ms

-- nothing stands behind a 99
abbrev pub OnlyLast : CharacterSet → List Body → Type 0
OnlyLast set [] = Unit {0}
OnlyLast set (b ∷ bs) = (type_of set b ≡ 99 → bs ≡ []) × OnlyLast set bs

-- the bodies of marked records
abbrev pub bodies_in : List Marked → List Body
bodies_in ms = map (λ (m : Marked). m.body) ms

-- how many records right behind an item are its addenda, counted in the file
abbrev pub addenda_among : CharacterSet → ℕ → List Body → ℕ
addenda_among set item [] = 0
addenda_among set item (b ∷ bs) = cond (is_own_addendum item (type_of set b)) (1 + addenda_among set item bs) 0

-- behind each record that is kept, as many of its addenda stand in the file as are made out
abbrev pub CountedAlike : CharacterSet → List Marked → Type 0
CountedAlike set [] = Unit {0}
CountedAlike set (m ∷ ms) =
    (m.fate ≡ kept → (is_open : Bool) → addenda_behind (type_of set m.body) (by_marks set is_open ms) ≡ addenda_among set (type_of set m.body) (bodies_in ms))
    × CountedAlike set ms
