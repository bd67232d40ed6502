-- The values of what is left go by the marks. Assumes nothing.
use Prim.Native.Nat.{ℕ}
use native.Mathlib.Omega.{arith}
use mathlib.Core.Bool.{Bool, true, false, ◌||◌, not, cond}
use mathlib.Core.List.{List, [], ◌∷◌, ◌++◌, map, append_assoc}
use mathlib.Core.Option.{Option, none, some}
use mathlib.Core.Path.{◌≡◌, refl, sym, ap, ◌∙◌}
use lib.Dec.{eqb}
use borrow.Author.Tests.{eq-eqb}
use Rattle.text.specs.declared.character_set.CharacterSet.{CharacterSet}
use Rattle.layout.specs.Layouts.{cash_letter_control, file_control}
use Rattle.judge.specs.Alone.{type_of}
use Rattle.passes.specs.declared.Fault.{Fault}
use Rattle.order.specs.MayFollow.{is_one_of}
use Rattle.file_as_records.specs.Framed.{Body}
use Rattle.draft.specs.Values.{Values, values_of_body}
use Rattle.salvage_model.specs.Runs.{Group, run, loose, sound_alone, run_fault}
use Rattle.salvage_model.specs.Kept.{Torn, Section, letter, ending, stray, is_kept, Fate, kept, renewed, dropped, Marked, marked, out_of_place, run_fate, group_marks, groups_marks, control_marks, section_marks, sections_marks, kept_bodies, control_values, letter_values, sections_values, ending_of, any_kept}
use Rattle.salvage_made.specs.ByMarks.{by_fate, by_marks, is_kept_fate, any_marked}
use Rattle.salvage_made.proofs.Sections.{Every, EveryGroup, under, EndsWell, Well}

-- records that are dropped make nothing
abbrev AllDropped : List Marked → Type 0
AllDropped [] = Unit {0}
AllDropped (m ∷ ms) = ((n : ℕ) × (m.fate ≡ dropped n)) × AllDropped ms

dropped-append : (xs ys : List Marked) → AllDropped xs → AllDropped ys → AllDropped (xs ++ ys)
dropped-append [] ys p q = q
dropped-append (x ∷ xs) ys p q = (p.0, dropped-append xs ys p.1 q)

dropped-map : (f : Fate) (n : ℕ) → f ≡ dropped n → (bs : List Body) → AllDropped (map (marked f) bs)
dropped-map f n e [] = tt
dropped-map f n e (b ∷ bs) = ((n, e), dropped-map f n e bs)

module _ (set : CharacterSet) where
  past-dropped : (is_open : Bool) (xs ys : List Marked) → AllDropped xs → by_marks set is_open (xs ++ ys) ≡ by_marks set is_open ys
  unfolding by_marks
  past-dropped is_open [] ys h = refl
  past-dropped is_open (x ∷ xs) ys h =
      ap (λ (f : Fate). by_fate set is_open f x.body (λ o. by_marks set o (xs ++ ys))) h.0.1 ∙ past-dropped is_open xs ys h.1

  none-marked : (xs ys : List Marked) → AllDropped xs → any_marked (xs ++ ys) ≡ any_marked ys
  none-marked [] ys h = refl
  none-marked (x ∷ xs) ys h = ap (λ (f : Fate). is_kept_fate f || any_marked (xs ++ ys)) h.0.1 ∙ none-marked xs ys h.1

  -- a letter that is not kept
  module _ (t : Torn) (e : is_kept set t ≡ false) where
    run-dropped : (o : Option Fault) → (n : ℕ) × (run_fate (is_kept set t) o ≡ dropped n)
    run-dropped none = (6, rw e)
    run-dropped (some fault) = (_, refl)

    group-dropped : (g : Group) → AllDropped (group_marks set t g)
    group-dropped (loose bs) = dropped-map out_of_place 6 refl bs
    group-dropped (run bs) = by (sound_alone set 10 t.header)
      where
        by : (c : Bool) → AllDropped (map (marked (cond c (run_fate (is_kept set t) (run_fault set t.header bs)) out_of_place)) bs)
        by true = let d = run-dropped (run_fault set t.header bs) in dropped-map (run_fate (is_kept set t) (run_fault set t.header bs)) d.0 d.1 bs
        by false = dropped-map out_of_place 6 refl bs

    groups-dropped : (gs : List Group) → AllDropped (groups_marks set t gs)
    groups-dropped [] = tt
    groups-dropped (g ∷ gs) = dropped-append (group_marks set t g) (groups_marks set t gs) (group-dropped g) (groups-dropped gs)

    control-dropped : (c : Option Body) → AllDropped (control_marks (is_kept set t) c)
    control-dropped none = tt
    control-dropped (some b) = ((6, rw e), tt)

    letter-dropped : AllDropped (section_marks set (letter t))
    letter-dropped =
        ((6, rw e), dropped-append (groups_marks set t t.groups) (control_marks (is_kept set t) t.control) (groups-dropped t.groups) (control-dropped t.control))

  -- records of runs: kept or dropped, and none of them a 10
  abbrev pub InRuns : List Marked → Type 0
  InRuns [] = Unit {0}
  InRuns (m ∷ ms) = ((m.fate ≡ renewed → ⊥) × (eqb (type_of set m.body) 10 ≡ false)) × InRuns ms

  in-append : (xs ys : List Marked) → InRuns xs → InRuns ys → InRuns (xs ++ ys)
  in-append [] ys p q = q
  in-append (x ∷ xs) ys p q = (p.0, in-append xs ys p.1 q)

  not-10 : (t : ℕ) → not (is_one_of t (10 ∷ 90 ∷ 99 ∷ [])) ≡ true → eqb t 10 ≡ false
  not-10 t = by (eqb t 10)
    where
      by : (c : Bool) → not (c || is_one_of t (90 ∷ 99 ∷ [])) ≡ true → c ≡ false
      by true e = sym e
      by false e = refl

  pub in_map : (f : Fate) → (f ≡ renewed → ⊥) → (bs : List Body) → Every set (under set) bs → InRuns (map (marked f) bs)
  in_map f e [] h = tt
  in_map f e (b ∷ bs) h = ((e, not-10 (type_of set b) h.0), in_map f e bs h.1)

  place-never : out_of_place ≡ renewed → ⊥
  place-never e = let z : ◌≡◌ {A = ℕ} 0 1 = cc in omega arith

  run-never : (k : Bool) (o : Option Fault) → run_fate k o ≡ renewed → ⊥
  run-never true none e = let z : ◌≡◌ {A = ℕ} 0 1 = cc in omega arith
  run-never false none e = let z : ◌≡◌ {A = ℕ} 0 1 = cc in omega arith
  run-never k (some fault) e = let z : ◌≡◌ {A = ℕ} 0 1 = cc in omega arith

  groups-in : (t : Torn) (gs : List Group) → EveryGroup set (under set) gs → InRuns (groups_marks set t gs)
  groups-in t [] h = tt
  groups-in t (loose bs ∷ gs) h = in-append (group_marks set t (loose bs)) (groups_marks set t gs) (in_map out_of_place place-never bs h.0) (groups-in t gs h.1)
  groups-in t (run bs ∷ gs) h = in-append (group_marks set t (run bs)) (groups_marks set t gs) (by (sound_alone set 10 t.header)) (groups-in t gs h.1)
    where
      by : (c : Bool) → InRuns (map (marked (cond c (run_fate (is_kept set t) (run_fault set t.header bs)) out_of_place)) bs)
      by true = in_map (run_fate (is_kept set t) (run_fault set t.header bs)) (run-never (is_kept set t) (run_fault set t.header bs)) bs h.0
      by false = in_map out_of_place place-never bs h.0

  pub past-runs : (is_open : Bool) (xs ys : List Marked) → InRuns xs
      → by_marks set is_open (xs ++ ys) ≡ map (values_of_body set) (kept_bodies xs) ++ by_marks set is_open ys
  unfolding by_marks
  past-runs is_open [] ys h = refl
  past-runs is_open (x ∷ xs) ys h = by x.fate refl (past-runs is_open xs ys h.1)
    where
      by : (f : Fate) → x.fate ≡ f → by_marks set is_open (xs ++ ys) ≡ map (values_of_body set) (kept_bodies xs) ++ by_marks set is_open ys
          → by_marks set is_open ((x ∷ xs) ++ ys) ≡ map (values_of_body set) (kept_bodies (x ∷ xs)) ++ by_marks set is_open ys
      by kept e later = rw (e, h.0.1) (ap (λ (vs : List Values). values_of_body set x.body ∷ vs) later)
      by renewed e later = absurd (h.0.0 e)
      by (dropped n) e later = rw e later

  -- a letter that was left open is closed before anything else is made
  open-closes : (ss : List Section) → Well set ss
      → by_marks set true (sections_marks set ss) ≡ control_values set cash_letter_control none ∷ by_marks set false (sections_marks set ss)
  unfolding by_marks
  open-closes [] h = refl
  open-closes (letter t ∷ ss) h = by (is_kept set t) refl (open-closes ss h.1)
    where
      by : (c : Bool) → is_kept set t ≡ c
          → by_marks set true (sections_marks set ss) ≡ control_values set cash_letter_control none ∷ by_marks set false (sections_marks set ss)
          → by_marks set true (section_marks set (letter t) ++ sections_marks set ss)
          ≡ control_values set cash_letter_control none ∷ by_marks set false (section_marks set (letter t) ++ sections_marks set ss)
      by true e later = rw (e, eq-eqb (type_of set t.header) 10 h.0.header)
      by false e later =
          past-dropped true (section_marks set (letter t)) (sections_marks set ss) (letter-dropped t e)
          ∙ later
          ∙ ap (λ (vs : List Values). control_values set cash_letter_control none ∷ vs)
          (sym (past-dropped false (section_marks set (letter t)) (sections_marks set ss) (letter-dropped t e)))
  open-closes (ending b ∷ ss) h = rw (eq-eqb (type_of set b) 99 h.0)
  open-closes (stray b ∷ ss) h = open-closes ss h

  abbrev file_end : List Section → List Values
  file_end ss = control_values set file_control (ending_of ss) ∷ []

  closed : (c : Option Body) (ss : List Section) → EndsWell set c → Well set ss
      → by_marks set true (control_marks true c ++ sections_marks set ss) ≡ control_values set cash_letter_control c ∷ by_marks set false (sections_marks set ss)
  unfolding by_marks
  closed none ss e h = open-closes ss h
  closed (some b) ss e h = rw e

  abbrev in_runs : Torn → List Values
  in_runs t = map (values_of_body set) (kept_bodies (groups_marks set t t.groups))

  pub by-marks : (ss : List Section) → Well set ss → sections_values set ss ++ file_end ss ≡ by_marks set false (sections_marks set ss)
  unfolding by_marks
  by-marks [] h = refl
  by-marks (letter t ∷ ss) h = by (is_kept set t) refl (by-marks ss h.1)
    where
      by : (c : Bool) → is_kept set t ≡ c → sections_values set ss ++ file_end ss ≡ by_marks set false (sections_marks set ss)
          → (letter_values set t ++ sections_values set ss) ++ file_end ss ≡ by_marks set false (section_marks set (letter t) ++ sections_marks set ss)
      by true e later =
          ap (λ (c : Bool). (cond c (values_of_body set t.header ∷ (in_runs t ++ (control_values set cash_letter_control t.control ∷ []))) [] ++ sections_values set ss) ++ file_end ss) e
          ∙ ap (λ (vs : List Values). values_of_body set t.header ∷ vs)
          (append_assoc (in_runs t ++ (control_values set cash_letter_control t.control ∷ [])) (sections_values set ss) (file_end ss)
          ∙ append_assoc (in_runs t) (control_values set cash_letter_control t.control ∷ []) (sections_values set ss ++ file_end ss)
          ∙ ap (λ (vs : List Values). in_runs t ++ (control_values set cash_letter_control t.control ∷ vs)) later
          ∙ ap (λ (vs : List Values). in_runs t ++ vs) (sym (closed t.control ss h.0.control h.1))
          ∙ sym (past-runs true (groups_marks set t t.groups) (control_marks true t.control ++ sections_marks set ss) (groups-in t t.groups h.0.groups))
          ∙ ap (by_marks set true) (sym (append_assoc (groups_marks set t t.groups) (control_marks true t.control) (sections_marks set ss))))
          ∙ sym (rw (e, eq-eqb (type_of set t.header) 10 h.0.header) refl)
      by false e later =
          ap (λ (c : Bool). (cond c (values_of_body set t.header ∷ (in_runs t ++ (control_values set cash_letter_control t.control ∷ []))) [] ++ sections_values set ss) ++ file_end ss) e
          ∙ later
          ∙ sym (past-dropped false (section_marks set (letter t)) (sections_marks set ss) (letter-dropped t e))
  by-marks (ending b ∷ ss) h = rw (h.1, eq-eqb (type_of set b) 99 h.0)
  by-marks (stray b ∷ ss) h = by-marks ss h

  -- and so does whether anything is left
  pub any-marked : (ss : List Section) → Well set ss → any_kept set ss ≡ any_marked (sections_marks set ss)
  any-marked [] h = refl
  any-marked (letter t ∷ ss) h = by (is_kept set t) refl (any-marked ss h.1)
    where
      by : (c : Bool) → is_kept set t ≡ c → any_kept set ss ≡ any_marked (sections_marks set ss) → is_kept set t || any_kept set ss ≡ any_marked (section_marks set (letter t) ++ sections_marks set ss)
      by true e later = rw e
      by false e later =
          ap (λ (c : Bool). c || any_kept set ss) e ∙ later
          ∙ sym (none-marked (section_marks set (letter t)) (sections_marks set ss) (letter-dropped t e))
  any-marked (ending b ∷ ss) h = any-marked ss (rw h.1 tt)
  any-marked (stray b ∷ ss) h = any-marked ss h
