-- The sections of the records walked, one after the other, and their marks. Assumes nothing.
use Prim.Native.Nat.{ℕ, zero, suc, ◌≤◌}
use native.Mathlib.Omega.{arith}
use mathlib.Core.Bool.{Bool, true, false, ◌&&◌, ◌||◌, cond}
use mathlib.Core.List.{List, [], ◌∷◌, ◌++◌, map, append_assoc}
use mathlib.Core.Option.{Option, none, some}
use mathlib.Core.Path.{◌≡◌, refl, sym, ap, ap₂, ◌∙◌}
use lib.Dec.{eqb}
use lib.ListN.{length}
use borrow.Author.Tests.{eqb-true, ne_eqb}
use Rattle.text.specs.declared.character_set.CharacterSet.{CharacterSet}
use Rattle.judge.specs.Alone.{type_of}
use Rattle.file_as_records.specs.Framed.{Body}
use Rattle.arrangement.specs.Sound.{indicator, N}
use Rattle.salvage_model.specs.Runs.{leading, following, not_of, Group, run, loose, groups_from, groups_of, sound_alone}
use Rattle.salvage_model.specs.Kept.{Torn, Section, letter, ending, stray, letter_then, sections_from, sections_of, any_bundle, is_kept, kept, renewed, Marked, marked, out_of_place, group_marks, groups_marks, control_marks, section_marks, sections_marks}
use Rattle.salvage_runs.proofs.Groups.{following-short}
use Rattle.salvage_marks.specs.Left.{group_fate, bodies_of, groups_marked, tail_marked}

cond_same : {A : Type 0} (c : Bool) {x x' y y' : A} → x ≡ x' → y ≡ y' → cond c x y ≡ cond c x' y'
cond_same true p q = p
cond_same false p q = q

module _ (set : CharacterSet) where
  abbrev pub under : Body → Bool
  under = not_of set (10 ∷ 90 ∷ 99 ∷ [])

  abbrev torn : Body → List Group → Option Body → Section
  torn header groups control = letter (record { header = header; groups = groups; control = control })

  letter-same : (header : Body) (groups : List Group) (rest : List Body) (f g : List Body → List Section)
      → ((cs : List Body) → length cs ≤ length rest → f cs ≡ g cs) → letter_then set header groups rest f ≡ letter_then set header groups rest g
  letter-same header groups [] f g h = refl
  letter-same header groups (c ∷ cs) f g h =
      cond_same (eqb (type_of set c) 90) (ap (λ (ss : List Section). torn header groups (some c) ∷ ss) (h cs (omega arith)))
      (ap (λ (ss : List Section). torn header groups none ∷ ss) (h (c ∷ cs) (omega arith)))

  sections-fuel : (m n : ℕ) (bs : List Body) → length bs ≤ m → length bs ≤ n → sections_from set m bs ≡ sections_from set n bs
  unfolding sections_from
  sections-fuel zero zero bs p q = refl
  sections-fuel zero (suc n) [] p q = refl
  sections-fuel zero (suc n) (b ∷ bs) p q = absurd (omega arith)
  sections-fuel (suc m) zero [] p q = refl
  sections-fuel (suc m) zero (b ∷ bs) p q = absurd (omega arith)
  sections-fuel (suc m) (suc n) [] p q = refl
  sections-fuel (suc m) (suc n) (b ∷ bs) p q =
      let short = following-short under bs in
      let others = sections-fuel m n bs (omega arith) (omega arith) in
      cond_same (eqb (type_of set b) 10)
      (letter-same b (groups_of set (leading under bs)) (following under bs) (sections_from set m) (sections_from set n)
      (λ cs l. sections-fuel m n cs (omega arith) (omega arith)))
      (cond_same (eqb (type_of set b) 99) (ap (λ (ss : List Section). ending b ∷ ss) others) (ap (λ (ss : List Section). stray b ∷ ss) others))

  sections-as : (n : ℕ) (bs : List Body) → length bs ≤ n → sections_from set n bs ≡ sections_of set bs
  unfolding sections_of
  sections-as n bs h = sections-fuel n (length bs) bs h (omega arith)

  pub sections-none : sections_of set [] ≡ []
  unfolding sections_of sections_from
  sections-none = refl

  pub groups_none : groups_of set [] ≡ []
  unfolding groups_of groups_from
  groups_none = refl

  pub sections-one : (b : Body) (bs : List Body) → sections_of set (b ∷ bs)
      ≡ cond (eqb (type_of set b) 10) (letter_then set b (groups_of set (leading under bs)) (following under bs) (sections_of set))
      (cond (eqb (type_of set b) 99) (ending b ∷ sections_of set bs) (stray b ∷ sections_of set bs))
  unfolding sections_of sections_from
  sections-one b bs =
      let short = following-short under bs in
      cond_same (eqb (type_of set b) 10)
      (letter-same b (groups_of set (leading under bs)) (following under bs) (sections_from set (length bs)) (sections_of set)
      (λ cs l. sections-as (length bs) cs (omega arith)))
      refl

  -- whether a letter is kept goes by its header and its groups
  abbrev pub kept_letter : Body → List Group → Bool
  kept_letter header groups = sound_alone set 10 header && (eqb (indicator set header) N || any_bundle set header groups)

  pub is-kept : (t : Torn) → is_kept set t ≡ kept_letter t.header t.groups
  unfolding is_kept
  is-kept t = refl

  group-marks : (t : Torn) (g : Group) → group_marks set t g ≡ map (marked (group_fate set t.header (is_kept set t) g)) (bodies_of g)
  group-marks t (loose bs) = refl
  group-marks t (run bs) = refl

  pub groups-marks : (t : Torn) (gs : List Group) → groups_marks set t gs ≡ groups_marked set t.header (is_kept set t) gs
  groups-marks t [] = refl
  groups-marks t (g ∷ gs) = ap₂ (λ (xs ys : List Marked). xs ++ ys) (group-marks t g) (groups-marks t gs)

  letter-as : (b : Body) (gs : List Group) (control : Option Body) (others : List Marked)
      → section_marks set (torn b gs control) ++ others
      ≡ marked (cond (kept_letter b gs) kept out_of_place) b
      ∷ (groups_marked set b (kept_letter b gs) gs ++ (control_marks (kept_letter b gs) control ++ others))
  letter-as b gs control others =
      let t : Torn = record { header = b; groups = gs; control = control } in
      ap (λ (xs : List Marked). marked (cond (is_kept set t) kept out_of_place) b ∷ xs)
      (append_assoc (groups_marks set t gs) (control_marks (is_kept set t) control) others
      ∙ ap (λ (xs : List Marked). xs ++ (control_marks (is_kept set t) control ++ others)) (groups-marks t gs))
      ∙ ap (λ (k : Bool). marked (cond k kept out_of_place) b ∷ (groups_marked set b k gs ++ (control_marks k control ++ others))) (is-kept t)

  pub letter-marks : (b : Body) (gs : List Group) (rest : List Body)
      → sections_marks set (letter_then set b gs rest (sections_of set))
      ≡ marked (cond (kept_letter b gs) kept out_of_place) b ∷ (groups_marked set b (kept_letter b gs) gs ++ tail_marked set (kept_letter b gs) rest)
  letter-marks b gs [] = letter-as b gs none []
  letter-marks b gs (c ∷ cs) = by (eqb (type_of set c) 90)
    where
      by : (d : Bool)
          → sections_marks set (cond d (torn b gs (some c) ∷ sections_of set cs) (torn b gs none ∷ sections_of set (c ∷ cs)))
          ≡ marked (cond (kept_letter b gs) kept out_of_place) b
          ∷ (groups_marked set b (kept_letter b gs) gs
          ++ cond d (marked (cond (kept_letter b gs) renewed out_of_place) c ∷ sections_marks set (sections_of set cs)) (sections_marks set (sections_of set (c ∷ cs))))
      by true = letter-as b gs (some c) (sections_marks set (sections_of set cs))
      by false = letter-as b gs none (sections_marks set (sections_of set (c ∷ cs)))

  -- one record behind the records under a header
  tail-by : (k : Bool) (b : Body) (bs : List Body) → tail_marked set k (b ∷ bs)
      ≡ cond (eqb (type_of set b) 90) (marked (cond k renewed out_of_place) b ∷ sections_marks set (sections_of set bs))
      (sections_marks set
      (cond (eqb (type_of set b) 10) (letter_then set b (groups_of set (leading under bs)) (following under bs) (sections_of set))
      (cond (eqb (type_of set b) 99) (ending b ∷ sections_of set bs) (stray b ∷ sections_of set bs))))
  tail-by k b bs = cond_same (eqb (type_of set b) 90) refl (ap (sections_marks set) (sections-one b bs))

  pub tail-10 : (k : Bool) (b : Body) (bs : List Body) → type_of set b ≡ 10
      → tail_marked set k (b ∷ bs)
      ≡ marked (cond (kept_letter b (groups_of set (leading under bs))) kept out_of_place) b
      ∷ (groups_marked set b (kept_letter b (groups_of set (leading under bs))) (groups_of set (leading under bs))
      ++ tail_marked set (kept_letter b (groups_of set (leading under bs))) (following under bs))
  tail-10 k b bs e =
      tail-by k b bs
      ∙ ap (λ (t : ℕ). cond (eqb t 90) (marked (cond k renewed out_of_place) b ∷ sections_marks set (sections_of set bs))
      (sections_marks set
      (cond (eqb t 10) (letter_then set b (groups_of set (leading under bs)) (following under bs) (sections_of set))
      (cond (eqb t 99) (ending b ∷ sections_of set bs) (stray b ∷ sections_of set bs))))) e
      ∙ letter-marks b (groups_of set (leading under bs)) (following under bs)

  pub tail-renewed : (k : Bool) (b : Body) (bs : List Body) → eqb (type_of set b) 99 || (k && eqb (type_of set b) 90) ≡ true
      → tail_marked set k (b ∷ bs) ≡ marked renewed b ∷ sections_marks set (sections_of set bs)
  tail-renewed k b bs e = by (eqb (type_of set b) 99) refl
    where
      by : (d : Bool) → eqb (type_of set b) 99 ≡ d → tail_marked set k (b ∷ bs) ≡ marked renewed b ∷ sections_marks set (sections_of set bs)
      by true q = tail-by k b bs
          ∙ ap (λ (t : ℕ). cond (eqb t 90) (marked (cond k renewed out_of_place) b ∷ sections_marks set (sections_of set bs))
          (sections_marks set
          (cond (eqb t 10) (letter_then set b (groups_of set (leading under bs)) (following under bs) (sections_of set))
          (cond (eqb t 99) (ending b ∷ sections_of set bs) (stray b ∷ sections_of set bs))))) (eqb-true (type_of set b) 99 q)
      by false q = from k (eqb (type_of set b) 90) refl (ap (λ (d : Bool). d || (k && eqb (type_of set b) 90)) (sym q) ∙ e)
        where
          from : (k d : Bool) → eqb (type_of set b) 90 ≡ d → k && eqb (type_of set b) 90 ≡ true
              → tail_marked set k (b ∷ bs) ≡ marked renewed b ∷ sections_marks set (sections_of set bs)
          from true d r z = rw z
          from false d r z = cc

  pub tail-dropped : (k : Bool) (b : Body) (bs : List Body) → (type_of set b ≡ 10 → ⊥) → eqb (type_of set b) 99 || (k && eqb (type_of set b) 90) ≡ false
      → tail_marked set k (b ∷ bs) ≡ marked out_of_place b ∷ sections_marks set (sections_of set bs)
  tail-dropped k b bs other e =
      tail-by k b bs
      ∙ ap (λ (d : Bool). cond (eqb (type_of set b) 90) (marked (cond k renewed out_of_place) b ∷ sections_marks set (sections_of set bs))
      (sections_marks set
      (cond d (letter_then set b (groups_of set (leading under bs)) (following under bs) (sections_of set))
      (cond (eqb (type_of set b) 99) (ending b ∷ sections_of set bs) (stray b ∷ sections_of set bs))))) (ne_eqb (type_of set b) 10 other)
      ∙ by (eqb (type_of set b) 90) (eqb (type_of set b) 99) k e
    where
      by : (d f k : Bool) → f || (k && d) ≡ false
          → cond d (marked (cond k renewed out_of_place) b ∷ sections_marks set (sections_of set bs))
          (sections_marks set (cond f (ending b ∷ sections_of set bs) (stray b ∷ sections_of set bs)))
          ≡ marked out_of_place b ∷ sections_marks set (sections_of set bs)
      by d true k z = cc
      by true false true z = cc
      by true false false z = refl
      by false false k z = refl

  -- where no letter is open, a 90 is a stray
  pub tail_none : (bs : List Body) → tail_marked set false bs ≡ sections_marks set (sections_of set bs)
  tail_none [] = ap (sections_marks set) (sym sections-none)
  tail_none (b ∷ bs) = by (eqb (type_of set b) 90) refl
    where
      by : (d : Bool) → eqb (type_of set b) 90 ≡ d
          → cond d (marked out_of_place b ∷ sections_marks set (sections_of set bs)) (sections_marks set (sections_of set (b ∷ bs)))
          ≡ sections_marks set (sections_of set (b ∷ bs))
      by true q =
          sym (ap (sections_marks set)
          (sections-one b bs
          ∙ ap (λ (t : ℕ). cond (eqb t 10) (letter_then set b (groups_of set (leading under bs)) (following under bs) (sections_of set))
          (cond (eqb t 99) (ending b ∷ sections_of set bs) (stray b ∷ sections_of set bs))) (eqb-true (type_of set b) 90 q)))
      by false q = refl
