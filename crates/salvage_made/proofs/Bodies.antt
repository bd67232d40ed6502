-- Each record walked is marked once, in order. Assumes nothing.
use Prim.Native.Nat.{ℕ, zero, suc, ◌≤◌}
use native.Mathlib.Omega.{arith}
use mathlib.Core.Bool.{Bool, true, false, cond}
use mathlib.Core.List.{List, [], ◌∷◌, ◌++◌, map, append_assoc}
use mathlib.Core.Option.{Option, none, some}
use mathlib.Core.Path.{◌≡◌, refl, ap, ap₂, ◌∙◌}
use lib.Dec.{eqb}
use lib.ListN.{length}
use Rattle.text.specs.declared.character_set.CharacterSet.{CharacterSet}
use Rattle.judge.specs.Alone.{type_of}
use Rattle.file_as_records.specs.Framed.{Body}
use Rattle.salvage_model.specs.Runs.{leading, following, of, not_of, Group, run, loose, stretch_then, groups_from, groups_of, sound_alone, run_fault}
use Rattle.salvage_model.specs.Kept.{Torn, letter, ending, stray, letter_then, sections_from, sections_of, is_kept, Fate, Marked, marked, out_of_place, run_fate, group_marks, groups_marks, control_marks, section_marks, sections_marks, marks_of}
use Rattle.salvage_made.specs.ByMarks.{bodies_in}
use Rattle.salvage_made.proofs.Sections.{under}

bodies-map : (f : Fate) (bs : List Body) → bodies_in (map (marked f) bs) ≡ bs
bodies-map f [] = refl
bodies-map f (b ∷ bs) = ap (λ (cs : List Body). b ∷ cs) (bodies-map f bs)

bodies-append : (xs ys : List Marked) → bodies_in (xs ++ ys) ≡ bodies_in xs ++ bodies_in ys
bodies-append [] ys = refl
bodies-append (x ∷ xs) ys = ap (λ (cs : List Body). x.body ∷ cs) (bodies-append xs ys)

parted : (test : Body → Bool) (bs : List Body) → leading test bs ++ following test bs ≡ bs
parted test [] = refl
parted test (b ∷ bs) = by (test b) (parted test bs)
  where
    by : (c : Bool) → leading test bs ++ following test bs ≡ bs → cond c (b ∷ leading test bs) [] ++ cond c (following test bs) (b ∷ bs) ≡ b ∷ bs
    by true later = ap (λ (cs : List Body). b ∷ cs) later
    by false later = refl

short : (test : Body → Bool) (bs : List Body) → length (following test bs) ≤ length bs
short test [] = omega arith
short test (b ∷ bs) = by (test b) (short test bs)
  where
    by : (c : Bool) → length (following test bs) ≤ length bs → length (cond c (following test bs) (b ∷ bs)) ≤ length (b ∷ bs)
    by true h = omega arith
    by false h = omega arith

abbrev group_bodies : List Group → List Body
group_bodies [] = []
group_bodies (run bs ∷ gs) = bs ++ group_bodies gs
group_bodies (loose bs ∷ gs) = bs ++ group_bodies gs

module _ (set : CharacterSet) where
  groups-bodies : (n : ℕ) (bs : List Body) → length bs ≤ n → group_bodies (groups_from set n bs) ≡ bs
  unfolding groups_from
  groups-bodies zero [] h = refl
  groups-bodies zero (b ∷ bs) h = absurd (omega arith)
  groups-bodies (suc n) [] h = refl
  groups-bodies (suc n) (b ∷ bs) h = by (eqb (type_of set b) 20) (eqb (type_of set b) 61) (λ cs l. groups-bodies n cs (omega arith))
    where
      closes : ((cs : List Body) → length cs ≤ length bs → group_bodies (groups_from set n cs) ≡ cs) → (inside : List Body) (c : Body) (cs : List Body)
          → length (c ∷ cs) ≤ length bs → (d : Bool)
          → group_bodies (cond d (run (inside ++ (c ∷ [])) ∷ groups_from set n cs) (loose inside ∷ groups_from set n (c ∷ cs))) ≡ inside ++ (c ∷ cs)
      closes others inside c cs l true =
          append_assoc inside (c ∷ []) (group_bodies (groups_from set n cs)) ∙ ap (λ (ds : List Body). inside ++ (c ∷ ds)) (others cs (omega arith))
      closes others inside c cs l false = ap (λ (ds : List Body). inside ++ ds) (others (c ∷ cs) l)

      stretch : ((cs : List Body) → length cs ≤ length bs → group_bodies (groups_from set n cs) ≡ cs) → (inside rest : List Body) → length rest ≤ length bs
          → group_bodies (stretch_then set inside rest (groups_from set n)) ≡ inside ++ rest
      stretch others inside [] l = refl
      stretch others inside (c ∷ cs) l = closes others inside c cs l (eqb (type_of set c) 70)

      by : (c d : Bool) → ((cs : List Body) → length cs ≤ length bs → group_bodies (groups_from set n cs) ≡ cs)
          → group_bodies
          (cond c
          (stretch_then set (b ∷ leading (not_of set (20 ∷ 70 ∷ [])) bs) (following (not_of set (20 ∷ 70 ∷ [])) bs) (groups_from set n))
          (cond d
          (run (b ∷ leading (of set (50 ∷ 52 ∷ 54 ∷ [])) bs) ∷ groups_from set n (following (of set (50 ∷ 52 ∷ 54 ∷ [])) bs))
          (loose (b ∷ []) ∷ groups_from set n bs)))
          ≡ b ∷ bs
      by true d others =
          stretch others (b ∷ leading (not_of set (20 ∷ 70 ∷ [])) bs) (following (not_of set (20 ∷ 70 ∷ [])) bs) (short (not_of set (20 ∷ 70 ∷ [])) bs)
          ∙ ap (λ (cs : List Body). b ∷ cs) (parted (not_of set (20 ∷ 70 ∷ [])) bs)
      by false true others =
          ap (λ (cs : List Body). b ∷ (leading (of set (50 ∷ 52 ∷ 54 ∷ [])) bs ++ cs))
          (others (following (of set (50 ∷ 52 ∷ 54 ∷ [])) bs) (short (of set (50 ∷ 52 ∷ 54 ∷ [])) bs))
          ∙ ap (λ (cs : List Body). b ∷ cs) (parted (of set (50 ∷ 52 ∷ 54 ∷ [])) bs)
      by false false others = ap (λ (cs : List Body). b ∷ cs) (others bs (omega arith))

  groups-marked : (t : Torn) (gs : List Group) → bodies_in (groups_marks set t gs) ≡ group_bodies gs
  groups-marked t [] = refl
  groups-marked t (loose bs ∷ gs) =
      bodies-append (group_marks set t (loose bs)) (groups_marks set t gs) ∙ ap₂ (λ (xs ys : List Body). xs ++ ys) (bodies-map out_of_place bs) (groups-marked t gs)
  groups-marked t (run bs ∷ gs) =
      bodies-append (group_marks set t (run bs)) (groups_marks set t gs)
      ∙ ap₂ (λ (xs ys : List Body). xs ++ ys)
      (bodies-map (cond (sound_alone set 10 t.header) (run_fate (is_kept set t) (run_fault set t.header bs)) out_of_place) bs) (groups-marked t gs)

  abbrev control_bodies : Option Body → List Body
  control_bodies none = []
  control_bodies (some b) = b ∷ []

  control-marked : (k : Bool) (c : Option Body) → bodies_in (control_marks k c) ≡ control_bodies c
  control-marked k none = refl
  control-marked k (some b) = refl

  letter-marked : (t : Torn) (ms : List Marked) → bodies_in (section_marks set (letter t) ++ ms) ≡ t.header ∷ (group_bodies t.groups ++ (control_bodies t.control ++ bodies_in ms))
  letter-marked t ms =
      ap (λ (cs : List Body). t.header ∷ cs)
      (bodies-append (groups_marks set t t.groups ++ control_marks (is_kept set t) t.control) ms
      ∙ ap (λ (cs : List Body). cs ++ bodies_in ms) (bodies-append (groups_marks set t t.groups) (control_marks (is_kept set t) t.control))
      ∙ append_assoc (bodies_in (groups_marks set t t.groups)) (bodies_in (control_marks (is_kept set t) t.control)) (bodies_in ms)
      ∙ ap₂ (λ (xs ys : List Body). xs ++ (ys ++ bodies_in ms)) (groups-marked t t.groups) (control-marked (is_kept set t) t.control))

  sections-bodies : (n : ℕ) (bs : List Body) → length bs ≤ n → bodies_in (sections_marks set (sections_from set n bs)) ≡ bs
  unfolding sections_from groups_of
  sections-bodies zero [] h = refl
  sections-bodies zero (b ∷ bs) h = absurd (omega arith)
  sections-bodies (suc n) [] h = refl
  sections-bodies (suc n) (b ∷ bs) h = by (eqb (type_of set b) 10) (eqb (type_of set b) 99) (λ cs l. sections-bodies n cs (omega arith))
    where
      inside : group_bodies (groups_of set (leading (under set) bs)) ≡ leading (under set) bs
      inside = groups-bodies (length (leading (under set) bs)) (leading (under set) bs) (omega arith)

      closes : ((cs : List Body) → length cs ≤ length bs → bodies_in (sections_marks set (sections_from set n cs)) ≡ cs) → (c : Body) (cs : List Body)
          → length (c ∷ cs) ≤ length bs → (d : Bool)
          → bodies_in (sections_marks set (cond d (letter (record { header = b; groups = groups_of set (leading (under set) bs); control = some c }) ∷ sections_from set n cs)
          (letter (record { header = b; groups = groups_of set (leading (under set) bs); control = none }) ∷ sections_from set n (c ∷ cs))))
          ≡ b ∷ (leading (under set) bs ++ (c ∷ cs))
      closes others c cs l true =
          letter-marked (record { header = b; groups = groups_of set (leading (under set) bs); control = some c }) (sections_marks set (sections_from set n cs))
          ∙ ap₂ (λ (xs ys : List Body). b ∷ (xs ++ (c ∷ ys))) inside (others cs (omega arith))
      closes others c cs l false =
          letter-marked (record { header = b; groups = groups_of set (leading (under set) bs); control = none }) (sections_marks set (sections_from set n (c ∷ cs)))
          ∙ ap₂ (λ (xs ys : List Body). b ∷ (xs ++ ys)) inside (others (c ∷ cs) l)

      torn : ((cs : List Body) → length cs ≤ length bs → bodies_in (sections_marks set (sections_from set n cs)) ≡ cs) → (rest : List Body)
          → length rest ≤ length bs
          → bodies_in (sections_marks set (letter_then set b (groups_of set (leading (under set) bs)) rest (sections_from set n))) ≡ b ∷ (leading (under set) bs ++ rest)
      torn others [] l =
          letter-marked (record { header = b; groups = groups_of set (leading (under set) bs); control = none }) []
          ∙ ap (λ (xs : List Body). b ∷ (xs ++ [])) inside
      torn others (c ∷ cs) l = closes others c cs l (eqb (type_of set c) 90)

      by : (c d : Bool) → ((cs : List Body) → length cs ≤ length bs → bodies_in (sections_marks set (sections_from set n cs)) ≡ cs)
          → bodies_in (sections_marks set (cond c (letter_then set b (groups_of set (leading (under set) bs)) (following (under set) bs) (sections_from set n))
          (cond d (ending b ∷ sections_from set n bs) (stray b ∷ sections_from set n bs))))
          ≡ b ∷ bs
      by true d others = torn others (following (under set) bs) (short (under set) bs) ∙ ap (λ (cs : List Body). b ∷ cs) (parted (under set) bs)
      by false true others = ap (λ (cs : List Body). b ∷ cs) (others bs (omega arith))
      by false false others = ap (λ (cs : List Body). b ∷ cs) (others bs (omega arith))

  sections-once : (bs : List Body) → bodies_in (sections_marks set (sections_of set bs)) ≡ bs
  unfolding sections_of
  sections-once bs = sections-bodies (length bs) bs (omega arith)

  pub each-once : (bs : List Body) → bodies_in (marks_of set bs) ≡ bs
  unfolding marks_of
  each-once [] = refl
  each-once (b ∷ bs) = ap (λ (cs : List Body). b ∷ cs) (sections-once bs)
