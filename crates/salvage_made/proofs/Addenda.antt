-- Behind each record that is kept, as many of its addenda stand in the file as are made out. Assumes nothing.
use Prim.Native.Nat.{ℕ, zero, suc, ◌+◌}
use native.Mathlib.Omega.{arith}
use mathlib.Core.Bool.{Bool, true, false, ◌&&◌, ◌||◌, not, cond}
use mathlib.Core.List.{List, [], ◌∷◌, ◌++◌, map, append_assoc}
use mathlib.Core.Option.{Option, none, some}
use mathlib.Core.Path.{◌≡◌, refl, sym, ap, ◌∙◌, subst}
use lib.Dec.{eqb}
use lib.ListN.{length}
use borrow.Author.Tests.{eqb-true}
use Rattle.text.specs.Ranges.{within}
use Rattle.text.specs.declared.character_set.CharacterSet.{CharacterSet}
use Rattle.judge.specs.Alone.{type_of}
use Rattle.order.specs.MayFollow.{is_one_of, is_check_or_return}
use Rattle.file_as_records.specs.Framed.{Body}
use Rattle.draft.specs.Values.{Values, values_at, values_of_body}
use Rattle.draft.specs.Completed.{is_own_addendum, addenda_behind}
use Rattle.salvage_model.specs.Runs.{leading, following, of, not_of, Group, run, loose, stretch_then, groups_from, groups_of, sound_alone, run_fault}
use Rattle.salvage_model.specs.Kept.{Torn, Section, letter, ending, stray, letter_then, sections_from, sections_of, is_kept, Fate, kept, renewed, Marked, marked, out_of_place, run_fate, groups_marks, control_marks, sections_marks, kept_bodies}
use Rattle.salvage_made.specs.ByMarks.{by_marks, bodies_in, addenda_among, CountedAlike, OnlyLast}
use Rattle.salvage_made.proofs.Sections.{Every, EveryGroup, under, Well, well}
use Rattle.salvage_made.proofs.Theorem.{in_map, past-runs}

-- only checks and returns have addenda
no-addenda : (item t : ℕ) → is_check_or_return item ≡ false → is_own_addendum item t ≡ false
no-addenda item t = by (eqb item 25) (eqb item 31)
  where
    by : (c d : Bool) → c || d ≡ false → cond c (within 26 28 t) (d && within 32 35 t) ≡ false
    by true d e = cc
    by false true e = cc
    by false false e = refl

pub behind-none : (item : ℕ) → is_check_or_return item ≡ false → (vs : List Values) → addenda_behind item vs ≡ 0
unfolding addenda_behind
behind-none item e [] = refl
behind-none item e (v ∷ vs) = rw (no-addenda item v.type e)

among_none : (set : CharacterSet) (item : ℕ) → is_check_or_return item ≡ false → (bs : List Body) → addenda_among set item bs ≡ 0
among_none set item e [] = refl
among_none set item e (b ∷ bs) = rw (no-addenda item (type_of set b) e)

-- and a 70 is none
control-none : (item : ℕ) → is_own_addendum item 70 ≡ false
control-none item = by (eqb item 25) (eqb item 31)
  where
    by : (c d : Bool) → cond c (within 26 28 70) (d && within 32 35 70) ≡ false
    by true d = refl
    by false true = refl
    by false false = refl

module _ (set : CharacterSet) where
  -- counted up to a 70
  counts : (item : ℕ) (ys : List Body) (c : Body) → type_of set c ≡ 70 → (vs : List Values) (ws : List Body)
      → addenda_behind item (map (values_of_body set) (ys ++ (c ∷ [])) ++ vs) ≡ addenda_among set item ((ys ++ (c ∷ [])) ++ ws)
  unfolding addenda_behind values_of_body values_at
  counts item [] c e vs ws = rw (e, control-none item)
  counts item (y ∷ ys) c e vs ws =
      ap (λ (n : ℕ). cond (is_own_addendum item (type_of set y)) (1 + n) 0) (counts item ys c e vs ws)

  bodies-append : (f : Fate) (bs : List Body) (ms : List Marked) → bodies_in (map (marked f) bs ++ ms) ≡ bs ++ bodies_in ms
  bodies-append f [] ms = refl
  bodies-append f (b ∷ bs) ms = ap (λ (cs : List Body). b ∷ cs) (bodies-append f bs ms)

  kept-all : (bs : List Body) → kept_bodies (map (marked kept) bs) ≡ bs
  kept-all [] = refl
  kept-all (b ∷ bs) = ap (λ (cs : List Body). b ∷ cs) (kept-all bs)

  kept-never : kept ≡ renewed → ⊥
  kept-never e = let z : ◌≡◌ {A = ℕ} 0 1 = cc in omega arith

  -- a run from a 20 to its 70
  bundle-counts : (item : ℕ) (ys : List Body) (c : Body) → type_of set c ≡ 70 → Every set (under set) (ys ++ (c ∷ [])) → (f : Fate) → f ≡ kept
      → (ms : List Marked) (is_open : Bool)
      → addenda_behind item (by_marks set is_open (map (marked f) (ys ++ (c ∷ [])) ++ ms)) ≡ addenda_among set item (bodies_in (map (marked f) (ys ++ (c ∷ [])) ++ ms))
  bundle-counts item ys c t h f e ms is_open =
      let bs : List Body = ys ++ (c ∷ []) in
      ap (λ (g : Fate). addenda_behind item (by_marks set is_open (map (marked g) bs ++ ms))) e
      ∙ ap (addenda_behind item) (past-runs set is_open (map (marked kept) bs) ms (in_map set kept kept-never bs h))
      ∙ ap (λ (cs : List Body). addenda_behind item (map (values_of_body set) cs ++ by_marks set is_open ms)) (kept-all bs)
      ∙ counts item ys c t (by_marks set is_open ms) (bodies_in ms)
      ∙ ap (addenda_among set item) (sym (bodies-append f bs ms))

  bundle-alike : (ys : List Body) (c : Body) → type_of set c ≡ 70 → Every set (under set) (ys ++ (c ∷ [])) → (f : Fate) (ms : List Marked) → CountedAlike set ms
      → CountedAlike set (map (marked f) (ys ++ (c ∷ [])) ++ ms)
  bundle-alike [] c t h f ms a = (
    (λ e is_open. rw t (behind-none 70 refl (by_marks set is_open ms) ∙ sym (among_none set 70 refl (bodies_in ms)))),
    a,
  )
  bundle-alike (y ∷ ys) c t h f ms a = (
    (λ e is_open. bundle-counts (type_of set y) ys c t h.1 f e ms is_open),
    bundle-alike ys c t h.1 f ms a,
  )

  -- records that are no items
  abbrev pub no_item : Body → Bool
  no_item b = not (is_check_or_return (type_of set b))

  not-held : (b : Bool) → not b ≡ true → b ≡ false
  not-held true e = sym e
  not-held false e = refl

  others-alike : (bs : List Body) → Every set no_item bs → (f : Fate) (ms : List Marked) → CountedAlike set ms → CountedAlike set (map (marked f) bs ++ ms)
  others-alike [] h f ms a = a
  others-alike (b ∷ bs) h f ms a = (
    (λ e is_open.
        let no = not-held (is_check_or_return (type_of set b)) h.0 in
        behind-none (type_of set b) no (by_marks set is_open (map (marked f) bs ++ ms)) ∙ sym (among_none set (type_of set b) no (bodies_in (map (marked f) bs ++ ms)))),
    others-alike bs h.1 f ms a,
  )

  -- dropped records do not count
  dropped-alike : (bs : List Body) (f : Fate) → (f ≡ kept → ⊥) → (ms : List Marked) → CountedAlike set ms → CountedAlike set (map (marked f) bs ++ ms)
  dropped-alike [] f n ms a = a
  dropped-alike (b ∷ bs) f n ms a = ((λ e. absurd (n e)), dropped-alike bs f n ms a)

  place-never : out_of_place ≡ kept → ⊥
  place-never e = let z : ◌≡◌ {A = ℕ} 0 1 = cc in omega arith

  renewed-never : renewed ≡ kept → ⊥
  renewed-never e = let z : ◌≡◌ {A = ℕ} 0 1 = cc in omega arith

  -- what a run is
  data Shape (bs : List Body) : Type 0 where
    bundle : (ys : List Body) (c : Body) → bs ≡ ys ++ (c ∷ []) → type_of set c ≡ 70 → Shape bs
    credit : Every set no_item bs → Shape bs

  abbrev Shapes : List Group → Type 0
  Shapes [] = Unit {0}
  Shapes (run bs ∷ gs) = Shape bs × Shapes gs
  Shapes (loose bs ∷ gs) = Shapes gs

  view-no-item : (t : ℕ) → is_one_of t (50 ∷ 52 ∷ 54 ∷ []) ≡ true → is_check_or_return t ≡ false
  view-no-item t = by (eqb t 50) refl (eqb t 52) refl
    where
      by : (c : Bool) → eqb t 50 ≡ c → (d : Bool) → eqb t 52 ≡ d → c || (d || (eqb t 54 || false)) ≡ true → is_check_or_return t ≡ false
      by true p d q e = rw (eqb-true t 50 p)
      by false p true q e = rw (eqb-true t 52 q)
      by false p false q e = last (eqb t 54) refl e
        where
          last : (f : Bool) → eqb t 54 ≡ f → f || false ≡ true → is_check_or_return t ≡ false
          last true r z = rw (eqb-true t 54 r)
          last false r z = cc

  views : (bs : List Body) → Every set no_item (leading (of set (50 ∷ 52 ∷ 54 ∷ [])) bs)
  views [] = tt
  views (b ∷ bs) = by (of set (50 ∷ 52 ∷ 54 ∷ []) b) refl (views bs)
    where
      by : (c : Bool) → of set (50 ∷ 52 ∷ 54 ∷ []) b ≡ c → Every set no_item (leading (of set (50 ∷ 52 ∷ 54 ∷ [])) bs)
          → Every set no_item (cond c (b ∷ leading (of set (50 ∷ 52 ∷ 54 ∷ [])) bs) [])
      by true e later = (ap not (view-no-item (type_of set b) e), later)
      by false e later = tt

  shapes : (n : ℕ) (bs : List Body) → Shapes (groups_from set n bs)
  unfolding groups_from
  shapes zero bs = tt
  shapes (suc n) [] = tt
  shapes (suc n) (b ∷ bs) = by (eqb (type_of set b) 20) (eqb (type_of set b) 61) refl (λ cs. shapes n cs)
    where
      closes : ((cs : List Body) → Shapes (groups_from set n cs)) → (inside : List Body) (c : Body) (cs : List Body) (d : Bool) → eqb (type_of set c) 70 ≡ d
          → Shapes (cond d (run (inside ++ (c ∷ [])) ∷ groups_from set n cs) (loose inside ∷ groups_from set n (c ∷ cs)))
      closes others inside c cs true e = (bundle inside c refl (eqb-true (type_of set c) 70 e), others cs)
      closes others inside c cs false e = others (c ∷ cs)

      stretch : ((cs : List Body) → Shapes (groups_from set n cs)) → (inside rest : List Body) → Shapes (stretch_then set inside rest (groups_from set n))
      stretch others inside [] = tt
      stretch others inside (c ∷ cs) = closes others inside c cs (eqb (type_of set c) 70) refl

      by : (c d : Bool) → eqb (type_of set b) 61 ≡ d → ((cs : List Body) → Shapes (groups_from set n cs))
          → Shapes
          (cond c
          (stretch_then set (b ∷ leading (not_of set (20 ∷ 70 ∷ [])) bs) (following (not_of set (20 ∷ 70 ∷ [])) bs) (groups_from set n))
          (cond d
          (run (b ∷ leading (of set (50 ∷ 52 ∷ 54 ∷ [])) bs) ∷ groups_from set n (following (of set (50 ∷ 52 ∷ 54 ∷ [])) bs))
          (loose (b ∷ []) ∷ groups_from set n bs)))
      by true d e others = stretch others (b ∷ leading (not_of set (20 ∷ 70 ∷ [])) bs) (following (not_of set (20 ∷ 70 ∷ [])) bs)
      by false true e others = (credit (rw (eqb-true (type_of set b) 61 e) refl, views bs), others (following (of set (50 ∷ 52 ∷ 54 ∷ [])) bs))
      by false false e others = others bs

  run-alike : (bs : List Body) → Shape bs → Every set (under set) bs → (f : Fate) (ms : List Marked) → CountedAlike set ms → CountedAlike set (map (marked f) bs ++ ms)
  run-alike bs (bundle ys c e t) h f ms a =
      subst (λ (cs : List Body). CountedAlike set (map (marked f) cs ++ ms)) (sym e) (bundle-alike ys c t (subst (Every set (under set)) e h) f ms a)
  run-alike bs (credit h) u f ms a = others-alike bs h f ms a

  groups-alike : (t : Torn) (gs : List Group) → Shapes gs → EveryGroup set (under set) gs → (ms : List Marked) → CountedAlike set ms
      → CountedAlike set (groups_marks set t gs ++ ms)
  groups-alike t [] s h ms a = a
  groups-alike t (loose bs ∷ gs) s h ms a =
      subst (CountedAlike set) (sym (append_assoc (map (marked out_of_place) bs) (groups_marks set t gs) ms))
      (dropped-alike bs out_of_place place-never (groups_marks set t gs ++ ms) (groups-alike t gs s h.1 ms a))
  groups-alike t (run bs ∷ gs) s h ms a =
      let f : Fate = cond (sound_alone set 10 t.header) (run_fate (is_kept set t) (run_fault set t.header bs)) out_of_place in
      subst (CountedAlike set) (sym (append_assoc (map (marked f) bs) (groups_marks set t gs) ms))
      (run-alike bs s.0 h.0 f (groups_marks set t gs ++ ms) (groups-alike t gs s.1 h.1 ms a))

  -- all sections
  abbrev ShapedAll : List Section → Type 0
  ShapedAll [] = Unit {0}
  ShapedAll (letter t ∷ ss) = Shapes t.groups × ShapedAll ss
  ShapedAll (ending b ∷ ss) = ShapedAll ss
  ShapedAll (stray b ∷ ss) = ShapedAll ss

  shaped_from : (n : ℕ) (bs : List Body) → ShapedAll (sections_from set n bs)
  unfolding sections_from groups_of
  shaped_from zero bs = tt
  shaped_from (suc n) [] = tt
  shaped_from (suc n) (b ∷ bs) = by (eqb (type_of set b) 10) (eqb (type_of set b) 99) (λ cs. shaped_from n cs)
    where
      inside : Shapes (groups_of set (leading (under set) bs))
      inside = shapes (length (leading (under set) bs)) (leading (under set) bs)

      closes : ((cs : List Body) → ShapedAll (sections_from set n cs)) → (c : Body) (cs : List Body) (d : Bool)
          → ShapedAll (cond d (letter (record { header = b; groups = groups_of set (leading (under set) bs); control = some c }) ∷ sections_from set n cs)
          (letter (record { header = b; groups = groups_of set (leading (under set) bs); control = none }) ∷ sections_from set n (c ∷ cs)))
      closes others c cs true = (inside, others cs)
      closes others c cs false = (inside, others (c ∷ cs))

      torn : ((cs : List Body) → ShapedAll (sections_from set n cs)) → (rest : List Body)
          → ShapedAll (letter_then set b (groups_of set (leading (under set) bs)) rest (sections_from set n))
      torn others [] = (inside, tt)
      torn others (c ∷ cs) = closes others c cs (eqb (type_of set c) 90)

      by : (c d : Bool) → ((cs : List Body) → ShapedAll (sections_from set n cs))
          → ShapedAll (cond c (letter_then set b (groups_of set (leading (under set) bs)) (following (under set) bs) (sections_from set n))
          (cond d (ending b ∷ sections_from set n bs) (stray b ∷ sections_from set n bs)))
      by true d others = torn others (following (under set) bs)
      by false true others = others bs
      by false false others = others bs

  control-alike : (k : Bool) (c : Option Body) (ms : List Marked) → CountedAlike set ms → CountedAlike set (control_marks k c ++ ms)
  control-alike k none ms a = a
  control-alike true (some b) ms a = ((λ e. absurd (renewed-never e)), a)
  control-alike false (some b) ms a = ((λ e. absurd (place-never e)), a)

  sections-alike : (ss : List Section) → Well set ss → ShapedAll ss → CountedAlike set (sections_marks set ss)
  sections-alike [] h s = tt
  sections-alike (letter t ∷ ss) h s = (
    (λ e is_open.
        let later = (groups_marks set t t.groups ++ control_marks (is_kept set t) t.control) ++ sections_marks set ss in
        rw h.0.header (behind-none 10 refl (by_marks set is_open later) ∙ sym (among_none set 10 refl (bodies_in later)))),
    subst (CountedAlike set) (sym (append_assoc (groups_marks set t t.groups) (control_marks (is_kept set t) t.control) (sections_marks set ss)))
        (groups-alike t t.groups s.0 h.0.groups (control_marks (is_kept set t) t.control ++ sections_marks set ss)
        (control-alike (is_kept set t) t.control (sections_marks set ss) (sections-alike ss h.1 s.1))),
  )
  sections-alike (ending b ∷ ss) h s = ((λ e. absurd (renewed-never e)), subst (λ (rs : List Section). CountedAlike set (sections_marks set rs)) (sym h.1) tt)
  sections-alike (stray b ∷ ss) h s = ((λ e. absurd (place-never e)), sections-alike ss h s)

  pub counted-alike : (bs : List Body) → OnlyLast set bs → CountedAlike set (sections_marks set (sections_of set bs))
  unfolding sections_of
  counted-alike bs h = sections-alike (sections_from set (length bs) bs) (well set bs h) (shaped_from (length bs) bs)
