-- Every group of what is walked that is called a run is one. Assumes nothing.
use Prim.Native.Nat.{ℕ, zero, suc}
use mathlib.Core.Bool.{Bool, true, false, not, cond}
use mathlib.Core.Option.{none, some}
use mathlib.Core.Path.{◌≡◌, refl}
use mathlib.Core.List.{List, [], ◌∷◌, ◌++◌}
use lib.Dec.{eqb}
use lib.ListN.{length}
use borrow.Author.Tests.{eqb-true}
use Rattle.text.specs.declared.character_set.CharacterSet.{CharacterSet}
use Rattle.judge.specs.Alone.{type_of}
use Rattle.order.specs.MayFollow.{is_one_of}
use Rattle.file_as_records.specs.Framed.{Body}
use Rattle.file_as_records.proofs.Tests.{untrue}
use Rattle.arrangement.specs.Sound.{All}
use Rattle.salvage_model.specs.Runs.{leading, following, of, not_of, Group, run, loose, stretch_then, groups_from, groups_of}
use Rattle.salvage_model.specs.Kept.{Section, letter, ending, stray, letter_then, sections_from, sections_of}
use Rattle.salvage_written.proofs.Carried.{either-false}
use Rattle.salvage_written.proofs.Run.{BundleRest, closes, goes, IsRun, bundle, credit}

leading-passes : (test : Body → Bool) (bs : List Body) → All (λ (b : Body). test b ≡ true) (leading test bs)
leading-passes test [] = tt
leading-passes test (b ∷ bs) = by (test b) refl (leading-passes test bs)
  where
    by : (c : Bool) → test b ≡ c → All (λ (b : Body). test b ≡ true) (leading test bs) → All (λ (b : Body). test b ≡ true) (cond c (b ∷ leading test bs) [])
    by true e later = (e, later)
    by false e later = tt

module _ (P : Body → Type 0) (test : Body → Bool) where
  leading-all : (bs : List Body) → All P bs → All P (leading test bs)
  leading-all [] a = tt
  leading-all (b ∷ bs) a = by (test b) (leading-all bs a.1)
    where
      by : (c : Bool) → All P (leading test bs) → All P (cond c (b ∷ leading test bs) [])
      by true later = (a.0, later)
      by false later = tt

  following-all : (bs : List Body) → All P bs → All P (following test bs)
  following-all [] a = tt
  following-all (b ∷ bs) a = by (test b) (following-all bs a.1)
    where
      by : (c : Bool) → All P (following test bs) → All P (cond c (following test bs) (b ∷ bs))
      by true later = later
      by false later = a

module _ (set : CharacterSet) where
  abbrev pub GroupOk : Group → Type 0
  GroupOk (run bs) = IsRun set bs
  GroupOk (loose bs) = Unit {0}

  abbrev pub SectionOk : Section → Type 0
  SectionOk (letter t) = All GroupOk t.groups
  SectionOk (ending b) = Unit {0}
  SectionOk (stray b) = Unit {0}

  abbrev Under : Body → Type 0
  Under b = not_of set (10 ∷ 90 ∷ 99 ∷ []) b ≡ true

  inner_type : (t : ℕ) → not (is_one_of t (20 ∷ 70 ∷ [])) ≡ true → not (is_one_of t (10 ∷ 90 ∷ 99 ∷ [])) ≡ true
      → is_one_of t (10 ∷ 20 ∷ 70 ∷ 90 ∷ 99 ∷ []) ≡ false
  inner_type t e f =
      let a = either-false (eqb t 20) _ (untrue (is_one_of t (20 ∷ 70 ∷ [])) e) in
      let b = either-false (eqb t 70) false a.1 in
      let c = either-false (eqb t 10) _ (untrue (is_one_of t (10 ∷ 90 ∷ 99 ∷ [])) f) in
      let d = either-false (eqb t 90) _ c.1 in
      let g = either-false (eqb t 99) false d.1 in
      rw (c.0, a.0, b.0, d.0, g.0)

  closed : (bs : List Body) → All (λ (b : Body). not_of set (20 ∷ 70 ∷ []) b ≡ true) bs → All Under bs → (c : Body) → type_of set c ≡ 70
      → BundleRest set (bs ++ (c ∷ []))
  closed [] a u c e = closes e
  closed (b ∷ bs) a u c e = goes (inner_type (type_of set b) a.0 u.0) (closed bs a.1 u.1 c e)

  module _ (others : List Body → List Group) (ok : (bs : List Body) → All Under bs → All GroupOk (others bs)) where
    stretch-ok : (b : Body) → type_of set b ≡ 20 → (inside : List Body) → All (λ (b : Body). not_of set (20 ∷ 70 ∷ []) b ≡ true) inside → All Under inside
        → (bs : List Body) → All Under bs → All GroupOk (stretch_then set (b ∷ inside) bs others)
    stretch-ok b e inside a u [] w = (tt, tt)
    stretch-ok b e inside a u (c ∷ cs) w = by (eqb (type_of set c) 70) refl
      where
        by : (d : Bool) → eqb (type_of set c) 70 ≡ d
            → All GroupOk (cond d (run ((b ∷ inside) ++ (c ∷ [])) ∷ others cs) (loose (b ∷ inside) ∷ others (c ∷ cs)))
        by true q = (bundle e (closed inside a u c (eqb-true (type_of set c) 70 q)), ok cs w.1)
        by false q = (tt, ok (c ∷ cs) w)

  groups-ok : (n : ℕ) (bs : List Body) → All Under bs → All GroupOk (groups_from set n bs)
  unfolding groups_from
  groups-ok zero bs u = tt
  groups-ok (suc n) [] u = tt
  groups-ok (suc n) (b ∷ bs) u = by (eqb (type_of set b) 20) refl (eqb (type_of set b) 61) refl (λ cs w. groups-ok n cs w)
    where
      stretch : Body → Bool
      stretch = not_of set (20 ∷ 70 ∷ [])

      view : Body → Bool
      view = of set (50 ∷ 52 ∷ 54 ∷ [])

      by : (c : Bool) → eqb (type_of set b) 20 ≡ c → (d : Bool) → eqb (type_of set b) 61 ≡ d
          → ((cs : List Body) → All Under cs → All GroupOk (groups_from set n cs))
          → All GroupOk
          (cond c (stretch_then set (b ∷ leading stretch bs) (following stretch bs) (groups_from set n))
          (cond d (run (b ∷ leading view bs) ∷ groups_from set n (following view bs)) (loose (b ∷ []) ∷ groups_from set n bs)))
      by true q d r later =
          stretch-ok (groups_from set n) later b (eqb-true (type_of set b) 20 q) (leading stretch bs) (leading-passes stretch bs)
          (leading-all Under stretch bs u.1) (following stretch bs) (following-all Under stretch bs u.1)
      by false q true r later =
          (credit (eqb-true (type_of set b) 61 r) (leading-passes view bs), later (following view bs) (following-all Under view bs u.1))
      by false q false r later = (tt, later bs u.1)

  module _ (others : List Body → List Section) (ok : (bs : List Body) → All SectionOk (others bs)) where
    letter-ok : (header : Body) (groups : List Group) → All GroupOk groups → (bs : List Body) → All SectionOk (letter_then set header groups bs others)
    letter-ok header groups g [] = (g, tt)
    letter-ok header groups g (b ∷ bs) = by (eqb (type_of set b) 90)
      where
        by : (c : Bool)
            → All SectionOk
            (cond c (letter (record { header = header; groups = groups; control = some b }) ∷ others bs)
            (letter (record { header = header; groups = groups; control = none }) ∷ others (b ∷ bs)))
        by true = (g, ok bs)
        by false = (g, ok (b ∷ bs))

  sections-ok : (n : ℕ) (bs : List Body) → All SectionOk (sections_from set n bs)
  unfolding sections_from groups_of
  sections-ok zero bs = tt
  sections-ok (suc n) [] = tt
  sections-ok (suc n) (b ∷ bs) = by (eqb (type_of set b) 10) (eqb (type_of set b) 99) (λ cs. sections-ok n cs)
    where
      under : Body → Bool
      under = not_of set (10 ∷ 90 ∷ 99 ∷ [])

      by : (c d : Bool) → ((cs : List Body) → All SectionOk (sections_from set n cs))
          → All SectionOk
          (cond c (letter_then set b (groups_of set (leading under bs)) (following under bs) (sections_from set n))
          (cond d (ending b ∷ sections_from set n bs) (stray b ∷ sections_from set n bs)))
      by true d later =
          letter-ok (sections_from set n) later b (groups_of set (leading under bs))
          (groups-ok (length (leading under bs)) (leading under bs) (leading-passes under bs)) (following under bs)
      by false true later = (tt, later bs)
      by false false later = (tt, later bs)

  pub all-sections-ok : (bs : List Body) → All SectionOk (sections_of set bs)
  unfolding sections_of
  all-sections-ok bs = sections-ok (length bs) bs
