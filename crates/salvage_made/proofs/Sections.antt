-- What the sections of the records walked are made of. Assumes nothing.
use Prim.Native.Nat.{ℕ, zero, suc, ◌+◌}
use native.Mathlib.Omega.{arith}
use mathlib.Core.Bool.{Bool, true, false, cond}
use mathlib.Core.List.{List, [], ◌∷◌, ◌++◌}
use mathlib.Core.Option.{Option, none, some}
use mathlib.Core.Path.{◌≡◌, refl, sym, ◌∙◌}
use lib.Dec.{leb, eqb}
use lib.ListN.{length}
use borrow.Author.Tests.{eqb-true, eq-eqb}
use Rattle.std.specs.Prelude.{Some}
use Rattle.text.specs.declared.character_set.CharacterSet.{CharacterSet}
use Rattle.frame.specs.Frames.{Frame}
use Rattle.frame.specs.Frames.{Cut, Whole}
use Rattle.frame.specs.Frames.{part, frame_at}
use Rattle.judge.specs.Alone.{type_of}
use Rattle.file_as_records.specs.Framed.{Body}
use Rattle.salvage_model.specs.Walked.{walked_on, walked_from}
use Rattle.salvage_model.specs.Runs.{leading, following, of, not_of, Group, run, loose, stretch_then, groups_from, groups_of}
use Rattle.salvage_model.specs.Kept.{Torn, Section, letter, ending, stray, letter_then, sections_from, sections_of}
use Rattle.salvage_made.specs.ByMarks.{OnlyLast}

-- nothing is walked behind a 99
pub walked-only-last : (set : CharacterSet) (n : ℕ) (file : List ℕ) (at : ℕ) → OnlyLast set (walked_from set n file at)
unfolding walked_from
walked-only-last set zero file at = tt
walked-only-last set (suc n) file at = by (frame_at file at) (λ next. walked-only-last set n file next)
  where
    one : ((next : ℕ) → OnlyLast set (walked_from set n file next)) → (start size : ℕ) (d : Bool) → eqb (type_of set (part start size file)) 99 ≡ d
        → OnlyLast set (part start size file ∷ cond d [] (walked_from set n file (start + size)))
    one others start size true e = ((λ _. refl), tt)
    one others start size false e = (
      (λ q. let z : true ≡ false = sym (eq-eqb (type_of set (part start size file)) 99 q) ∙ e in let y : ◌≡◌ {A = ℕ} 0 1 = cc in absurd (omega arith)),
      others (start + size),
    )

    long : ((next : ℕ) → OnlyLast set (walked_from set n file next)) → (start size : ℕ) (c : Bool)
        → OnlyLast set (cond c (part start size file ∷ cond (eqb (type_of set (part start size file)) 99) [] (walked_from set n file (start + size))) [])
    long others start size true = one others start size (eqb (type_of set (part start size file)) 99) refl
    long others start size false = tt

    by : (f : Frame) → ((next : ℕ) → OnlyLast set (walked_from set n file next)) → OnlyLast set (walked_on set file f (λ next. walked_from set n file next))
    by Cut others = tt
    by (Some x) others = long others x.start x.size (leb 2 x.size)

module _ (set : CharacterSet) where
  pub following-only-last : (test : Body → Bool) (bs : List Body) → OnlyLast set bs → OnlyLast set (following test bs)
  following-only-last test [] h = tt
  following-only-last test (b ∷ bs) h = by (test b) (following-only-last test bs h.1)
    where
      by : (c : Bool) → OnlyLast set (following test bs) → OnlyLast set (cond c (following test bs) (b ∷ bs))
      by true later = later
      by false later = h

  -- every record passes a test
  abbrev pub Every : (Body → Bool) → List Body → Type 0
  Every test [] = Unit {0}
  Every test (b ∷ bs) = (test b ≡ true) × Every test bs

  leading-every : (test : Body → Bool) (bs : List Body) → Every test (leading test bs)
  leading-every test [] = tt
  leading-every test (b ∷ bs) = by (test b) refl (leading-every test bs)
    where
      by : (c : Bool) → test b ≡ c → Every test (leading test bs) → Every test (cond c (b ∷ leading test bs) [])
      by true e later = (e, later)
      by false e later = tt

  every-leading : (test other : Body → Bool) (bs : List Body) → Every test bs → Every test (leading other bs)
  every-leading test other [] h = tt
  every-leading test other (b ∷ bs) h = by (other b) (every-leading test other bs h.1)
    where
      by : (c : Bool) → Every test (leading other bs) → Every test (cond c (b ∷ leading other bs) [])
      by true later = (h.0, later)
      by false later = tt

  every-following : (test other : Body → Bool) (bs : List Body) → Every test bs → Every test (following other bs)
  every-following test other [] h = tt
  every-following test other (b ∷ bs) h = by (other b) (every-following test other bs h.1)
    where
      by : (c : Bool) → Every test (following other bs) → Every test (cond c (following other bs) (b ∷ bs))
      by true later = later
      by false later = h

  every_append : (test : Body → Bool) (xs ys : List Body) → Every test xs → Every test ys → Every test (xs ++ ys)
  every_append test [] ys p q = q
  every_append test (x ∷ xs) ys p q = (p.0, every_append test xs ys p.1 q)

  abbrev pub EveryGroup : (Body → Bool) → List Group → Type 0
  EveryGroup test [] = Unit {0}
  EveryGroup test (run bs ∷ gs) = Every test bs × EveryGroup test gs
  EveryGroup test (loose bs ∷ gs) = Every test bs × EveryGroup test gs

  groups-every : (test : Body → Bool) (n : ℕ) (bs : List Body) → Every test bs → EveryGroup test (groups_from set n bs)
  unfolding groups_from
  groups-every test zero bs h = tt
  groups-every test (suc n) [] h = tt
  groups-every test (suc n) (b ∷ bs) h = by (eqb (type_of set b) 20) (eqb (type_of set b) 61) (λ cs. groups-every test n cs)
    where
      closes : ((cs : List Body) → Every test cs → EveryGroup test (groups_from set n cs)) → (inside : List Body) (c : Body) (cs : List Body)
          → Every test inside → Every test (c ∷ cs) → (d : Bool)
          → EveryGroup test (cond d (run (inside ++ (c ∷ [])) ∷ groups_from set n cs) (loose inside ∷ groups_from set n (c ∷ cs)))
      closes others inside c cs p q true = (every_append test inside (c ∷ []) p (q.0, tt), others cs q.1)
      closes others inside c cs p q false = (p, others (c ∷ cs) q)

      stretch : ((cs : List Body) → Every test cs → EveryGroup test (groups_from set n cs)) → (inside rest : List Body) → Every test inside → Every test rest
          → EveryGroup test (stretch_then set inside rest (groups_from set n))
      stretch others inside [] p q = (p, tt)
      stretch others inside (c ∷ cs) p q = closes others inside c cs p q (eqb (type_of set c) 70)

      by : (c d : Bool) → ((cs : List Body) → Every test cs → EveryGroup test (groups_from set n cs))
          → EveryGroup test
          (cond c
          (stretch_then set (b ∷ leading (not_of set (20 ∷ 70 ∷ [])) bs) (following (not_of set (20 ∷ 70 ∷ [])) bs) (groups_from set n))
          (cond d
          (run (b ∷ leading (of set (50 ∷ 52 ∷ 54 ∷ [])) bs) ∷ groups_from set n (following (of set (50 ∷ 52 ∷ 54 ∷ [])) bs))
          (loose (b ∷ []) ∷ groups_from set n bs)))
      by true d others =
          stretch others (b ∷ leading (not_of set (20 ∷ 70 ∷ [])) bs) (following (not_of set (20 ∷ 70 ∷ [])) bs)
          (h.0, every-leading test (not_of set (20 ∷ 70 ∷ [])) bs h.1) (every-following test (not_of set (20 ∷ 70 ∷ [])) bs h.1)
      by false true others = (
        (h.0, every-leading test (of set (50 ∷ 52 ∷ 54 ∷ [])) bs h.1),
        others (following (of set (50 ∷ 52 ∷ 54 ∷ [])) bs) (every-following test (of set (50 ∷ 52 ∷ 54 ∷ [])) bs h.1),
      )
      by false false others = ((h.0, tt), others bs h.1)

  abbrev pub under : Body → Bool
  under = not_of set (10 ∷ 90 ∷ 99 ∷ [])

  abbrev pub EndsWell : Option Body → Type 0
  EndsWell none = Unit {0}
  EndsWell (some b) = type_of set b ≡ 90

  pub record WellLetter (t : Torn) : Type 0 where
    pub header : type_of set t.header ≡ 10
    pub groups : EveryGroup under t.groups
    pub control : EndsWell t.control

  abbrev pub Well : List Section → Type 0
  Well [] = Unit {0}
  Well (letter t ∷ ss) = WellLetter t × Well ss
  Well (ending b ∷ ss) = (type_of set b ≡ 99) × (ss ≡ [])
  Well (stray b ∷ ss) = Well ss

  sections-nothing : (n : ℕ) (bs : List Body) → bs ≡ [] → sections_from set n bs ≡ []
  unfolding sections_from
  sections-nothing zero bs e = refl
  sections-nothing (suc n) bs e = rw e

  well-from : (n : ℕ) (bs : List Body) → OnlyLast set bs → Well (sections_from set n bs)
  unfolding sections_from groups_of
  well-from zero bs h = tt
  well-from (suc n) [] h = tt
  well-from (suc n) (b ∷ bs) h = by (eqb (type_of set b) 10) refl (eqb (type_of set b) 99) refl (λ cs q. well-from n cs q)
    where
      inside : EveryGroup under (groups_of set (leading under bs))
      inside = groups-every under (length (leading under bs)) (leading under bs) (leading-every under bs)

      closes : ((cs : List Body) → OnlyLast set cs → Well (sections_from set n cs)) → type_of set b ≡ 10 → (c : Body) (cs : List Body) → OnlyLast set (c ∷ cs)
          → (d : Bool) → eqb (type_of set c) 90 ≡ d
          → Well (cond d (letter (record { header = b; groups = groups_of set (leading under bs); control = some c }) ∷ sections_from set n cs)
          (letter (record { header = b; groups = groups_of set (leading under bs); control = none }) ∷ sections_from set n (c ∷ cs)))
      closes others e c cs q true f = (record { header = e; groups = inside; control = eqb-true (type_of set c) 90 f }, others cs q.1)
      closes others e c cs q false f = (record { header = e; groups = inside; control = tt }, others (c ∷ cs) q)

      torn : ((cs : List Body) → OnlyLast set cs → Well (sections_from set n cs)) → type_of set b ≡ 10 → (rest : List Body) → OnlyLast set rest
          → Well (letter_then set b (groups_of set (leading under bs)) rest (sections_from set n))
      torn others e [] q = (record { header = e; groups = inside; control = tt }, tt)
      torn others e (c ∷ cs) q = closes others e c cs q (eqb (type_of set c) 90) refl

      by : (c : Bool) → eqb (type_of set b) 10 ≡ c → (d : Bool) → eqb (type_of set b) 99 ≡ d
          → ((cs : List Body) → OnlyLast set cs → Well (sections_from set n cs))
          → Well (cond c (letter_then set b (groups_of set (leading under bs)) (following under bs) (sections_from set n))
          (cond d (ending b ∷ sections_from set n bs) (stray b ∷ sections_from set n bs)))
      by true e d f others = torn others (eqb-true (type_of set b) 10 e) (following under bs) (following-only-last under bs h.1)
      by false e true f others =
          let last = eqb-true (type_of set b) 99 f in
          (last, sections-nothing n bs (h.0 last))
      by false e false f others = others bs h.1

  pub well : (bs : List Body) → OnlyLast set bs → Well (sections_of set bs)
  unfolding sections_of
  well bs h = well-from (length bs) bs h
