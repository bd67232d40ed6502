-- What the records walked are gathered in, copied: by the types of the records, which their copies have too. Assumes nothing.
use Prim.Native.Nat.{ℕ, zero, suc}
use mathlib.Core.Bool.{Bool, true, false, not, cond}
use mathlib.Core.List.{List, [], ◌∷◌, ◌++◌, map}
use mathlib.Core.Option.{Option, none, some}
use mathlib.Core.Path.{◌≡◌, refl, ap, ap₂, ◌∙◌}
use lib.Dec.{eqb}
use lib.ListN.{length}
use Rattle.text.specs.declared.character_set.CharacterSet.TheVariants.{Ascii, Ebcdic}
use Rattle.judge.specs.Alone.{type_of}
use Rattle.order.specs.MayFollow.{is_one_of}
use Rattle.ascii_copy.specs.AsciiCopy.{copied_body}
use Rattle.ascii_copy.proofs.Records.{type-copied}
use Rattle.file_as_records.specs.Framed.{Body}
use Rattle.salvage_model.specs.Runs.{leading, following, of, not_of, Group, run, loose, stretch_then, groups_from, groups_of}
use Rattle.salvage_model.specs.Kept.{Torn, Section, letter, ending, stray, letter_then, sections_from, sections_of}
use Rattle.salvage_copy.proofs.WalkedCopy.{copies}

pub copies-long : (bs : List Body) → length (copies bs) ≡ length bs
copies-long [] = refl
copies-long (b ∷ bs) = ap suc (copies-long bs)

of-copied : (types : List ℕ) (b : Body) → of Ascii types (copied_body b) ≡ of Ebcdic types b
of-copied types b = ap (λ (t : ℕ). is_one_of t types) (type-copied b)

not-of-copied : (types : List ℕ) (b : Body) → not_of Ascii types (copied_body b) ≡ not_of Ebcdic types b
not-of-copied types b = ap not (of-copied types b)

-- the beginning that passes a test, and the rest
module _ (test other : Body → Bool) (same : (b : Body) → other (copied_body b) ≡ test b) where
  leading-copied : (bs : List Body) → leading other (copies bs) ≡ copies (leading test bs)
  leading-copied [] = refl
  leading-copied (b ∷ bs) = rw (same b) (by (test b) (leading-copied bs))
    where
      by : (c : Bool) → leading other (copies bs) ≡ copies (leading test bs)
          → cond c (copied_body b ∷ leading other (copies bs)) [] ≡ copies (cond c (b ∷ leading test bs) [])
      by true e = ap (λ (l : List Body). copied_body b ∷ l) e
      by false e = refl

  following-copied : (bs : List Body) → following other (copies bs) ≡ copies (following test bs)
  following-copied [] = refl
  following-copied (b ∷ bs) = rw (same b) (by (test b) (following-copied bs))
    where
      by : (c : Bool) → following other (copies bs) ≡ copies (following test bs)
          → cond c (following other (copies bs)) (copies (b ∷ bs)) ≡ copies (cond c (following test bs) (b ∷ bs))
      by true e = e
      by false e = refl

-- groups
abbrev pub copied_group : Group → Group
copied_group (run bs) = run (copies bs)
copied_group (loose bs) = loose (copies bs)

abbrev pub copied_groups : List Group → List Group
copied_groups gs = map copied_group gs

-- one of two, and one of three
either : {A : Type 0} (f : List A → List A) (c : Bool) {x y x' y' : List A} → x' ≡ f x → y' ≡ f y → cond c x' y' ≡ f (cond c x y)
either f true p q = p
either f false p q = q

stretch-copied : (inside rest : List Body) (others others' : List Body → List Group) → ((bs : List Body) → others' (copies bs) ≡ copied_groups (others bs))
    → stretch_then Ascii (copies inside) (copies rest) others' ≡ copied_groups (stretch_then Ebcdic inside rest others)
stretch-copied inside [] others others' h = refl
stretch-copied inside (b ∷ bs) others others' h =
    rw (type-copied b)
    (either copied_groups (eqb (type_of Ebcdic b) 70)
    {x = run (inside ++ (b ∷ [])) ∷ others bs} {y = loose inside ∷ others (b ∷ bs)}
    (ap₂ (λ (l : List Body) (gs : List Group). run l ∷ gs) (closed inside) (h bs))
    (ap (λ (gs : List Group). loose (copies inside) ∷ gs) (h (b ∷ bs))))
  where
    closed : (l : List Body) → copies l ++ (copied_body b ∷ []) ≡ copies (l ++ (b ∷ []))
    closed [] = refl
    closed (c ∷ cs) = ap (λ (l : List Body). copied_body c ∷ l) (closed cs)

groups-from : (n : ℕ) (bs : List Body) → groups_from Ascii n (copies bs) ≡ copied_groups (groups_from Ebcdic n bs)
unfolding groups_from
groups-from zero bs = refl
groups-from (suc n) [] = refl
groups-from (suc n) (b ∷ bs) =
    rw (type-copied b)
    (either copied_groups (eqb (type_of Ebcdic b) 20)
    {x = stretch_then Ebcdic (b ∷ leading (not_of Ebcdic ends) bs) (following (not_of Ebcdic ends) bs) (groups_from Ebcdic n)}
    (ap₂ (λ (l r : List Body). stretch_then Ascii (copied_body b ∷ l) r (groups_from Ascii n))
    (leading-copied (not_of Ebcdic ends) (not_of Ascii ends) (not-of-copied ends) bs)
    (following-copied (not_of Ebcdic ends) (not_of Ascii ends) (not-of-copied ends) bs)
    ∙ stretch-copied (b ∷ leading (not_of Ebcdic ends) bs) (following (not_of Ebcdic ends) bs) (groups_from Ebcdic n) (groups_from Ascii n) (groups-from n))
    (either copied_groups (eqb (type_of Ebcdic b) 61)
    {x = run (b ∷ leading (of Ebcdic views) bs) ∷ groups_from Ebcdic n (following (of Ebcdic views) bs)} {y = loose (b ∷ []) ∷ groups_from Ebcdic n bs}
    (ap₂ (λ (l : List Body) (gs : List Group). run (copied_body b ∷ l) ∷ gs) (leading-copied (of Ebcdic views) (of Ascii views) (of-copied views) bs)
    (ap (groups_from Ascii n) (following-copied (of Ebcdic views) (of Ascii views) (of-copied views) bs) ∙ groups-from n (following (of Ebcdic views) bs)))
    (ap (λ (gs : List Group). loose (copied_body b ∷ []) ∷ gs) (groups-from n bs))))
  where
    ends : List ℕ
    ends = 20 ∷ 70 ∷ []

    views : List ℕ
    views = 50 ∷ 52 ∷ 54 ∷ []

pub groups-copied : (bs : List Body) → groups_of Ascii (copies bs) ≡ copied_groups (groups_of Ebcdic bs)
unfolding groups_of
groups-copied bs = rw (copies-long bs) (groups-from (length bs) bs)

-- sections
abbrev pub copied_control : Option Body → Option Body
copied_control none = none
copied_control (some b) = some (copied_body b)

abbrev pub copied_torn : Torn → Torn
copied_torn t = record { header = copied_body t.header; groups = copied_groups t.groups; control = copied_control t.control }

abbrev pub copied_section : Section → Section
copied_section (letter t) = letter (copied_torn t)
copied_section (ending b) = ending (copied_body b)
copied_section (stray b) = stray (copied_body b)

abbrev pub copied_sections : List Section → List Section
copied_sections ss = map copied_section ss

letter-copied : (header : Body) (groups : List Group) (rest : List Body) (others others' : List Body → List Section)
    → ((bs : List Body) → others' (copies bs) ≡ copied_sections (others bs))
    → letter_then Ascii (copied_body header) (copied_groups groups) (copies rest) others' ≡ copied_sections (letter_then Ebcdic header groups rest others)
letter-copied header groups [] others others' h = refl
letter-copied header groups (b ∷ bs) others others' h =
    rw (type-copied b)
    (either copied_sections (eqb (type_of Ebcdic b) 90)
    {x = letter (record { header = header; groups = groups; control = some b }) ∷ others bs}
    {y = letter (record { header = header; groups = groups; control = none }) ∷ others (b ∷ bs)}
    (ap (λ (ss : List Section). letter (copied_torn (record { header = header; groups = groups; control = some b })) ∷ ss) (h bs))
    (ap (λ (ss : List Section). letter (copied_torn (record { header = header; groups = groups; control = none })) ∷ ss) (h (b ∷ bs))))

sections-from : (n : ℕ) (bs : List Body) → sections_from Ascii n (copies bs) ≡ copied_sections (sections_from Ebcdic n bs)
unfolding sections_from
sections-from zero bs = refl
sections-from (suc n) [] = refl
sections-from (suc n) (b ∷ bs) =
    rw (type-copied b)
    (either copied_sections (eqb (type_of Ebcdic b) 10)
    {x = letter_then Ebcdic b (groups_of Ebcdic (leading (not_of Ebcdic ends) bs)) (following (not_of Ebcdic ends) bs) (sections_from Ebcdic n)}
    (ap₂ (λ (gs : List Group) (r : List Body). letter_then Ascii (copied_body b) gs r (sections_from Ascii n))
    (ap (groups_of Ascii) (leading-copied (not_of Ebcdic ends) (not_of Ascii ends) (not-of-copied ends) bs)
    ∙ groups-copied (leading (not_of Ebcdic ends) bs))
    (following-copied (not_of Ebcdic ends) (not_of Ascii ends) (not-of-copied ends) bs)
    ∙ letter-copied b (groups_of Ebcdic (leading (not_of Ebcdic ends) bs)) (following (not_of Ebcdic ends) bs) (sections_from Ebcdic n) (sections_from Ascii n)
    (sections-from n))
    (either copied_sections (eqb (type_of Ebcdic b) 99) {x = ending b ∷ sections_from Ebcdic n bs} {y = stray b ∷ sections_from Ebcdic n bs}
    (ap (λ (ss : List Section). ending (copied_body b) ∷ ss) (sections-from n bs))
    (ap (λ (ss : List Section). stray (copied_body b) ∷ ss) (sections-from n bs))))
  where
    ends : List ℕ
    ends = 10 ∷ 90 ∷ 99 ∷ []

pub sections-copied : (bs : List Body) → sections_of Ascii (copies bs) ≡ copied_sections (sections_of Ebcdic bs)
unfolding sections_of
sections-copied bs = rw (copies-long bs) (sections-from (length bs) bs)
