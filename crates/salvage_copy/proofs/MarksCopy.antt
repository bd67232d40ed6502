-- What is kept, made new and dropped, and with which number, is the same of the records and of their copies. Assumes nothing.
use Prim.Native.Nat.{ℕ, ◌+◌}
use native.Mathlib.Omega.{arith}
use mathlib.Core.Bool.{Bool, true, false, ◌&&◌, ◌||◌, cond}
use mathlib.Core.List.{List, [], ◌∷◌, ◌++◌, map}
use mathlib.Core.Option.{Option, none, some}
use mathlib.Core.Path.{◌≡◌, refl, ap, ap₂, ◌∙◌}
use lib.Dec.{eqb}
use lib.ListN.{length, get_or}
use Rattle.text.specs.Capitals.{capital}
use Rattle.text.specs.declared.character_set.CharacterSet.TheVariants.{Ascii, Ebcdic}
use Rattle.frame.specs.Frames.{part}
use Rattle.ascii_copy.specs.AsciiCopy.{copied_body}
use Rattle.ascii_copy.proofs.Fields.{get_d-alike}
use Rattle.ascii_copy.proofs.Records.{length-copied, type-copied, field-copied}
use Rattle.file_as_records.specs.Framed.{Body}
use Rattle.arrangement.specs.Sound.{indicator, N}
use Rattle.salvage_model.specs.Runs.{Group, run, loose, sound_alone, run_fault}
use Rattle.salvage_model.specs.Kept.{Torn, Section, letter, ending, stray, Fate, kept, renewed, dropped, Marked, marked, out_of_place, run_fate, is_sound_bundle, any_bundle, is_kept, group_marks, groups_marks, control_marks, section_marks, sections_marks, marks_of, sections_of, kept_bodies, any_kept, is_anything}
use Rattle.salvage_model.specs.Salvaged.{listed}
use Rattle.salvage_copy.proofs.WalkedCopy.{copies}
use Rattle.salvage_copy.proofs.RunCopy.{alone-copied, fault-copied}
use Rattle.salvage_copy.proofs.GroupsCopy.{copied_group, copied_groups, copied_control, copied_torn, copied_section, copied_sections, sections-copied}

indicator-copied : (header : Body) → indicator Ascii (copied_body header) ≡ indicator Ebcdic header
indicator-copied header =
    ap (λ (l : List ℕ). capital Ascii (get_or l 0 0)) (field-copied header 42 1 (omega arith)) ∙ get_d-alike (part 42 1 header) 0

-- under a header that is sound alone
module _ (header : Body) (sound : sound_alone Ebcdic 10 header ≡ true) where
  bundle-copied : (g : Group) → is_sound_bundle Ascii (copied_body header) (copied_group g) ≡ is_sound_bundle Ebcdic header g
  bundle-copied (loose bs) = refl
  bundle-copied (run []) = refl
  bundle-copied (run (b ∷ bs)) = rw (type-copied b, fault-copied header (b ∷ bs) sound)

  any_copied : (gs : List Group) → any_bundle Ascii (copied_body header) (copied_groups gs) ≡ any_bundle Ebcdic header gs
  any_copied [] = refl
  any_copied (g ∷ gs) = ap₂ ◌||◌ (bundle-copied g) (any_copied gs)

pub kept-copied : (t : Torn) → is_kept Ascii (copied_torn t) ≡ is_kept Ebcdic t
unfolding is_kept
kept-copied t = rw (alone-copied 10 t.header, indicator-copied t.header) (by (sound_alone Ebcdic 10 t.header) refl)
  where
    by : (c : Bool) → sound_alone Ebcdic 10 t.header ≡ c
        → c && (eqb (indicator Ebcdic t.header) N || any_bundle Ascii (copied_body t.header) (copied_groups t.groups))
        ≡ c && (eqb (indicator Ebcdic t.header) N || any_bundle Ebcdic t.header t.groups)
    by true e = ap (λ (b : Bool). eqb (indicator Ebcdic t.header) N || b) (any_copied t.header e t.groups)
    by false e = refl

-- marks
abbrev pub copied_mark : Marked → Marked
copied_mark m = record { body = copied_body m.body; fate = m.fate }

abbrev pub copied_marks : List Marked → List Marked
copied_marks ms = map copied_mark ms

append-copied : (ms ns : List Marked) {ms' ns' : List Marked} → ms' ≡ copied_marks ms → ns' ≡ copied_marks ns → ms' ++ ns' ≡ copied_marks (ms ++ ns)
append-copied ms ns p q = ap₂ ◌++◌ p q ∙ joined ms
  where
    joined : (xs : List Marked) → copied_marks xs ++ copied_marks ns ≡ copied_marks (xs ++ ns)
    joined [] = refl
    joined (x ∷ xs) = ap (λ (l : List Marked). copied_mark x ∷ l) (joined xs)

all-marked : (f : Fate) (bs : List Body) → map (marked f) (copies bs) ≡ copied_marks (map (marked f) bs)
all-marked f [] = refl
all-marked f (b ∷ bs) = ap (λ (l : List Marked). marked f (copied_body b) ∷ l) (all-marked f bs)

fate-copied : (t : Torn) (bs : List Body)
    → cond (sound_alone Ascii 10 (copied_body t.header)) (run_fate (is_kept Ascii (copied_torn t)) (run_fault Ascii (copied_body t.header) (copies bs))) out_of_place
    ≡ cond (sound_alone Ebcdic 10 t.header) (run_fate (is_kept Ebcdic t) (run_fault Ebcdic t.header bs)) out_of_place
fate-copied t bs = rw (alone-copied 10 t.header, kept-copied t) (by (sound_alone Ebcdic 10 t.header) refl)
  where
    by : (c : Bool) → sound_alone Ebcdic 10 t.header ≡ c
        → cond c (run_fate (is_kept Ebcdic t) (run_fault Ascii (copied_body t.header) (copies bs))) out_of_place
        ≡ cond c (run_fate (is_kept Ebcdic t) (run_fault Ebcdic t.header bs)) out_of_place
    by true e = ap (run_fate (is_kept Ebcdic t)) (fault-copied t.header bs e)
    by false e = refl

group-marks : (t : Torn) (g : Group) → group_marks Ascii (copied_torn t) (copied_group g) ≡ copied_marks (group_marks Ebcdic t g)
group-marks t (loose bs) = all-marked out_of_place bs
group-marks t (run bs) = ap (λ (f : Fate). map (marked f) (copies bs)) (fate-copied t bs) ∙ all-marked _ bs

pub groups-marks : (t : Torn) (gs : List Group) → groups_marks Ascii (copied_torn t) (copied_groups gs) ≡ copied_marks (groups_marks Ebcdic t gs)
groups-marks t [] = refl
groups-marks t (g ∷ gs) = append-copied (group_marks Ebcdic t g) (groups_marks Ebcdic t gs) (group-marks t g) (groups-marks t gs)

control-marks : (k : Bool) (c : Option Body) → control_marks k (copied_control c) ≡ copied_marks (control_marks k c)
control-marks k none = refl
control-marks k (some b) = refl

section-marks : (s : Section) → section_marks Ascii (copied_section s) ≡ copied_marks (section_marks Ebcdic s)
section-marks (letter t) =
    rw (kept-copied t)
    (ap (λ (l : List Marked). marked (cond (is_kept Ebcdic t) kept out_of_place) (copied_body t.header) ∷ l)
    (append-copied (groups_marks Ebcdic t t.groups) (control_marks (is_kept Ebcdic t) t.control) (groups-marks t t.groups)
    (control-marks (is_kept Ebcdic t) t.control)))
section-marks (ending b) = refl
section-marks (stray b) = refl

sections-marks : (ss : List Section) → sections_marks Ascii (copied_sections ss) ≡ copied_marks (sections_marks Ebcdic ss)
sections-marks [] = refl
sections-marks (s ∷ ss) = append-copied (section_marks Ebcdic s) (sections_marks Ebcdic ss) (section-marks s) (sections-marks ss)

pub marks-copied : (bs : List Body) → marks_of Ascii (copies bs) ≡ copied_marks (marks_of Ebcdic bs)
unfolding marks_of
marks-copied [] = refl
marks-copied (b ∷ bs) =
    ap (λ (l : List Marked). marked kept (copied_body b) ∷ l) (ap (sections_marks Ascii) (sections-copied bs) ∙ sections-marks (sections_of Ebcdic bs))

-- the bodies of those kept
pub bodies-copied : (ms : List Marked) → kept_bodies (copied_marks ms) ≡ copies (kept_bodies ms)
bodies-copied [] = refl
bodies-copied (m ∷ ms) = by m.fate m.body (bodies-copied ms)
  where
    by : (f : Fate) (b : Body) → kept_bodies (copied_marks ms) ≡ copies (kept_bodies ms)
        → kept_bodies (marked f (copied_body b) ∷ copied_marks ms) ≡ copies (kept_bodies (marked f b ∷ ms))
    by kept b e = ap (λ (l : List Body). copied_body b ∷ l) e
    by renewed b e = e
    by (dropped n) b e = e

-- and the list of them: offsets, types, what became of each
pub listed-copied : (at : ℕ) (ms : List Marked) → listed Ascii at (copied_marks ms) ≡ listed Ebcdic at ms
unfolding listed
listed-copied at [] = refl
listed-copied at (m ∷ ms) = rw (type-copied m.body, length-copied m.body, listed-copied (at + 4 + length m.body) ms)

-- whether anything is left
any-kept : (ss : List Section) → any_kept Ascii (copied_sections ss) ≡ any_kept Ebcdic ss
any-kept [] = refl
any-kept (letter t ∷ ss) = ap₂ ◌||◌ (kept-copied t) (any-kept ss)
any-kept (ending b ∷ ss) = any-kept ss
any-kept (stray b ∷ ss) = any-kept ss

pub anything-copied : (bs : List Body) → is_anything Ascii (copies bs) ≡ is_anything Ebcdic bs
unfolding is_anything
anything-copied [] = refl
anything-copied (b ∷ bs) = ap₂ ◌&&◌ (alone-copied 1 b) (ap (any_kept Ascii) (sections-copied bs) ∙ any-kept (sections_of Ebcdic bs))
