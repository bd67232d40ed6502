-- What is kept of the records walked, what is made new, and what is dropped, and with which number (request 11, readings 63 to 65).
use Rattle.std.specs.Prelude.{ℕ, zero, suc, ◌+◌, ◌-◌, Bool, true, false, ◌&&◌, ◌||◌, cond, List, [], ◌∷◌, ◌++◌, map, leb, eqb, length}
use Rattle.std.proofs.Math.Option.{Option, none, some}
use Rattle.text.specs.declared.character_set.CharacterSet.{CharacterSet}
use Rattle.layout.specs.Layout.{Line, Layout}
use Rattle.layout.specs.Layouts.{cash_letter_control, file_control}
use Rattle.judge.specs.Alone.{type_of, characters_of, line_holds}
use Rattle.copying.specs.Times.{times}
use Rattle.passes.specs.declared.Fault.{Fault}
use Rattle.passes.specs.declared.Fault.TheVariants.{Place}
use Rattle.passes.specs.Answers.{number_of}
use Rattle.file_as_records.specs.Framed.{Body}
use Rattle.arrangement.specs.Sound.{indicator, N}
use Rattle.draft.specs.Values.{Piece, here, Values, is_given, in_ascii, values_of_body}
use Rattle.salvage_model.specs.Runs.{leading, following, not_of, Group, run, loose, groups_of, sound_alone, run_fault}

-- a cash letter as it was walked: its 10, the records under it in their groups, and the 90 that ends them, where one does
pub record Torn : Type 0 where
  pub header : Body
  pub groups : List Group
  pub control : Option Body

-- behind the 01: cash letters, the 99, and records that lie under no header
pub data Section : Type 0 where
  letter : Torn → Section
  ending : Body → Section
  stray : Body → Section

-- under a 10 are the records behind it, up to the next 10, 90 or 99 or the end of the walk (reading 61)
abbrev pub letter_then : CharacterSet → Body → List Group → List Body → (List Body → List Section) → List Section
letter_then set header groups [] others = letter (record { header = header; groups = groups; control = none }) ∷ []
letter_then set header groups (b ∷ bs) others =
    cond (eqb (type_of set b) 90) (letter (record { header = header; groups = groups; control = some b }) ∷ others bs)
    (letter (record { header = header; groups = groups; control = none }) ∷ others (b ∷ bs))

unfoldable pub sections_from : CharacterSet → ℕ → List Body → List Section
sections_from set zero bs = []
sections_from set (suc n) [] = []
sections_from set (suc n) (b ∷ bs) =
    cond (eqb (type_of set b) 10)
    (letter_then set b (groups_of set (leading (not_of set (10 ∷ 90 ∷ 99 ∷ [])) bs)) (following (not_of set (10 ∷ 90 ∷ 99 ∷ [])) bs) (sections_from set n))
    (cond (eqb (type_of set b) 99) (ending b ∷ sections_from set n bs) (stray b ∷ sections_from set n bs))

unfoldable pub sections_of : CharacterSet → List Body → List Section
sections_of set bs = sections_from set (length bs) bs

-- "each 10 that is sound alone, with its sound runs in their order, unless its field 8 is E, I or F .. and no sound run of a 20 is under it"
abbrev pub is_through : Option Fault → Bool
is_through none = true
is_through (some fault) = false

abbrev pub is_sound_bundle : CharacterSet → Body → Group → Bool
is_sound_bundle set header (loose bs) = false
is_sound_bundle set header (run []) = false
is_sound_bundle set header (run (b ∷ bs)) = eqb (type_of set b) 20 && is_through (run_fault set header (b ∷ bs))

abbrev pub any_bundle : CharacterSet → Body → List Group → Bool
any_bundle set header [] = false
any_bundle set header (g ∷ gs) = is_sound_bundle set header g || any_bundle set header gs

unfoldable pub is_kept : CharacterSet → Torn → Bool
is_kept set t = sound_alone set 10 t.header && (eqb (indicator set t.header) N || any_bundle set t.header t.groups)

-- what becomes of a record
pub data Fate : Type 0 where
  kept : Fate
  renewed : Fate
  dropped : ℕ → Fate

pub record Marked : Type 0 where
  pub body : Body
  pub fate : Fate

abbrev pub marked : Fate → Body → Marked
marked f b = record { body = b; fate = f }

-- "else PLACE"
abbrev pub out_of_place : Fate
out_of_place = dropped (number_of Place)

-- in an unsound run under a 10 that is sound alone, that run's first fault, whatever the record is, also where the letter is dropped by Annex B (reading 64)
abbrev pub run_fate : Bool → Option Fault → Fate
run_fate letter_kept none = cond letter_kept kept out_of_place
run_fate letter_kept (some fault) = dropped (number_of fault)

abbrev pub group_marks : CharacterSet → Torn → Group → List Marked
group_marks set t (loose bs) = map (marked out_of_place) bs
group_marks set t (run bs) = map (marked (cond (sound_alone set 10 t.header) (run_fate (is_kept set t) (run_fault set t.header bs)) out_of_place)) bs

abbrev pub groups_marks : CharacterSet → Torn → List Group → List Marked
groups_marks set t [] = []
groups_marks set t (g ∷ gs) = group_marks set t g ++ groups_marks set t gs

-- "Made new: the 90 that ends the records under a kept 10, and the 99 walked"
abbrev pub control_marks : Bool → Option Body → List Marked
control_marks letter_kept none = []
control_marks letter_kept (some b) = marked (cond letter_kept renewed out_of_place) b ∷ []

abbrev pub section_marks : CharacterSet → Section → List Marked
section_marks set (letter t) =
    marked (cond (is_kept set t) kept out_of_place) t.header ∷ (groups_marks set t t.groups ++ control_marks (is_kept set t) t.control)
section_marks set (ending b) = marked renewed b ∷ []
section_marks set (stray b) = marked out_of_place b ∷ []

abbrev pub sections_marks : CharacterSet → List Section → List Marked
sections_marks set [] = []
sections_marks set (s ∷ ss) = section_marks set s ++ sections_marks set ss

-- of all the records walked, of which the first is the file's header
unfoldable pub marks_of : CharacterSet → List Body → List Marked
marks_of set [] = []
marks_of set (b ∷ bs) = marked kept b ∷ sections_marks set (sections_of set bs)

-- A new control: 90.6, 90.7, 99.6, 99.7 each as in the 90 or 99 walked where that field lies within its record and keeps its rule, else blank (reading 65)
abbrev pub free_field : CharacterSet → Option Body → Line → Piece
free_field set none l = here (times l.size 0x20)
free_field set (some b) l =
    cond (leb (l.first - 1 + l.size) (length b) && line_holds set l b) (here (in_ascii set l.data_type (characters_of l b))) (here (times l.size 0x20))

abbrev pub free_fields : CharacterSet → Option Body → List Line → List Piece
free_fields set b [] = []
free_fields set b (l ∷ ls) = cond (is_given l.origin) (free_field set b l ∷ free_fields set b ls) (free_fields set b ls)

unfoldable pub control_values : CharacterSet → Layout → Option Body → Values
control_values set k b = record { type = k.type_number; blank = false; fields = free_fields set b k.lines; parts = [] }

-- the values of what is kept, and of the new controls: "A new 90 and a new 99 are written whether or not one was walked"
abbrev pub kept_bodies : List Marked → List Body
kept_bodies [] = []
kept_bodies (m ∷ ms) = kept_body m.fate m.body (kept_bodies ms)
  where
    kept_body : Fate → Body → List Body → List Body
    kept_body kept b bs = b ∷ bs
    kept_body renewed b bs = bs
    kept_body (dropped n) b bs = bs

abbrev pub letter_values : CharacterSet → Torn → List Values
letter_values set t =
    cond (is_kept set t)
    (values_of_body set t.header ∷ (map (values_of_body set) (kept_bodies (groups_marks set t t.groups)) ++ (control_values set cash_letter_control t.control ∷ []))) []

abbrev pub sections_values : CharacterSet → List Section → List Values
sections_values set [] = []
sections_values set (letter t ∷ ss) = letter_values set t ++ sections_values set ss
sections_values set (ending b ∷ ss) = sections_values set ss
sections_values set (stray b ∷ ss) = sections_values set ss

-- the 99 walked, where one was
abbrev pub ending_of : List Section → Option Body
ending_of [] = none
ending_of (letter t ∷ ss) = ending_of ss
ending_of (ending b ∷ ss) = some b
ending_of (stray b ∷ ss) = ending_of ss

unfoldable pub salvaged_values : CharacterSet → List Body → List Values
salvaged_values set [] = []
salvaged_values set (b ∷ bs) =
    values_of_body set b ∷ (sections_values set (sections_of set bs) ++ (control_values set file_control (ending_of (sections_of set bs)) ∷ []))

-- "NOTHING (17) where the file header is unsound or no cash letter is left"
abbrev pub any_kept : CharacterSet → List Section → Bool
any_kept set [] = false
any_kept set (letter t ∷ ss) = is_kept set t || any_kept set ss
any_kept set (ending b ∷ ss) = any_kept set ss
any_kept set (stray b ∷ ss) = any_kept set ss

unfoldable pub is_anything : CharacterSet → List Body → Bool
is_anything set [] = false
is_anything set (b ∷ bs) = sound_alone set 1 b && any_kept set (sections_of set bs)
