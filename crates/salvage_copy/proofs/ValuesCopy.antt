-- The values of what is kept, and those of the new controls, are the same of the records and of their copies. Assumes nothing.
use Prim.Native.Nat.{◌+◌, ◌-◌}
use mathlib.Core.Bool.{Bool, true, false, ◌&&◌, cond}
use mathlib.Core.List.{List, [], ◌∷◌, ◌++◌, map}
use mathlib.Core.Option.{Option, none, some}
use mathlib.Core.Path.{◌≡◌, refl, sym, ap, ap₂, ◌∙◌}
use lib.Dec.{leb}
use borrow.Author.Tests.{leb-true}
use Rattle.text.specs.declared.character_set.CharacterSet.TheVariants.{Ascii, Ebcdic}
use Rattle.field.specs.declared.Rule.{Rule}
use Rattle.field.specs.declared.Rule.TheVariants.{DataTypeAlone, Numbers, AllDigits, OneOrTwoDigits, StandardLevel, CollectionType, BundleCollectionType, SourceOfWork, Code, Date, HoursMinutes, HoursMinutesSeconds, Routing, ClippingCoordinate}
use Rattle.layout.specs.Layout.{Line, Layout}
use Rattle.layout.specs.Layouts.{cash_letter_control, file_control}
use Rattle.judge.specs.Alone.{characters_of, line_holds}
use Rattle.judge.proofs.Laws.{both_true}
use Rattle.ascii_copy.specs.AsciiCopy.{copied_body}
use Rattle.ascii_copy.proofs.Characters.{is_characters, copied-as}
use Rattle.ascii_copy.proofs.Fields.{OriginAlike, holds-alike}
use Rattle.ascii_copy.proofs.Records.{length-copied, field-copied}
use Rattle.file_as_records.specs.Framed.{Body}
use Rattle.file_as_records.proofs.Tests.{refuted}
use Rattle.draft.specs.Values.{Piece, Values, is_given, values_of_body}
use Rattle.same_bytes.proofs.Copied.{values-copied}
use Rattle.salvage_model.specs.Kept.{Torn, Section, letter, ending, stray, free_field, free_fields, control_values, kept_bodies, groups_marks, letter_values, sections_values, ending_of, sections_of, salvaged_values}
use Rattle.salvage_copy.proofs.WalkedCopy.{copies}
use Rattle.salvage_copy.proofs.GroupsCopy.{copied_control, copied_torn, copied_sections, sections-copied}
use Rattle.salvage_copy.proofs.MarksCopy.{kept-copied, groups-marks, bodies-copied}

pub values-all : (bs : List Body) → map (values_of_body Ascii) (copies bs) ≡ map (values_of_body Ebcdic) bs
values-all [] = refl
values-all (b ∷ bs) = ap₂ (λ (v : Values) (vs : List Values). v ∷ vs) (values-copied b) (values-all bs)

-- computed of the two controls: what is given of them is characters, in front, and looks at no other field
abbrev by_itself : Rule → Bool
by_itself DataTypeAlone = true
by_itself (Numbers low high) = true
by_itself AllDigits = true
by_itself OneOrTwoDigits = true
by_itself StandardLevel = true
by_itself CollectionType = true
by_itself BundleCollectionType = true
by_itself SourceOfWork = true
by_itself (Code list) = true
by_itself Date = true
by_itself HoursMinutes = true
by_itself HoursMinutesSeconds = true
by_itself (Routing forms) = true
by_itself (ClippingCoordinate origin) = false

abbrev is_plain : Line → Bool
is_plain l = is_characters l.data_type && (leb (l.first - 1 + l.size) 139 && by_itself l.rule)

abbrev are_plain : List Line → Bool
are_plain [] = true
are_plain (l ∷ ls) = is_plain l && are_plain ls

no_origin : (rule : Rule) (b other : Body) → by_itself rule ≡ true → OriginAlike rule b other
no_origin rule b other e = λ origin r. refuted false refl (ap by_itself (sym r) ∙ e)

field_alike : (l : Line) → is_plain l ≡ true → (c : Option Body) → free_field Ascii (copied_control c) l ≡ free_field Ebcdic c l
unfolding line_holds
field_alike l e none = refl
field_alike l e (some b) =
    let tests = both_true (is_characters l.data_type) _ e in
    let more = both_true (leb (l.first - 1 + l.size) 139) (by_itself l.rule) tests.1 in
    let own = characters_of l b in
    let copied = field-copied b (l.first - 1) l.size (leb-true (l.first - 1 + l.size) 139 more.0) in
    let holds = holds-alike l.usage l.data_type l.rule own b (copied_body b) (no_origin l.rule b (copied_body b) more.1) in
    rw (length-copied b, copied, holds, copied-as l.data_type own tests.0)

fields-alike : (ls : List Line) → are_plain ls ≡ true → (c : Option Body) → free_fields Ascii (copied_control c) ls ≡ free_fields Ebcdic c ls
fields-alike [] e c = refl
fields-alike (l ∷ ls) e c =
    let tests = both_true (is_plain l) (are_plain ls) e in
    ap₂ (λ (p : Piece) (ps : List Piece). cond (is_given l.origin) (p ∷ ps) ps) (field_alike l tests.0 c) (fields-alike ls tests.1 c)

control-copied : (k : Layout) → are_plain k.lines ≡ true → (c : Option Body) → control_values Ascii k (copied_control c) ≡ control_values Ebcdic k c
unfolding control_values
control-copied k e c = rw (fields-alike k.lines e c)

letter-values : (t : Torn) → letter_values Ascii (copied_torn t) ≡ letter_values Ebcdic t
letter-values t =
    rw (
      kept-copied t,
      values-copied t.header,
      groups-marks t t.groups,
      bodies-copied (groups_marks Ebcdic t t.groups),
      values-all (kept_bodies (groups_marks Ebcdic t t.groups)),
      control-copied cash_letter_control refl t.control,
    )

sections-values : (ss : List Section) → sections_values Ascii (copied_sections ss) ≡ sections_values Ebcdic ss
sections-values [] = refl
sections-values (letter t ∷ ss) = ap₂ ◌++◌ (letter-values t) (sections-values ss)
sections-values (ending b ∷ ss) = sections-values ss
sections-values (stray b ∷ ss) = sections-values ss

ending-copied : (ss : List Section) → ending_of (copied_sections ss) ≡ copied_control (ending_of ss)
ending-copied [] = refl
ending-copied (letter t ∷ ss) = ending-copied ss
ending-copied (ending b ∷ ss) = refl
ending-copied (stray b ∷ ss) = ending-copied ss

pub salvaged-copied : (bs : List Body) → salvaged_values Ascii (copies bs) ≡ salvaged_values Ebcdic bs
unfolding salvaged_values
salvaged-copied [] = refl
salvaged-copied (b ∷ bs) =
    let ss = sections_of Ebcdic bs in
    rw (values-copied b, sections-copied bs, sections-values ss, ending-copied ss, control-copied file_control refl (ending_of ss))
