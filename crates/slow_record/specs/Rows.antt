-- The lines of the slow reader's table (src/table.rt), each a number whose decimal digits are its columns, and a record judged by what they say.
-- Nothing of this has to be believed: proofs/Dispatch.antt has that what the layouts say, so judged, is what judge/specs/Alone.antt asks.
use Rattle.std.specs.Prelude.{ℕ, ◌+◌, ◌-◌, ◌/◌, ◌%◌, ◌≡◌, Bool, cond, ◌&&◌, ◌||◌, not, List, [], ◌∷◌, ◌++◌, map, leb, eqb, length, take, drop}
use Rattle.text.specs.declared.character_set.CharacterSet.{CharacterSet}
use Rattle.text.specs.declared.data_types.DataType.{DataType}
use Rattle.text.specs.declared.data_types.DataType.TheVariants.{Binary}
use Rattle.text.specs.DataTypes.{of_type}
use Rattle.text.specs.Number.{number}
use Rattle.field.specs.declared.Usage.{Usage}
use Rattle.field.specs.declared.Usage.TheVariants.{Mandatory, Conditional}
use Rattle.field.specs.declared.Rule.{Rule}
use Rattle.field.specs.declared.Rule.TheVariants.{DataTypeAlone, Numbers, AllDigits, OneOrTwoDigits, StandardLevel, CollectionType, BundleCollectionType, SourceOfWork, Date, HoursMinutes, HoursMinutesSeconds, Routing, ClippingCoordinate, Code}
use Rattle.field.specs.declared.CodeList.{CodeList}
use Rattle.field.specs.declared.CodeList.TheVariants.{FileTypes, YesNo, YesNoUnknown, RecordTypeIndicators, CashLetterDocumentation, ItemDocumentation, ReturnAcceptance, ArchiveTypes, TestOverrides, AccountTypes}
use Rattle.field.specs.Rules.{holds}
use Rattle.frame.specs.Frames.{part}
use Rattle.frame.specs.Unless.{unless}
use Rattle.layout.specs.Layout.{Line, Sized, Layout, sized_parts}
use Rattle.layout.specs.Layouts.{layouts}
use Rattle.layout.specs.Packing.{usage_of, data_type_of, forms_in}
use Rattle.judge.specs.Alone.{unless_field}
use Rattle.judge.specs.Alone.{Judged}
use Rattle.judge.specs.Alone.{Sound, WrongLength, UnknownType}

-- the lists of codes, and the rules of clauses 6.7 and 6.8, by their numbers in the table
abbrev pub list_of : ℕ → CodeList
list_of n =
    cond (eqb n 1) FileTypes
    (cond (eqb n 2) YesNo
    (cond (eqb n 3) YesNoUnknown
    (cond (eqb n 4) RecordTypeIndicators
    (cond (eqb n 5) CashLetterDocumentation
    (cond (eqb n 6) ItemDocumentation
    (cond (eqb n 7) ReturnAcceptance (cond (eqb n 8) ArchiveTypes (cond (eqb n 9) TestOverrides AccountTypes))))))))

abbrev pub rule_of : ℕ → ℕ → ℕ → Rule
rule_of code low high =
    cond (eqb code 1) (Numbers low high)
    (cond (eqb code 2) AllDigits
    (cond (eqb code 3) OneOrTwoDigits
    (cond (eqb code 4) StandardLevel
    (cond (eqb code 5) CollectionType
    (cond (eqb code 6) BundleCollectionType
    (cond (eqb code 7) SourceOfWork
    (cond (eqb code 8) Date
    (cond (eqb code 9) HoursMinutes
    (cond (eqb code 10) HoursMinutesSeconds
    (cond (eqb code 11) (Routing (forms_in high))
    (cond (eqb code 12) (ClippingCoordinate (high - 1)) (cond (eqb code 13) (Code (list_of high)) DataTypeAlone))))))))))))

-- what a line says: the kind of record, what the line is in it (0 and 1 a field of its fixed part, mandatory or conditional, 2 a field behind it,
-- 3 the record itself), the field's number, its first position and its size, its data type, its Format or Defined Values
pub record Entry : Type 0 where
  pub kind : ℕ
  pub role : ℕ
  pub number : ℕ
  pub first : ℕ
  pub size : ℕ
  pub data_type : DataType
  pub rule : Rule

abbrev pub entry_of : ℕ → Entry
entry_of line =
    record {
      kind = line / 100_000_000_000_000_000;
      role = line / 100_000_000 % 10;
      number = line / 1_000_000_000_000_000 % 100;
      first = line / 1_000_000_000_000 % 1_000;
      size = line / 1_000_000_000 % 1_000;
      data_type = data_type_of (line / 1_000_000 % 100);
      rule = rule_of (line / 10_000 % 100) (line / 100 % 100) (line % 100);
    }

-- what the layouts say, in the same form
abbrev pub role_of : Usage → ℕ
role_of Mandatory = 0
role_of Conditional = 1

abbrev pub of_line : ℕ → Line → Entry
of_line k l = record { kind = k; role = role_of l.usage; number = l.number; first = l.first; size = l.size; data_type = l.data_type; rule = l.rule }

abbrev pub of_part : ℕ → Sized → Entry
of_part k s = record { kind = k; role = 2; number = s.number; first = s.first; size = s.size; data_type = s.data_type; rule = DataTypeAlone }

abbrev pub of_layout : Layout → List Entry
of_layout k =
    record { kind = k.type_number; role = 3; number = 0; first = 1; size = k.fixed_length; data_type = Binary; rule = DataTypeAlone }
    ∷ (map (of_line k.type_number) k.lines ++ map (of_part k.type_number) (sized_parts k))

abbrev pub entries_of : List Layout → List Entry
entries_of [] = []
entries_of (k ∷ ks) = of_layout k ++ entries_of ks

-- a table whose lines say what the layouts say
pub record Meant (lines : List ℕ) : Type 0 where
  pub means : map entry_of lines ≡ entries_of layouts

-- an entry of the kind: a field of its fixed part, a field behind it, the record itself
abbrev pub is_field : ℕ → Entry → Bool
is_field kind e = leb e.role 1 && eqb kind e.kind

abbrev pub is_part : ℕ → Entry → Bool
is_part kind e = eqb e.role 2 && eqb kind e.kind

abbrev pub is_record : ℕ → Entry → Bool
is_record kind e = eqb e.role 3 && eqb kind e.kind

-- the characters that an entry points at
abbrev pub characters_at : Entry → List ℕ → List ℕ
characters_at e body = part (e.first - 1) e.size body

unfoldable pub field_holds : CharacterSet → Entry → List ℕ → Bool
field_holds set e body = holds set (usage_of e.role) e.data_type e.rule (characters_at e body) body

abbrev pub stated_in : CharacterSet → Entry → List ℕ → ℕ
stated_in set e body = number set (characters_at e body)

-- those of a list that pass a test
abbrev pub keep : (Entry → Bool) → List Entry → List Entry
keep test [] = []
keep test (e ∷ es) = cond (test e) (e ∷ keep test es) (keep test es)

abbrev pub fields_of : ℕ → List Entry → List Entry
fields_of kind es = keep (is_field kind) es

abbrev pub parts_of : ℕ → List Entry → List Entry
parts_of kind es = keep (is_part kind) es

-- the length of the fixed part, 0 of a kind that is not in the table
unfoldable pub length_of : ℕ → List Entry → ℕ
length_of kind [] = 0
length_of kind (e ∷ es) = cond (is_record kind e) e.size (length_of kind es)

-- the first field of the fixed part that does not hold, or 0
unfoldable pub wrong_field : CharacterSet → List Entry → List ℕ → ℕ
wrong_field set [] body = 0
wrong_field set (e ∷ es) body = cond (field_holds set e body) (wrong_field set es body) e.number

-- what the record states for the fields behind its fixed part, together
unfoldable pub stated : CharacterSet → List Entry → List ℕ → ℕ
stated set [] body = 0
stated set (e ∷ es) body = stated_in set e body + stated set es body

-- the first of these that is not of its data type, or 0
unfoldable pub wrong_part : CharacterSet → List Entry → List ℕ → List ℕ → ℕ
wrong_part set [] body rest = 0
wrong_part set (e ∷ es) body rest =
    cond (of_type set e.data_type (take (stated_in set e body) rest)) (wrong_part set es body (drop (stated_in set e body) rest)) e.number

-- the kinds that have any
abbrev pub is_variable : ℕ → Bool
is_variable kind = eqb kind 27 || (eqb kind 34 || eqb kind 52)

-- the checks in document 01's order
unfoldable pub judged_by : CharacterSet → ℕ → List Entry → List ℕ → Judged
judged_by set kind es body =
    unless (not (eqb (length_of kind es) 0)) UnknownType
    (unless (leb (length_of kind es) (length body)) WrongLength
    (unless (is_variable kind || leb (length body) (length_of kind es)) WrongLength
    (unless_field (wrong_field set (fields_of kind es) body)
    (unless (eqb (length body) (length_of kind es + stated set (parts_of kind es) body)) WrongLength
    (unless_field (wrong_part set (parts_of kind es) body (drop (length_of kind es) body)) Sound)))))
