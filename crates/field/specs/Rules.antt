-- When a field is right: document 01, "Fields, links and sums".
use Rattle.std.specs.Prelude.{ℕ, Bool, true, false, ◌&&◌, ◌||◌, not, List, eqb, length, get_or}
use Rattle.text.specs.declared.character_set.CharacterSet.{CharacterSet}
use Rattle.text.specs.declared.data_types.DataType.{DataType}
use Rattle.text.specs.declared.data_types.DataType.TheVariants.{NB}
use Rattle.text.specs.Ranges.{within}
use Rattle.text.specs.Characters.{is_blank, is_numeric}
use Rattle.text.specs.Capitals.{capital}
use Rattle.text.specs.DataTypes.{every, some, admits, of_type, is_mark}
use Rattle.text.specs.Number.{number}
use Rattle.field.specs.declared.Usage.{Usage}
use Rattle.field.specs.declared.Usage.TheVariants.{Mandatory, Conditional}
use Rattle.field.specs.declared.CodeList.{CodeList}
use Rattle.field.specs.declared.Rule.{Rule}
use Rattle.field.specs.declared.Rule.TheVariants.{DataTypeAlone, Numbers, AllDigits, OneOrTwoDigits, StandardLevel, CollectionType, BundleCollectionType, SourceOfWork, Code, Date, HoursMinutes, HoursMinutesSeconds, Routing, ClippingCoordinate}
use Rattle.field.specs.Values.{is_code, is_standard_level, is_collection_type, is_bundle_collection_type, is_source_of_work}
use Rattle.field.specs.Formats.{is_date, is_hours_minutes, is_hours_minutes_seconds}
use Rattle.field.specs.RoutingForms.{fits_some}

-- a field of digits whose number passes a test
abbrev pub digits_with : CharacterSet → (ℕ → Bool) → List ℕ → Bool
digits_with set test part = every (is_numeric set) part && test (number set part)

-- '0' through '99' in two characters (21.11, 21.12): a digit and a blank in either order, or two digits
abbrev pub one_or_two_digits : CharacterSet → List ℕ → Bool
one_or_two_digits set part = every (admits set NB) part && some (is_numeric set) part

-- one character of a list
abbrev pub code : CharacterSet → CodeList → List ℕ → Bool
code set list part = eqb (length part) 1 && is_code list (capital set (get_or part 0 0))

-- "Clipping origin 0 requires four coordinates of 0000"; the origin stands at a place of the record, counted from 0
abbrev pub clipping_coordinate : CharacterSet → ℕ → List ℕ → List ℕ → Bool
clipping_coordinate set origin part body = every (is_numeric set) part && (not (eqb (capital set (get_or body origin 0)) 0x30) || eqb (number set part) 0)

-- the Format line or the Defined Values of a field, over its part of the record's body
unfoldable pub follows : CharacterSet → Rule → List ℕ → List ℕ → Bool
follows set DataTypeAlone part body = true
follows set (Numbers low high) part body = digits_with set (within low high) part
follows set AllDigits part body = every (is_numeric set) part
follows set OneOrTwoDigits part body = one_or_two_digits set part
follows set StandardLevel part body = digits_with set is_standard_level part
follows set CollectionType part body = digits_with set is_collection_type part
follows set BundleCollectionType part body = digits_with set is_bundle_collection_type part
follows set SourceOfWork part body = digits_with set is_source_of_work part
follows set (Code list) part body = code set list part
follows set Date part body = is_date set part
follows set HoursMinutes part body = is_hours_minutes set part
follows set HoursMinutesSeconds part body = is_hours_minutes_seconds set part
follows set (Routing forms) part body = fits_some set forms part
follows set (ClippingCoordinate origin) part body = clipping_coordinate set origin part body

-- "meets its type and defined values"; a can't-read or questionable mark that the type admits leaves the type alone to judge
unfoldable pub meets : CharacterSet → DataType → Rule → List ℕ → List ℕ → Bool
meets set t rule part body = of_type set t part && (follows set rule part body || some (is_mark set t) part)

-- a field that needs to meet nothing
abbrev pub left_blank : CharacterSet → Usage → List ℕ → Bool
left_blank set Mandatory part = false
left_blank set Conditional part = every (is_blank set) part

-- "A mandatory field meets its type and defined values"; "a conditional field is all blank, or meets its type and defined values"
unfoldable pub holds : CharacterSet → Usage → DataType → Rule → List ℕ → List ℕ → Bool
holds set Mandatory t rule part body = meets set t rule part body
holds set Conditional t rule part body = every (is_blank set) part || meets set t rule part body
