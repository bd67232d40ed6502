-- What a record's layout table says (clause 6), and the words that the tables of specs/Layouts.antt are written in.
use Rattle.std.specs.Prelude.{ℕ, ◌-◌, cond, List, [], ◌∷◌, map, eqb}
use Rattle.text.specs.declared.data_types.DataType.{DataType}
use Rattle.field.specs.declared.Usage.{Usage}
use Rattle.field.specs.declared.Usage.TheVariants.{Mandatory, Conditional}
use Rattle.field.specs.declared.Rule.{Rule}
use Rattle.field.specs.declared.Rule.TheVariants.{DataTypeAlone, Numbers, Routing, ClippingCoordinate}
use Rattle.field.specs.RoutingForms.{Form, listing}
use Rattle.layout.specs.declared.packing.Origin.{Origin}

-- a field of the fixed part: FIELD, USAGE, POSITION (first and last), SIZE and TYPE, as the table prints them, and its Format or
-- Defined Values; besides, whether whoever makes out a record gives it or it is worked out, and then what it states (request 4)
pub record Line : Type 0 where
  pub number : ℕ
  pub usage : Usage
  pub origin : Origin
  pub first : ℕ
  pub last : ℕ
  pub size : ℕ
  pub data_type : DataType
  pub rule : Rule

abbrev pub line : ℕ → Usage → Origin → ℕ → ℕ → ℕ → DataType → Rule → Line
line n u o f l s t r = record { number = n; usage = u; origin = o; first = f; last = l; size = s; data_type = t; rule = r }

-- a field after the fixed part: its number, the number of the field that states its size, its data type
pub record Part : Type 0 where
  pub number : ℕ
  pub sized_by : ℕ
  pub data_type : DataType

abbrev pub part : ℕ → ℕ → DataType → Part
part n by t = record { number = n; sized_by = by; data_type = t }

-- the layout of a kind of record: its type number, the length of its fixed part, how many fields it has, and the fields
pub record Layout : Type 0 where
  pub type_number : ℕ
  pub fixed_length : ℕ
  pub field_count : ℕ
  pub lines : List Line
  pub parts : List Part

abbrev pub layout : ℕ → ℕ → ℕ → List Line → List Part → Layout
layout t l n ls ps = record { type_number = t; fixed_length = l; field_count = n; lines = ls; parts = ps }

-- 6.3
abbrev pub M : Usage
M = Mandatory

abbrev pub C : Usage
C = Conditional

-- neither a Format nor Defined Values are given
abbrev pub none : Rule
none = DataTypeAlone

-- the Defined Values are all the numbers of the field's size
abbrev pub any_number : Rule
any_number = DataTypeAlone

-- values that are left alone: those of Annex G (reading 3), and 21.13, which hang on another field (reading 5)
abbrev pub not_judged : Rule
not_judged = DataTypeAlone

-- the Defined Values are the numbers from one through another, or one number
abbrev pub numbers : ℕ → ℕ → Rule
numbers low high = Numbers low high

abbrev pub only : ℕ → Rule
only n = Numbers n n

-- a routing number in one of the forms that the Format lines list
abbrev pub routing : List Form → Rule
routing forms = Routing (listing forms)

-- 22.10 to 22.13: a coordinate under the clipping origin at a position
abbrev pub clipped_by : ℕ → Rule
clipped_by position = ClippingCoordinate (position - 1)

-- a field after the fixed part, with the position and the size of the field that states its size
pub record Sized : Type 0 where
  pub number : ℕ
  pub first : ℕ
  pub size : ℕ
  pub data_type : DataType

abbrev pub sized_in : List Line → Part → Sized
sized_in [] p = record { number = p.number; first = 0; size = 0; data_type = p.data_type }
sized_in (l ∷ ls) p =
    cond (eqb l.number p.sized_by)
    (record { number = p.number; first = l.first; size = l.size; data_type = p.data_type })
    (sized_in ls p)

abbrev pub sized_parts : Layout → List Sized
sized_parts k = map (sized_in k.lines) k.parts
