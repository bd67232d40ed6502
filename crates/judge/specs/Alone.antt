-- One record alone (document 01, "Order"): what is judged of a record's body without looking at any other record.
use Rattle.std.specs.Prelude.{ℕ, ◌+◌, ◌-◌, Bool, true, false, cond, ◌&&◌, ◌||◌, List, [], ◌∷◌, leb, eqb, length, take, drop, ⊤, Ok, Err}
use Rattle.std.specs.declared.result.Result.{Result}
use Rattle.text.specs.declared.character_set.CharacterSet.{CharacterSet}
use Rattle.text.specs.Characters.{is_numeric}
use Rattle.text.specs.DataTypes.{every, of_type}
use Rattle.text.specs.Number.{number}
use Rattle.field.specs.Rules.{holds}
use Rattle.frame.specs.Frames.{part}
use Rattle.layout.specs.Layout.{Line, Layout, Sized, sized_parts}
use Rattle.layout.specs.Layouts.{layouts}
use Rattle.judge.specs.declared.Flaw.{Flaw}
use Rattle.judge.specs.declared.Flaw.TheVariants as flaws
use Rattle.frame.specs.Unless.{unless}

-- what is found of a record alone: nothing wrong, or a flaw
abbrev pub Judged : Type 0
Judged = Result ⊤ Flaw

pattern abbrev pub Sound : Judged
Sound = Ok tt

pattern abbrev pub WrongLength : Judged
WrongLength = Err flaws.Length

pattern abbrev pub UnknownType : Judged
UnknownType = Err flaws.UnknownType

pattern abbrev pub WrongField : ℕ → Judged
WrongField n = Err (flaws.Field n)

-- document 01's number of each answer, and its field
abbrev pub number_of : Judged → ℕ
number_of Sound = 0
number_of WrongLength = 4
number_of UnknownType = 5
number_of (WrongField n) = 7

abbrev pub field_of : Judged → ℕ
field_of Sound = 0
field_of WrongLength = 0
field_of UnknownType = 0
field_of (WrongField n) = n

-- the characters at the positions of a field, counted from 1
abbrev pub characters_of : Line → List ℕ → List ℕ
characters_of l body = part (l.first - 1) l.size body

unfoldable pub line_holds : CharacterSet → Line → List ℕ → Bool
line_holds set l body = holds set l.usage l.data_type l.rule (characters_of l body) body

-- "FIELD over fixed fields from the lowest number": the first that does not hold, or 0
unfoldable pub first_wrong : CharacterSet → List Line → List ℕ → ℕ
first_wrong set [] body = 0
first_wrong set (l ∷ ls) body = cond (line_holds set l body) (first_wrong set ls body) l.number

-- the size that a record states for one of its parts, and those of all of them together
abbrev pub stated_size : CharacterSet → Sized → List ℕ → ℕ
stated_size set s body = number set (part (s.first - 1) s.size body)

unfoldable pub stated_sizes : CharacterSet → List Sized → List ℕ → ℕ
stated_sizes set [] body = 0
stated_sizes set (s ∷ ss) body = stated_size set s body + stated_sizes set ss body

-- the parts stand one after the other in what follows the fixed part: the first that is not of its data type, or 0
unfoldable pub first_wrong_part : CharacterSet → List Sized → List ℕ → List ℕ → ℕ
first_wrong_part set [] body rest = 0
first_wrong_part set (s ∷ ss) body rest =
    cond (of_type set s.data_type (take (stated_size set s body) rest))
    (first_wrong_part set ss body (drop (stated_size set s body) rest))
    s.number

abbrev pub is_variable : List Sized → Bool
is_variable [] = false
is_variable (s ∷ ss) = true

abbrev pub unless_field : ℕ → Judged → Judged
unless_field n judged = unless (eqb n 0) (WrongField n) judged

-- The checks in document 01's order; the first that fails is the answer. LENGTH: "too short for the fixed part, or a fixed record
-- too long". FIELD over the fixed fields. LENGTH "if a variable record differs from its fixed part plus stated part lengths". FIELD
-- over the variable fields.
unfoldable pub judged : CharacterSet → ℕ → List Line → List Sized → List ℕ → Judged
judged set fixed_length lines parts body =
    unless (leb fixed_length (length body)) WrongLength
    (unless (is_variable parts || leb (length body) fixed_length) WrongLength
    (unless_field (first_wrong set lines body)
    (unless (eqb (length body) (fixed_length + stated_sizes set parts body)) WrongLength
    (unless_field (first_wrong_part set parts body (drop fixed_length body)) Sound))))

-- a record of a kind, alone, by its layout
abbrev pub alone : CharacterSet → Layout → List ℕ → Judged
alone set k body = judged set k.fixed_length k.lines (sized_parts k) body

-- the type that the first two characters name; 0, which is no type, where they are not two digits
unfoldable pub type_of : CharacterSet → List ℕ → ℕ
type_of set body = cond (leb 2 (length body) && every (is_numeric set) (take 2 body)) (number set (take 2 body)) 0

-- a record judged as one of the type that a number names
abbrev pub among_layouts : CharacterSet → List Layout → ℕ → List ℕ → Judged
among_layouts set [] n body = UnknownType
among_layouts set (k ∷ ks) n body = cond (eqb n k.type_number) (alone set k body) (among_layouts set ks n body)

unfoldable pub judged_as : CharacterSet → ℕ → List ℕ → Judged
judged_as set n body = among_layouts set layouts n body

-- the whole of it: LENGTH below 2, TYPE, and the checks of its kind
unfoldable pub judged_record : CharacterSet → List ℕ → Judged
judged_record set body = unless (leb 2 (length body)) WrongLength (judged_as set (type_of set body) body)
