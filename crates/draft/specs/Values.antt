-- What a draft gives: its values (request 4, readings 41, 42 and 46).
use Rattle.std.specs.Prelude.{ℕ, zero, suc, ◌+◌, ◌-◌, ◌/◌, Bool, true, false, ◌&&◌, ◌||◌, cond, List, [], ◌∷◌, map, leb, eqb, length, get_or, take, drop}
use Rattle.text.specs.declared.character_set.CharacterSet.{CharacterSet}
use Rattle.text.specs.declared.character_set.CharacterSet.TheVariants.{Ascii, Ebcdic}
use Rattle.text.specs.declared.data_types.DataType.{DataType}
use Rattle.text.specs.declared.data_types.DataType.TheVariants.{N}
use Rattle.text.specs.Characters.{is_blank}
use Rattle.text.specs.DataTypes.{every}
use Rattle.frame.specs.Frames.{part}
use Rattle.layout.specs.declared.packing.Origin.{Origin}
use Rattle.layout.specs.declared.packing.Origin.TheVariants.{Given, TypeNumber, PartSize, AddendumCount, RecordNumber, DebitCount, DebitCents, MicrCents, ViewCount, CreditCount, CreditCents, BundleCount, LetterCount, RecordCount, ItemCount}
use Rattle.layout.specs.Layout.{Line, Layout, Sized, sized_parts, layout, line, M, none}
use Rattle.layout.specs.Layouts.{layouts, bundle_control}
use Rattle.judge.specs.Alone.{type_of, stated_size}
use Rattle.ascii_copy.specs.AsciiCopy.{copied_as}
use Rattle.file_as_records.specs.Framed.{Body, field_of}
use Rattle.arrangement.specs.Tree.{File}
use Rattle.arrangement.specs.Written.{records}

-- what is given, and what is worked out (reading 42): the layouts say it field by field
abbrev pub is_given : Origin → Bool
is_given Given = true
is_given TypeNumber = false
is_given PartSize = false
is_given AddendumCount = false
is_given RecordNumber = false
is_given DebitCount = false
is_given DebitCents = false
is_given MicrCents = false
is_given ViewCount = false
is_given CreditCount = false
is_given CreditCents = false
is_given BundleCount = false
is_given LetterCount = false
is_given RecordCount = false
is_given ItemCount = false

-- the layout of a type; of one that is not carried, field 1 is all that is known
abbrev pub unknown_record : Layout
unknown_record = layout 0 2 1 (line 1 M TypeNumber 1 2 2 N none ∷ []) []

abbrev pub layout_among : List Layout → ℕ → Layout
layout_among [] t = unknown_record
layout_among (k ∷ ks) t = cond (eqb t k.type_number) k (layout_among ks t)

unfoldable pub layout_of : ℕ → Layout
layout_of t = layout_among layouts t

-- a field or a part that is given: its characters, or, where they do not all lie in the text, how many they would be
pub data Piece : Type 0 where
  here : List ℕ → Piece
  missing : ℕ → Piece

-- "Values are characters as the set reads them. ASCII is written" (reading 46)
abbrev pub in_ascii : CharacterSet → DataType → List ℕ → List ℕ
in_ascii Ascii t xs = xs
in_ascii Ebcdic t xs = copied_as t xs

-- "A part of size 0 ... may lie outside the text" (reading 43)
abbrev pub piece : CharacterSet → List ℕ → DataType → ℕ → ℕ → Piece
piece set text t start size = cond (eqb size 0 || leb (start + size) (length text)) (here (in_ascii set t (part start size text))) (missing size)

-- the fields of a record whose fixed part begins at a start
abbrev pub fields_given : CharacterSet → List ℕ → ℕ → List Line → List Piece
fields_given set text start [] = []
fields_given set text start (l ∷ ls) =
    cond (is_given l.origin) (piece set text l.data_type (start + (l.first - 1)) l.size ∷ fields_given set text start ls)
    (fields_given set text start ls)

-- its parts, of given sizes, one after the other
abbrev pub parts_given : CharacterSet → List ℕ → ℕ → List Sized → List ℕ → List Piece
parts_given set text at [] sizes = []
parts_given set text at (s ∷ ss) sizes =
    piece set text s.data_type at (get_or sizes 0 0) ∷ parts_given set text (at + get_or sizes 0 0) ss (drop 1 sizes)

-- the values of a record: its type; whether a blank MICR total is asked for; its given fields and its parts, in their order
pub record Values : Type 0 where
  pub type : ℕ
  pub blank : Bool
  pub fields : List Piece
  pub parts : List Piece

unfoldable pub values_at : CharacterSet → List ℕ → ℕ → Bool → ℕ → List ℕ → Values
values_at set text t blank start sizes =
    record {
      type = t;
      blank = eqb t 70 && blank;
      fields = fields_given set text start (layout_of t).lines;
      parts = parts_given set text (start + (layout_of t).fixed_length) (sized_parts (layout_of t)) sizes;
    }

-- A draft (reading 41): rows of ten numbers, one for each record in the order of the file: [0] the type; [1] where the record's fixed part begins in the
-- text; [2] 1 asks for a blank MICR total; [3] to [9] the sizes of its parts. The numbers are those from the row on.
unfoldable pub values_of_row : CharacterSet → List ℕ → List ℕ → Values
values_of_row set text numbers = values_at set text (get_or numbers 0 0) (eqb (get_or numbers 2 0) 1) (get_or numbers 1 0) (take 7 (drop 3 numbers))

unfoldable pub values_of_rows : CharacterSet → List ℕ → ℕ → List ℕ → List Values
values_of_rows set text zero numbers = []
values_of_rows set text (suc n) numbers = values_of_row set text numbers ∷ values_of_rows set text n (drop 10 numbers)

-- the set of a text is told by the two bytes where the first row's fixed part begins (reading 46)
unfoldable pub set_of_text : List ℕ → List ℕ → CharacterSet
set_of_text text draft = cond (eqb (get_or text (get_or draft 1 0) 0) 0xF0 && eqb (get_or text (get_or draft 1 0 + 1) 0) 0xF1) Ebcdic Ascii

-- "Numbers after the last whole row are not looked at"
unfoldable pub values_of_draft : List ℕ → List ℕ → List Values
values_of_draft text draft = values_of_rows (set_of_text text draft) text (length draft / 10) draft

-- the values of a record of a file, and those of an arrangement
unfoldable pub values_of_body : CharacterSet → Body → Values
values_of_body set b =
    values_at set b (type_of set b) (every (is_blank set) (field_of bundle_control 4 b)) 0
    (map (λ (s : Sized). stated_size set s b) (sized_parts (layout_of (type_of set b))))

unfoldable pub values_of : CharacterSet → File → List Values
values_of set x = map (values_of_body set) (records x)
