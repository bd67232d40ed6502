-- How the code writes the layouts, as one table of numbers. A kind is one number of four parts, each two bytes, from the highest: its type, its
-- fixed length, how many fields it has, and how many of these are parts. The numbers of its fields follow. The bytes of a field's number are,
-- from the highest, the first position (two), the size, the usage (lowest bit) with the origin, the data type, the rule and the rule's two numbers.
-- Nothing of this has to be believed: that the table stands for the layouts of specs/Layouts.antt is proved (`Packed`, at the end).
use Rattle.std.specs.Prelude.{ℕ, zero, suc, ◌+◌, ◌-◌, ◌/◌, ◌%◌, Bool, true, cond, ◌&&◌, List, [], ◌∷◌, map, ◌≡◌, leb, eqb, length, take, drop}
use Rattle.text.specs.DataTypes.{every}
use Rattle.text.specs.declared.data_types.DataType.{DataType}
use Rattle.text.specs.declared.data_types.DataType.TheVariants.{AB, A, AN, ANS, Binary, N, NB, NBD, NBQ, NBMc, NBMcd, NBMcdo, NBMU}
use Rattle.field.specs.declared.Usage.{Usage}
use Rattle.field.specs.declared.Usage.TheVariants.{Mandatory, Conditional}
use Rattle.field.specs.declared.CodeList.TheVariants.{FileTypes, YesNo, YesNoUnknown, RecordTypeIndicators, CashLetterDocumentation, ItemDocumentation, ReturnAcceptance, ArchiveTypes, TestOverrides, AccountTypes}
use Rattle.field.specs.declared.Rule.{Rule}
use Rattle.field.specs.declared.Rule.TheVariants.{DataTypeAlone, Numbers, AllDigits, OneOrTwoDigits, StandardLevel, CollectionType, BundleCollectionType, SourceOfWork, Date, HoursMinutes, HoursMinutesSeconds, Routing, Code, ClippingCoordinate}
use Rattle.field.specs.declared.Forms.{Forms}
use Rattle.layout.specs.declared.packing.Origin.{Origin}
use Rattle.layout.specs.declared.packing.Origin.TheVariants.{Given, TypeNumber, PartSize, AddendumCount, RecordNumber, DebitCount, DebitCents, MicrCents, ViewCount, CreditCount, CreditCents, BundleCount, LetterCount, RecordCount, ItemCount}
use Rattle.layout.specs.Layout.{Line, Layout, Sized, sized_parts}
use Rattle.layout.specs.Layouts.{layouts}

abbrev pub usage_of : ℕ → Usage
usage_of code = cond (eqb code 0) Mandatory Conditional

abbrev pub origin_of : ℕ → Origin
origin_of code =
    cond (eqb code 1) TypeNumber
    (cond (eqb code 2) PartSize
    (cond (eqb code 3) AddendumCount
    (cond (eqb code 4) RecordNumber
    (cond (eqb code 5) DebitCount
    (cond (eqb code 6) DebitCents
    (cond (eqb code 7) MicrCents
    (cond (eqb code 8) ViewCount
    (cond (eqb code 9) CreditCount
    (cond (eqb code 10) CreditCents
    (cond (eqb code 11) BundleCount
    (cond (eqb code 12) LetterCount
    (cond (eqb code 13) RecordCount
    (cond (eqb code 14) ItemCount Given)))))))))))))

abbrev pub data_type_of : ℕ → DataType
data_type_of code =
    cond (eqb code 1) AB
    (cond (eqb code 2) A
    (cond (eqb code 3) AN
    (cond (eqb code 4) ANS
    (cond (eqb code 6) N
    (cond (eqb code 7) NB
    (cond (eqb code 8) NBD
    (cond (eqb code 9) NBQ
    (cond (eqb code 10) NBMc
    (cond (eqb code 11) NBMcd
    (cond (eqb code 12) NBMcdo
    (cond (eqb code 13) NBMU Binary)))))))))))

-- the forms of a routing number, each a bit
abbrev pub forms_in : ℕ → Forms
forms_in bits =
    record {
      checked = eqb (bits / 1 % 2) 1;
      canadian = eqb (bits / 2 % 2) 1;
      dashed = eqb (bits / 4 % 2) 1;
      blanked = eqb (bits / 8 % 2) 1;
      nonfinancial = eqb (bits / 16 % 2) 1;
    }

abbrev pub rule_of : ℕ → ℕ → ℕ → Rule
rule_of code low high =
    cond (eqb code 1) (Numbers low high)
    (cond (eqb code 2) AllDigits
    (cond (eqb code 3) OneOrTwoDigits
    (cond (eqb code 4) StandardLevel
    (cond (eqb code 5) CollectionType
    (cond (eqb code 6) BundleCollectionType
    (cond (eqb code 7) Date
    (cond (eqb code 8) HoursMinutes
    (cond (eqb code 9) HoursMinutesSeconds
    (cond (eqb code 10) (Routing (forms_in high))
    (cond (eqb code 11) (ClippingCoordinate (high - 1))
    (cond (eqb code 12) SourceOfWork
    (cond (eqb code 21) (Code FileTypes)
    (cond (eqb code 22) (Code YesNo)
    (cond (eqb code 23) (Code YesNoUnknown)
    (cond (eqb code 24) (Code RecordTypeIndicators)
    (cond (eqb code 25) (Code CashLetterDocumentation)
    (cond (eqb code 26) (Code ItemDocumentation)
    (cond (eqb code 27) (Code ReturnAcceptance)
    (cond (eqb code 28) (Code ArchiveTypes)
    (cond (eqb code 29) (Code TestOverrides)
    (cond (eqb code 30) (Code AccountTypes) DataTypeAlone)))))))))))))))))))))

-- the line that a number stands for, and those of a list, numbered from n on
abbrev pub line_of : ℕ → ℕ → Line
line_of n packed =
    record {
      number = n;
      usage = usage_of (packed / 0x1_0000_0000 % 2);
      origin = origin_of (packed / 0x2_0000_0000 % 0x80);
      first = packed / 0x1_0000_0000_0000;
      last = packed / 0x1_0000_0000_0000 + packed / 0x100_0000_0000 % 0x100 - 1;
      size = packed / 0x100_0000_0000 % 0x100;
      data_type = data_type_of (packed / 0x100_0000 % 0x100);
      rule = rule_of (packed / 0x1_0000 % 0x100) (packed / 0x100 % 0x100) (packed % 0x100);
    }

abbrev pub lines_from : ℕ → List ℕ → List Line
lines_from n [] = []
lines_from n (p ∷ ps) = line_of n p ∷ lines_from (n + 1) ps

-- a line that lies within the first so many positions
abbrev pub lies_within : ℕ → ℕ → Bool
lies_within length packed = leb (packed / 0x1_0000_0000_0000 - 1 + packed / 0x100_0000_0000 % 0x100) length

-- the same of a part: the position and size of the field that states its size, and its data type
abbrev pub sized_of : ℕ → ℕ → Sized
sized_of n packed =
    record {
      number = n;
      first = packed / 0x1_0000_0000_0000;
      size = packed / 0x100_0000_0000 % 0x100;
      data_type = data_type_of (packed / 0x100_0000 % 0x100);
    }

abbrev pub sized_from : ℕ → List ℕ → List Sized
sized_from n [] = []
sized_from n (p ∷ ps) = sized_of n p ∷ sized_from (n + 1) ps

-- a kind's number
abbrev pub type_in : ℕ → ℕ
type_in header = header / 0x1_0000_0000_0000

abbrev pub long_in : ℕ → ℕ
long_in header = header / 0x1_0000_0000 % 0x1_0000

abbrev pub fields_in : ℕ → ℕ
fields_in header = header / 0x1_0000 % 0x1_0000

abbrev pub parts_in : ℕ → ℕ
parts_in header = header % 0x1_0000

abbrev pub lines_in : ℕ → ℕ
lines_in header = fields_in header - parts_in header

-- what the judge of a record looks at of its layout
pub record Block : Type 0 where
  pub type_number : ℕ
  pub fixed_length : ℕ
  pub field_count : ℕ
  pub lines : List Line
  pub parts : List Sized

abbrev pub block_of : Layout → Block
block_of k =
    record {
      type_number = k.type_number;
      fixed_length = k.fixed_length;
      field_count = k.field_count;
      lines = k.lines;
      parts = sized_parts k;
    }

-- the block that a kind's number and the numbers behind it stand for, and all of them
abbrev pub block_in : ℕ → List ℕ → Block
block_in header rest =
    record {
      type_number = type_in header;
      fixed_length = long_in header;
      field_count = fields_in header;
      lines = lines_from 1 (take (lines_in header) rest);
      parts = sized_from (lines_in header + 1) (take (parts_in header) (drop (lines_in header) rest));
    }

unfoldable pub blocks_in : ℕ → List ℕ → List Block
blocks_in zero numbers = []
blocks_in (suc n) [] = []
blocks_in (suc n) (header ∷ rest) = block_in header rest ∷ blocks_in n (drop (fields_in header) rest)

-- the numbers of the fields are there, and the lines lie within the fixed part
abbrev pub is_whole : List ℕ → Bool
is_whole [] = true
is_whole (header ∷ rest) =
    leb (fields_in header) (length rest)
    && (leb (parts_in header) (fields_in header) && every (lies_within (long_in header)) (take (lines_in header) rest))

unfoldable pub are_whole : ℕ → List ℕ → Bool
are_whole zero numbers = is_whole numbers
are_whole (suc n) [] = true
are_whole (suc n) (header ∷ rest) = is_whole (header ∷ rest) && are_whole n (drop (fields_in header) rest)

-- the numbers from the first kind of a type on
unfoldable pub own_in : ℕ → ℕ → List ℕ → List ℕ
own_in t zero numbers = []
own_in t (suc n) [] = []
own_in t (suc n) (header ∷ rest) = cond (eqb t (type_in header)) (header ∷ rest) (own_in t n (drop (fields_in header) rest))

-- numbers that stand for the layouts
pub record Packed (numbers : List ℕ) : Type 0 where
  pub means : blocks_in (length numbers) numbers ≡ map block_of layouts
  pub whole : are_whole (length numbers) numbers ≡ true
