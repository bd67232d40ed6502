-- A record made out of its values: what is worked out is filled in (request 4, readings 42 and 43).
use Rattle.std.specs.Prelude.{ℕ, ◌+◌, min, Bool, true, false, ◌&&◌, cond, List, [], ◌∷◌, ◌++◌, eqb, length, drop}
use Rattle.text.specs.Ranges.{within}
use Rattle.text.specs.DataTypes.{of_type}
use Rattle.text.specs.declared.character_set.CharacterSet.TheVariants.{Ascii}
use Rattle.decimal.specs.Digits.{digits, fits}
use Rattle.copying.specs.Times.{times}
use Rattle.layout.specs.declared.packing.Origin.{Origin}
use Rattle.layout.specs.declared.packing.Origin.TheVariants.{Given, TypeNumber, PartSize, AddendumCount, RecordNumber, DebitCount, DebitCents, MicrCents, ViewCount, CreditCount, CreditCents, BundleCount, LetterCount, RecordCount, ItemCount}
use Rattle.layout.specs.Layout.{Line, Layout, Sized, sized_parts}
use Rattle.measure.specs.declared.Sums.{Sums}
use Rattle.standing.specs.History.{is_bofd_addendum}
use Rattle.standing.specs.Standing.{capped_figures}
use Rattle.standing.specs.declared.Standing.{Standing}
use Rattle.file_as_records.specs.Framed.{Body}
use Rattle.draft.specs.Values.{Piece, here, missing, Values, is_given, layout_of}

-- "an item's addenda are the run of rows right behind it whose types are addenda of its kind: 26 to 28 of a 25, 32 to 35 of a 31"
abbrev pub is_own_addendum : ℕ → ℕ → Bool
is_own_addendum item t = cond (eqb item 25) (within 26 28 t) (eqb item 31 && within 32 35 t)

unfoldable pub addenda_behind : ℕ → List Values → ℕ
addenda_behind item [] = 0
addenda_behind item (v ∷ vs) = cond (is_own_addendum item v.type) (1 + addenda_behind item vs) 0

-- the next piece of several
abbrev pub next : List Piece → Piece
next [] = missing 0
next (p ∷ ps) = p

abbrev pub size_of : Piece → ℕ
size_of (here xs) = length xs
size_of (missing n) = n

abbrev pub is_here : Piece → Bool
is_here (here xs) = true
is_here (missing n) = false

-- what is missing is filled with 00, and never written
abbrev pub characters_of : Piece → List ℕ
characters_of (here xs) = xs
characters_of (missing n) = times n 0

-- the size of the part whose size stands at a position
abbrev pub part_sized_at : ℕ → List Sized → List Piece → ℕ
part_sized_at first [] ps = 0
part_sized_at first (s ∷ ss) ps = cond (eqb s.first first) (size_of (next ps)) (part_sized_at first ss (drop 1 ps))

-- the sums of the bundle that a 70 closes, of the cash letter that a 90 closes, of the file
abbrev pub sums_for : ℕ → Standing → Sums
sums_for t s = cond (eqb t 70) s.bundle (cond (eqb t 90) s.letter s.whole)

-- What a field states that is worked out from its own record and the addenda behind it; 0 of any other.
abbrev pub own_statement : Values → ℕ → ℕ → Origin → ℕ
own_statement v addenda first Given = 0
own_statement v addenda first TypeNumber = v.type
own_statement v addenda first PartSize = part_sized_at first (sized_parts (layout_of v.type)) v.parts
own_statement v addenda first AddendumCount = addenda
own_statement v addenda first RecordNumber = 0
own_statement v addenda first DebitCount = 0
own_statement v addenda first DebitCents = 0
own_statement v addenda first MicrCents = 0
own_statement v addenda first ViewCount = 0
own_statement v addenda first CreditCount = 0
own_statement v addenda first CreditCents = 0
own_statement v addenda first BundleCount = 0
own_statement v addenda first LetterCount = 0
own_statement v addenda first RecordCount = 0
own_statement v addenda first ItemCount = 0

-- What a field states that is worked out, of a record with so many addenda behind it, where s stands before it: what agree/specs compares.
abbrev pub statement : Values → ℕ → Standing → ℕ → Origin → ℕ
statement v addenda s first Given = 0
statement v addenda s first TypeNumber = own_statement v addenda first TypeNumber
statement v addenda s first PartSize = own_statement v addenda first PartSize
statement v addenda s first AddendumCount = own_statement v addenda first AddendumCount
statement v addenda s first RecordNumber = cond (is_bofd_addendum v.type) s.bofd s.endorser + 1
statement v addenda s first DebitCount = (sums_for v.type s).debits.0
statement v addenda s first DebitCents = (sums_for v.type s).debit.0
statement v addenda s first MicrCents = s.micr.0
statement v addenda s first ViewCount = (sums_for v.type s).views.0
statement v addenda s first CreditCount = (sums_for v.type s).credits.0
statement v addenda s first CreditCents = (sums_for v.type s).credit.0
statement v addenda s first BundleCount = s.opened
statement v addenda s first LetterCount = s.letters
statement v addenda s first RecordCount = s.records.0 + 1
statement v addenda s first ItemCount = s.items.0

-- "a flag asks for a blank MICR total"
abbrev pub leaves_blank : Values → Origin → Bool
leaves_blank v Given = false
leaves_blank v TypeNumber = false
leaves_blank v PartSize = false
leaves_blank v AddendumCount = false
leaves_blank v RecordNumber = false
leaves_blank v DebitCount = false
leaves_blank v DebitCents = false
leaves_blank v MicrCents = v.blank
leaves_blank v ViewCount = false
leaves_blank v CreditCount = false
leaves_blank v CreditCents = false
leaves_blank v BundleCount = false
leaves_blank v LetterCount = false
leaves_blank v RecordCount = false
leaves_blank v ItemCount = false

abbrev pub worked_out : Values → ℕ → Standing → Line → List ℕ
worked_out v addenda s l =
    cond (leaves_blank v l.origin) (times l.size 0x20) (digits l.size (statement v addenda s l.first l.origin))

-- the fixed part, line by line; the pieces are those of the given fields among the lines
unfoldable pub fixed_part : Values → ℕ → Standing → List Line → List Piece → List ℕ
fixed_part v addenda s [] ps = []
fixed_part v addenda s (l ∷ ls) ps =
    cond (is_given l.origin) (characters_of (next ps) ++ fixed_part v addenda s ls (drop 1 ps)) (worked_out v addenda s l ++ fixed_part v addenda s ls ps)

unfoldable pub all_parts : List Piece → List ℕ
all_parts [] = []
all_parts (p ∷ ps) = characters_of p ++ all_parts ps

unfoldable pub all_sizes : List Piece → ℕ
all_sizes [] = 0
all_sizes (p ∷ ps) = size_of p + all_sizes ps

-- The whole record. A sum that no control field can state stands as its last digits would stand were it the first such number
-- (measure/specs): it is faulted at TOTAL, and nothing of it is written.
unfoldable pub completed : Values → ℕ → Standing → Body
completed v addenda s = fixed_part v addenda (capped_figures s) (layout_of v.type).lines v.fields ++ all_parts v.parts

-- The lowest field whose characters do not all lie in the text, or that is outgrown: a length field by its part, 25.12 or 31.8 where
-- more addenda follow than it can state (reading 43); 0 where there is none.
unfoldable pub first_unfit : Values → ℕ → List Line → List Piece → ℕ
first_unfit v addenda [] ps = 0
first_unfit v addenda (l ∷ ls) ps =
    cond (is_given l.origin) (cond (is_here (next ps)) (first_unfit v addenda ls (drop 1 ps)) l.number)
    (cond (fits l.size (own_statement v addenda l.first l.origin)) (first_unfit v addenda ls ps) l.number)

-- the first part that does not lie in the text or is not of its data type
unfoldable pub first_unfit_part : List Sized → List Piece → ℕ
first_unfit_part [] ps = 0
first_unfit_part (s ∷ ss) ps =
    cond (is_here (next ps) && of_type Ascii s.data_type (characters_of (next ps))) (first_unfit_part ss (drop 1 ps)) s.number

-- the lower of two fields, where 0 is none
abbrev pub lower : ℕ → ℕ → ℕ
lower m n = cond (eqb m 0) n (cond (eqb n 0) m (min m n))
