-- A field of code page 037 and its translation are one: the same number, the same data type, the same answer from every rule. Assumes nothing.
use mathlib.Core.Path.{◌≡◌, refl, ap, sym, ◌∙◌}
use mathlib.Core.Bool.{Bool, true, false, ◌||◌}
use mathlib.Core.List.{List, [], ◌∷◌}
use Prim.Native.Nat.{ℕ, zero, suc, ◌+◌, ◌*◌}
use lib.ListN.{length, get_or, take, drop, length-map, get_or-map}
use Rattle.text.specs.declared.character_set.CharacterSet.{CharacterSet}
use Rattle.text.specs.declared.character_set.CharacterSet.TheVariants.{Ascii, Ebcdic}
use Rattle.text.specs.declared.data_types.DataType.{DataType}
use Rattle.text.specs.declared.data_types.DataType.TheVariants.{AB, A, AN, ANS, Binary, N, NB, NBD, NBQ, NBMc, NBMcd, NBMcdo, NBMU}
use Rattle.text.specs.Ranges.{within}
use Rattle.text.specs.Characters.{is_blank, is_numeric, is_dash}
use Rattle.text.specs.Capitals.{capital}
use Rattle.text.specs.DataTypes.{every, some, admits, is_mark, blank_after, of_type}
use Rattle.text.specs.Number.{digit, value_after, number}
use Rattle.field.specs.declared.Usage.{Usage}
use Rattle.field.specs.declared.Usage.TheVariants.{Mandatory, Conditional}
use Rattle.field.specs.declared.Forms.{Forms}
use Rattle.field.specs.declared.Rule.{Rule}
use Rattle.field.specs.declared.Rule.TheVariants.{DataTypeAlone, Numbers, AllDigits, OneOrTwoDigits, StandardLevel, CollectionType, BundleCollectionType, SourceOfWork, Code, Date, HoursMinutes, HoursMinutesSeconds, Routing, ClippingCoordinate}
use Rattle.field.specs.Values.{is_standard_level, is_collection_type, is_bundle_collection_type, is_source_of_work}
use Rattle.field.specs.Formats.{is_date, is_hours_minutes, is_hours_minutes_seconds}
use Rattle.field.specs.RoutingForms.{is_TTTTAAAAC, parted_by, is_NNNNNNNNN, fits_some}
use Rattle.field.specs.Rules.{digits_with, follows, meets, holds}
use Rattle.ascii_copy.specs.CodePage037.{counterpart}
use Rattle.ascii_copy.specs.AsciiCopy.{translated, copied_as}
use Rattle.ascii_copy.proofs.Characters.{blank-alike, numeric-alike, dash-alike, admits-alike, mark-alike, capital-alike, digit-alike, is_characters, admitted-has, and_left, and_right}

module _ (test other : ℕ → Bool) (h : (x : ℕ) → test (counterpart x) ≡ other x) where
  pub every-alike : (xs : List ℕ) → every test (translated xs) ≡ every other xs
  every-alike [] = refl
  every-alike (x ∷ xs) = rw (h x, every-alike xs)

  pub some_alike : (xs : List ℕ) → some test (translated xs) ≡ some other xs
  some_alike [] = refl
  some_alike (x ∷ xs) = rw (h x, some_alike xs)

pub length-translated : (xs : List ℕ) → length (translated xs) ≡ length xs
length-translated xs = length-map xs counterpart

pub take-translated : (n : ℕ) (xs : List ℕ) → take n (translated xs) ≡ translated (take n xs)
take-translated zero xs = refl
take-translated (suc n) [] = refl
take-translated (suc n) (x ∷ xs) = rw (take-translated n xs)

pub drop-translated : (n : ℕ) (xs : List ℕ) → drop n (translated xs) ≡ translated (drop n xs)
drop-translated zero xs = refl
drop-translated (suc n) [] = refl
drop-translated (suc n) (x ∷ xs) = drop-translated n xs

-- past the end both are the byte 00, which is no character
pub get_d-translated : (xs : List ℕ) (n : ℕ) → get_or (translated xs) n 0 ≡ counterpart (get_or xs n 0)
unfolding counterpart
get_d-translated xs n = get_or-map counterpart xs n 0

pub get_d-alike : (xs : List ℕ) (n : ℕ) → capital Ascii (get_or (translated xs) n 0) ≡ capital Ebcdic (get_or xs n 0)
get_d-alike xs n = rw (get_d-translated xs n) (capital-alike (get_or xs n 0))

pub place-alike : (xs : List ℕ) (n : ℕ) → digit Ascii (get_or (translated xs) n 0) ≡ digit Ebcdic (get_or xs n 0)
place-alike xs n = rw (get_d-translated xs n) (digit-alike (get_or xs n 0))

value-alike : (sum : ℕ) (xs : List ℕ) → value_after Ascii sum (translated xs) ≡ value_after Ebcdic sum xs
value-alike sum [] = refl
value-alike sum (x ∷ xs) =
    value-alike (sum * 10 + digit Ascii (counterpart x)) xs ∙ ap (λ (d : ℕ). value_after Ebcdic (sum * 10 + d) xs) (digit-alike x)

pub number-alike : (xs : List ℕ) → number Ascii (translated xs) ≡ number Ebcdic xs
unfolding number
number-alike xs = rw (take-translated 19 xs) (value-alike 0 (take 19 xs))

digits-alike : (xs : List ℕ) → every (is_numeric Ascii) (translated xs) ≡ every (is_numeric Ebcdic) xs
digits-alike = every-alike (is_numeric Ascii) (is_numeric Ebcdic) numeric-alike

digit-alike-in : (xs : List ℕ) → some (is_numeric Ascii) (translated xs) ≡ some (is_numeric Ebcdic) xs
digit-alike-in = some_alike (is_numeric Ascii) (is_numeric Ebcdic) numeric-alike

gaps-alike : (before : Bool) (xs : List ℕ) → blank_after Ascii before (translated xs) ≡ blank_after Ebcdic before xs
gaps-alike before [] = refl
gaps-alike before (x ∷ xs) = rw (blank-alike x, digit-alike-in xs, gaps-alike (before || is_numeric Ascii (counterpart x)) xs, numeric-alike x)

pub type-alike : (t : DataType) (xs : List ℕ) → of_type Ascii t (translated xs) ≡ of_type Ebcdic t xs
unfolding of_type
type-alike t xs = rw (every-alike (admits Ascii t) (admits Ebcdic t) (admits-alike t) xs, gaps-alike false xs)

-- any bytes are Binary
any-bytes : (set : CharacterSet) (xs : List ℕ) → of_type set Binary xs ≡ true
unfolding of_type
any-bytes set xs = rw (every_byte xs)
  where
    every_byte : (ys : List ℕ) → every (admits set Binary) ys ≡ true
    every_byte [] = refl
    every_byte (y ∷ ys) = every_byte ys

pub as-alike : (t : DataType) (xs : List ℕ) → of_type Ascii t (copied_as t xs) ≡ of_type Ebcdic t xs
as-alike AB xs = type-alike AB xs
as-alike A xs = type-alike A xs
as-alike AN xs = type-alike AN xs
as-alike ANS xs = type-alike ANS xs
as-alike Binary xs = any-bytes Ascii (copied_as Binary xs) ∙ sym (any-bytes Ebcdic xs)
as-alike N xs = type-alike N xs
as-alike NB xs = type-alike NB xs
as-alike NBD xs = type-alike NBD xs
as-alike NBQ xs = type-alike NBQ xs
as-alike NBMc xs = type-alike NBMc xs
as-alike NBMcd xs = type-alike NBMcd xs
as-alike NBMcdo xs = type-alike NBMcdo xs
as-alike NBMU xs = type-alike NBMU xs

number-with-alike : (test : ℕ → Bool) (part : List ℕ) → digits_with Ascii test (translated part) ≡ digits_with Ebcdic test part
number-with-alike test part = rw (digits-alike part, number-alike part)

ruleset fields = (length-translated, take-translated, drop-translated, digits-alike, digit-alike-in, number-alike, get_d-alike, place-alike, type-alike)

date-alike : (xs : List ℕ) → is_date Ascii (translated xs) ≡ is_date Ebcdic xs
unfolding is_date
date-alike xs = simp fields

minutes-alike : (xs : List ℕ) → is_hours_minutes Ascii (translated xs) ≡ is_hours_minutes Ebcdic xs
unfolding is_hours_minutes
minutes-alike xs = simp fields

seconds-alike : (xs : List ℕ) → is_hours_minutes_seconds Ascii (translated xs) ≡ is_hours_minutes_seconds Ebcdic xs
unfolding is_hours_minutes_seconds
seconds-alike xs = simp (fields, minutes-alike)

checked-alike : (xs : List ℕ) → is_TTTTAAAAC Ascii (translated xs) ≡ is_TTTTAAAAC Ebcdic xs
unfolding is_TTTTAAAAC
checked-alike xs = simp fields

parted-alike : (test other : ℕ → Bool) → ((x : ℕ) → test (counterpart x) ≡ other x) → (n : ℕ) (xs : List ℕ) → parted_by Ascii test n (translated xs) ≡ parted_by Ebcdic other n xs
unfolding parted_by
parted-alike test other h n xs = rw (get_d-translated xs n, h (get_or xs n 0)) (simp fields)

nines-alike : (xs : List ℕ) → is_NNNNNNNNN Ascii (translated xs) ≡ is_NNNNNNNNN Ebcdic xs
unfolding is_NNNNNNNNN
nines-alike xs = simp fields

forms-alike : (forms : Forms) (xs : List ℕ) → fits_some Ascii forms (translated xs) ≡ fits_some Ebcdic forms xs
unfolding fits_some
forms-alike forms xs =
    rw (
      checked-alike xs,
      parted-alike (is_dash Ascii) (is_dash Ebcdic) dash-alike 5 xs,
      parted-alike (is_dash Ascii) (is_dash Ebcdic) dash-alike 4 xs,
      parted-alike (is_blank Ascii) (is_blank Ebcdic) blank-alike 0 xs,
      nines-alike xs,
    )

-- A rule looks at its own field and, where it is that of a clipping coordinate, at the clipping origin.
abbrev pub OriginAlike : Rule → List ℕ → List ℕ → Type 0
OriginAlike rule body other = (origin : ℕ) → rule ≡ ClippingCoordinate origin → capital Ascii (get_or other origin 0) ≡ capital Ebcdic (get_or body origin 0)

pub follows-alike : (rule : Rule) (part body other : List ℕ) → OriginAlike rule body other → follows Ascii rule (translated part) other ≡ follows Ebcdic rule part body
unfolding follows
follows-alike DataTypeAlone part body other h = refl
follows-alike (Numbers low high) part body other h = number-with-alike (within low high) part
follows-alike AllDigits part body other h = digits-alike part
follows-alike OneOrTwoDigits part body other h = rw (every-alike (admits Ascii NB) (admits Ebcdic NB) (admits-alike NB) part, digit-alike-in part)
follows-alike StandardLevel part body other h = number-with-alike is_standard_level part
follows-alike CollectionType part body other h = number-with-alike is_collection_type part
follows-alike BundleCollectionType part body other h = number-with-alike is_bundle_collection_type part
follows-alike SourceOfWork part body other h = number-with-alike is_source_of_work part
follows-alike (Code list) part body other h = simp fields
follows-alike Date part body other h = date-alike part
follows-alike HoursMinutes part body other h = minutes-alike part
follows-alike HoursMinutesSeconds part body other h = seconds-alike part
follows-alike (Routing forms) part body other h = forms-alike forms part
follows-alike (ClippingCoordinate origin) part body other h = rw (h origin refl, digits-alike part, number-alike part)

module _ (t : DataType) (rule : Rule) (part body other : List ℕ) (h : OriginAlike rule body other) where
  meets-alike : meets Ascii t rule (translated part) other ≡ meets Ebcdic t rule part body
  unfolding meets
  meets-alike = rw (type-alike t part, follows-alike rule part body other h, some_alike (is_mark Ascii t) (is_mark Ebcdic t) (mark-alike t) part)

pub holds-alike : (usage : Usage) (t : DataType) (rule : Rule) (part body other : List ℕ) → OriginAlike rule body other
    → holds Ascii usage t rule (translated part) other ≡ holds Ebcdic usage t rule part body
unfolding holds
holds-alike Mandatory t rule part body other h = meets-alike t rule part body other h
holds-alike Conditional t rule part body other h =
    rw (every-alike (is_blank Ascii) (is_blank Ebcdic) blank-alike part, meets-alike t rule part body other h)

-- a field of characters that is right is made of the 95
every-other : (test other : ℕ → Bool) → ((x : ℕ) → test x ≡ true → other x ≡ true) → (xs : List ℕ) → every test xs ≡ true → every other xs ≡ true
every-other test other h [] e = refl
every-other test other h (x ∷ xs) e =
    rw (h x (and_left (test x) (every test xs) e)) (every-other test other h xs (and_right (test x) (every test xs) e))

module _ (t : DataType) (rule : Rule) (part body : List ℕ) (c : is_characters t ≡ true) where
  meets-characters : meets Ebcdic t rule part body ≡ true → every (admits Ebcdic ANS) part ≡ true
  unfolding meets of_type
  meets-characters e =
      every-other (admits Ebcdic t) (admits Ebcdic ANS) (λ x a. admitted-has t x c a) part
      (and_left (every (admits Ebcdic t) part) _ (and_left (of_type Ebcdic t part) _ e))

  blank-or-meets : (b : Bool) → every (is_blank Ebcdic) part ≡ b → b || meets Ebcdic t rule part body ≡ true → every (admits Ebcdic ANS) part ≡ true
  blank-or-meets true q e = every-other (is_blank Ebcdic) (admits Ebcdic ANS) (λ x a. admitted-has AB x refl a) part q
  blank-or-meets false q e = meets-characters e

pub holds-characters : (usage : Usage) (t : DataType) (rule : Rule) (part body : List ℕ) → is_characters t ≡ true
    → holds Ebcdic usage t rule part body ≡ true → every (admits Ebcdic ANS) part ≡ true
unfolding holds
holds-characters Mandatory t rule part body c e = meets-characters t rule part body c e
holds-characters Conditional t rule part body c e = blank-or-meets t rule part body c (every (is_blank Ebcdic) part) refl e
