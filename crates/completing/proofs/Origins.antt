-- What is left of the data types, and of the origins, where a match has named some of them, each by its place in the enum. Assumes nothing.
use mathlib.Core.Path.{◌≡◌, refl, ap, sym, ◌∙◌}
use mathlib.Core.List.{List, [], ◌∷◌}
use Prim.Native.Nat.{ℕ}
use lib.ListN.{get_or}
use types.Run.{OneOf, miss}
use denote.Enum.Declared.{tag_of}
use Rattle.text.specs.contracts.data_types.DataType as data-types
use Rattle.text.specs.declared.character_set.CharacterSet.{CharacterSet}
use Rattle.text.specs.declared.data_types.DataType.{DataType}
use Rattle.text.specs.declared.data_types.DataType.TheVariants.{AB, A, AN, ANS, Binary, N, NB, NBD, NBQ, NBMc, NBMcd, NBMcdo, NBMU}
use Rattle.layout.specs.contracts.packing.Origin.{the_type}
use Rattle.layout.specs.declared.packing.Origin.{Origin}
use Rattle.layout.specs.declared.packing.Origin.TheVariants.{Given, TypeNumber, PartSize, AddendumCount, RecordNumber, DebitCount, DebitCents, MicrCents, ViewCount, CreditCount, CreditCents, BundleCount, LetterCount, RecordCount, ItemCount}
use Rattle.measure.specs.declared.Sums.{Sums}
use Rattle.standing.specs.declared.Standing.{Standing}
use Rattle.ascii_copy.specs.AsciiCopy.{copied_as, translated}
use Rattle.draft.specs.Values.{Values, values_of_row}
use Rattle.draft.specs.Completed.{sums_for, own_statement, statement}
use Rattle.draft_rows.proofs.Rows.{row_type}

-- any but Binary is translated
abbrev not_binary : List ℕ
not_binary = 0 ∷ 1 ∷ 2 ∷ 3 ∷ 5 ∷ 6 ∷ 7 ∷ 8 ∷ 9 ∷ 10 ∷ 11 ∷ 12 ∷ []

pub in-characters : (t : DataType) → OneOf not_binary (tag_of data-types.the_type t) → (xs : List ℕ) → copied_as t xs ≡ translated xs
in-characters AB h xs = refl
in-characters A h xs = refl
in-characters AN h xs = refl
in-characters ANS h xs = refl
in-characters Binary h xs = absurd (miss not_binary 4 tt h)
in-characters N h xs = refl
in-characters NB h xs = refl
in-characters NBD h xs = refl
in-characters NBQ h xs = refl
in-characters NBMc h xs = refl
in-characters NBMcd h xs = refl
in-characters NBMcdo h xs = refl
in-characters NBMU h xs = refl

-- the others are worked out from what stands before the record too
abbrev alone : List ℕ
alone = 0 ∷ 1 ∷ 2 ∷ 3 ∷ []

module _ (v : Values) (addenda : ℕ) (s : Standing) (first : ℕ) where
  pub stated-alone : (o : Origin) → OneOf alone (tag_of the_type o) → own_statement v addenda first o ≡ statement v addenda s first o
  stated-alone Given h = refl
  stated-alone TypeNumber h = refl
  stated-alone PartSize h = refl
  stated-alone AddendumCount h = refl
  stated-alone RecordNumber h = absurd (miss alone 4 tt h)
  stated-alone DebitCount h = absurd (miss alone 5 tt h)
  stated-alone DebitCents h = absurd (miss alone 6 tt h)
  stated-alone MicrCents h = absurd (miss alone 7 tt h)
  stated-alone ViewCount h = absurd (miss alone 8 tt h)
  stated-alone CreditCount h = absurd (miss alone 9 tt h)
  stated-alone CreditCents h = absurd (miss alone 10 tt h)
  stated-alone BundleCount h = absurd (miss alone 11 tt h)
  stated-alone LetterCount h = absurd (miss alone 12 tt h)
  stated-alone RecordCount h = absurd (miss alone 13 tt h)
  stated-alone ItemCount h = absurd (miss alone 14 tt h)

-- the sums that a row's type asks for
pub sums-of-row : (set : CharacterSet) (text rows : List ℕ) (s : Standing) (x : Sums) → x ≡ sums_for (get_or rows 0 0) s → x ≡ sums_for (values_of_row set text rows).type s
sums-of-row set text rows s x e = e ∙ ap (λ (t : ℕ). sums_for t s) (row_type set text rows)

-- what a field states, by its origin
module _ (set : CharacterSet) (text rows : List ℕ) (addenda : ℕ) (s : Standing) (first : ℕ) {o o' : Origin} (is : o ≡ o') where
  pub stated : (n : ℕ) → n ≡ statement (values_of_row set text rows) addenda s first o' → n ≡ statement (values_of_row set text rows) addenda s first o
  stated n e = e ∙ ap (statement (values_of_row set text rows) addenda s first) (sym is)
