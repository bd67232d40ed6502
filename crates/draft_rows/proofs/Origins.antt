-- What is left of the origins where a match has named some of them, each by its place in the enum. Assumes nothing.
use mathlib.Core.Path.{◌≡◌, refl}
use mathlib.Core.Bool.{false}
use mathlib.Core.List.{List, [], ◌∷◌}
use Prim.Native.Nat.{ℕ}
use types.Run.{OneOf, miss}
use denote.Enum.Declared.{tag_of}
use Rattle.layout.specs.contracts.packing.Origin.{the_type}
use Rattle.layout.specs.declared.packing.Origin.{Origin}
use Rattle.layout.specs.declared.packing.Origin.TheVariants.{Given, TypeNumber, PartSize, AddendumCount, RecordNumber, DebitCount, DebitCents, MicrCents, ViewCount, CreditCount, CreditCents, BundleCount, LetterCount, RecordCount, ItemCount}
use Rattle.draft.specs.Values.{Values, is_given}
use Rattle.draft.specs.Completed.{own_statement, leaves_blank}

abbrev not_given : List ℕ
not_given = 1 ∷ 2 ∷ 3 ∷ 4 ∷ 5 ∷ 6 ∷ 7 ∷ 8 ∷ 9 ∷ 10 ∷ 11 ∷ 12 ∷ 13 ∷ 14 ∷ []

abbrev not_micr : List ℕ
not_micr = 0 ∷ 1 ∷ 2 ∷ 3 ∷ 4 ∷ 5 ∷ 6 ∷ 8 ∷ 9 ∷ 10 ∷ 11 ∷ 12 ∷ 13 ∷ 14 ∷ []

abbrev not_own : List ℕ
not_own = 0 ∷ 4 ∷ 5 ∷ 6 ∷ 7 ∷ 8 ∷ 9 ∷ 10 ∷ 11 ∷ 12 ∷ 13 ∷ 14 ∷ []

-- a field of such an origin is not given, is never left blank, and states nothing that its own record says
pub record Others (o : Origin) : Type 0 where
  pub given : OneOf not_given (tag_of the_type o) → false ≡ is_given o
  pub blank : OneOf not_micr (tag_of the_type o) → (v : Values) → false ≡ leaves_blank v o
  pub nothing : OneOf not_own (tag_of the_type o) → (v : Values) (addenda first : ℕ) → 0 ≡ own_statement v addenda first o

pub others : (o : Origin) → Others o
others Given = record { given = λ h. absurd (miss not_given 0 tt h); blank = λ h v. refl; nothing = λ h v addenda first. refl }
others TypeNumber = record { given = λ h. refl; blank = λ h v. refl; nothing = λ h. absurd (miss not_own 1 tt h) }
others PartSize = record { given = λ h. refl; blank = λ h v. refl; nothing = λ h. absurd (miss not_own 2 tt h) }
others AddendumCount = record { given = λ h. refl; blank = λ h v. refl; nothing = λ h. absurd (miss not_own 3 tt h) }
others RecordNumber = record { given = λ h. refl; blank = λ h v. refl; nothing = λ h v addenda first. refl }
others DebitCount = record { given = λ h. refl; blank = λ h v. refl; nothing = λ h v addenda first. refl }
others DebitCents = record { given = λ h. refl; blank = λ h v. refl; nothing = λ h v addenda first. refl }
others MicrCents = record { given = λ h. refl; blank = λ h. absurd (miss not_micr 7 tt h); nothing = λ h v addenda first. refl }
others ViewCount = record { given = λ h. refl; blank = λ h v. refl; nothing = λ h v addenda first. refl }
others CreditCount = record { given = λ h. refl; blank = λ h v. refl; nothing = λ h v addenda first. refl }
others CreditCents = record { given = λ h. refl; blank = λ h v. refl; nothing = λ h v addenda first. refl }
others BundleCount = record { given = λ h. refl; blank = λ h v. refl; nothing = λ h v addenda first. refl }
others LetterCount = record { given = λ h. refl; blank = λ h v. refl; nothing = λ h v addenda first. refl }
others RecordCount = record { given = λ h. refl; blank = λ h v. refl; nothing = λ h v addenda first. refl }
others ItemCount = record { given = λ h. refl; blank = λ h v. refl; nothing = λ h v addenda first. refl }
