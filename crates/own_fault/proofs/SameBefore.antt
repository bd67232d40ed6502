-- The figures of records, and whether one agrees with those before it, hang on the records' own bytes alone. Assumes nothing.
use Prim.Native.Nat.{ℕ}
use mathlib.Core.Path.{◌≡◌, refl, ap, ap₂}
use mathlib.Core.List.{List}
use lib.ListN.{take, drop, get_or}
use Rattle.text.specs.declared.character_set.CharacterSet.{CharacterSet}
use Rattle.text.specs.Characters.{is_blank}
use Rattle.text.specs.Capitals.{capital}
use Rattle.text.specs.DataTypes.{every}
use Rattle.text.specs.Number.{number}
use Rattle.standing.specs.History.{Entry}
use Rattle.standing.specs.Standing.{standing}
use Rattle.agree.specs.Links.{same}
use Rattle.passes.specs.CheckOrder.{agreement}
use Rattle.ascii_copy.proofs.SoundCharacters.{width_of}
use Rattle.alike.proofs.Alike.{Law, AlikeAt, AlikePast}
use Rattle.alike.proofs.Figures.{standing-alike}
use Rattle.alike.proofs.Agreement.{agreement-alike}

-- bytes that are alike because they are the same
abbrev pub Same : List ℕ → List ℕ → Type 0
Same xs ys = ys ≡ xs

-- a record's first bytes: `same` says that they are those of the file
abbrev pub SameAt : List ℕ → List ℕ → ℕ → ℕ → Type 0
SameAt file other offset width = AlikeAt Same file other offset offset width

-- every record read so far
abbrev pub SamePast : List ℕ → List ℕ → List Entry → Type 0
SamePast file other past = AlikePast Same file other past

pub law : (set : CharacterSet) → Law set set Same
law set = record {
  part = λ k size e. ap (λ (l : List ℕ). take size (drop k l)) e;
  nothing = refl;
  numbers = λ e. ap (number set) e;
  blanks = λ e. ap (every (is_blank set)) e;
  capitals = λ e. ap (λ (l : List ℕ). capital set (get_or l 0 0)) e;
  compared = λ e f. ap₂ same e f;
}

module _ (set : CharacterSet) (file other : List ℕ) (past : List Entry) where
  pub standing-same : SamePast file other past → standing set other past ≡ standing set file past
  standing-same a = standing-alike (law set) file other past a

  pub agreement-same : (at t : ℕ) → SamePast file other past → SameAt file other at (width_of t) → (t ≡ 52 → SameAt file other 0 80)
      → agreement set other (standing set file past) at t ≡ agreement set file (standing set file past) at t
  agreement-same at t a own first = agreement-alike (law set) file other past at t a own first
