-- A record that stands in a file and in its ASCII copy alike: its figures, and whether it agrees with those before it. Assumes nothing.
use Prim.Native.Nat.{ℕ, zero, suc}
use mathlib.Core.Path.{◌≡◌, refl, ap, ap₂, ◌∙◌}
use mathlib.Core.Bool.{Bool, true}
use mathlib.Core.List.{List, [], ◌∷◌}
use lib.ListN.{take, drop, get_or}
use Rattle.text.specs.declared.character_set.CharacterSet.TheVariants.{Ascii, Ebcdic}
use Rattle.text.specs.declared.data_types.DataType.TheVariants.{ANS}
use Rattle.text.specs.Characters.{is_blank}
use Rattle.text.specs.Capitals.{capital}
use Rattle.text.specs.DataTypes.{every, admits}
use Rattle.text.specs.Number.{number}
use Rattle.standing.specs.History.{Entry}
use Rattle.standing.specs.Standing.{standing}
use Rattle.standing.specs.declared.Standing.{Standing}
use Rattle.agree.specs.Links.{same}
use Rattle.passes.specs.CheckOrder.{agreement}
use Rattle.passes.specs.Rows.{row_of}
use Rattle.ascii_copy.specs.AsciiCopy.{translated}
use Rattle.ascii_copy.proofs.Characters.{blank-alike, and_left, and_right}
use Rattle.ascii_copy.proofs.Fields.{every-alike, take-translated, drop-translated, get_d-alike, number-alike}
use Rattle.ascii_copy.proofs.SoundCharacters.{width_of}
use Rattle.alike.proofs.Alike.{Law}
use Rattle.read_as_copy.proofs.SameBytes.{same_alike}
use Rattle.alike.proofs.Alike as alike
use Rattle.alike.proofs.Figures as figures
use Rattle.alike.proofs.Agreement as agreements

-- characters of the file, each of which has a counterpart, and those of its copy
pub record Copied (xs ys : List ℕ) : Type 0 where
  pub same : ys ≡ translated xs
  pub characters : every (admits Ebcdic ANS) xs ≡ true

-- a record's first characters
abbrev pub AlikeAt : List ℕ → List ℕ → ℕ → ℕ → Type 0
AlikeAt file copy offset width = alike.AlikeAt Copied file copy offset offset width

-- every record read so far
abbrev pub AlikePast : List ℕ → List ℕ → List Entry → Type 0
AlikePast file copy past = alike.AlikePast Copied file copy past

every_take : (test : ℕ → Bool) (n : ℕ) (xs : List ℕ) → every test xs ≡ true → every test (take n xs) ≡ true
every_take test zero xs e = refl
every_take test (suc n) [] e = refl
every_take test (suc n) (x ∷ xs) e = rw (and_left (test x) (every test xs) e) (every_take test n xs (and_right (test x) (every test xs) e))

every_drop : (test : ℕ → Bool) (n : ℕ) (xs : List ℕ) → every test xs ≡ true → every test (drop n xs) ≡ true
every_drop test zero xs e = e
every_drop test (suc n) [] e = refl
every_drop test (suc n) (x ∷ xs) e = every_drop test n xs (and_right (test x) (every test xs) e)

part-copied : (k size : ℕ) {xs ys : List ℕ} → Copied xs ys → Copied (take size (drop k xs)) (take size (drop k ys))
part-copied k size {xs} c = record {
  same = rw (c.same, drop-translated k xs, take-translated size (drop k xs));
  characters = every_take (admits Ebcdic ANS) size (drop k xs) (every_drop (admits Ebcdic ANS) k xs c.characters);
}

blanks-copied : {xs ys : List ℕ} → Copied xs ys → every (is_blank Ascii) ys ≡ every (is_blank Ebcdic) xs
blanks-copied {xs} c = ap (every (is_blank Ascii)) c.same ∙ every-alike (is_blank Ascii) (is_blank Ebcdic) blank-alike xs

compared-copied : {xs ys vs ws : List ℕ} → Copied xs ys → Copied vs ws → same ys ws ≡ same xs vs
compared-copied {xs} {vs = vs} c d = ap₂ same c.same d.same ∙ same_alike xs vs c.characters d.characters

law : Law Ebcdic Ascii Copied
law = record {
  part = part-copied;
  nothing = record { same = refl; characters = refl };
  numbers = λ {xs} c. ap (number Ascii) c.same ∙ number-alike xs;
  blanks = blanks-copied;
  capitals = λ {xs} c. ap (λ (l : List ℕ). capital Ascii (get_or l 0 0)) c.same ∙ get_d-alike xs 0;
  compared = compared-copied;
}

pub standing-alike : (file copy : List ℕ) (past : List Entry) → AlikePast file copy past → standing Ascii copy past ≡ standing Ebcdic file past
standing-alike = figures.standing-alike law

pub row-alike : {file copy : List ℕ} (t : ℕ) {o : ℕ} → AlikeAt file copy o (width_of t) → (s : Standing) (size : ℕ)
    → row_of Ascii copy s t o size ≡ row_of Ebcdic file s t o size
row-alike = figures.row-alike law

pub agreement-alike : (file copy : List ℕ) (past : List Entry) (at t : ℕ) → AlikePast file copy past → AlikeAt file copy at (width_of t)
    → (t ≡ 52 → AlikeAt file copy 0 80)
    → agreement Ascii copy (standing Ebcdic file past) at t ≡ agreement Ebcdic file (standing Ebcdic file past) at t
agreement-alike = agreements.agreement-alike law
