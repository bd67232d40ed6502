-- Two fields of characters have the same bytes where their translations have. Assumes nothing.
use mathlib.Core.Path.{◌≡◌, refl}
use mathlib.Core.Bool.{true}
use mathlib.Core.List.{List, [], ◌∷◌}
use Prim.Native.Nat.{ℕ}
use Rattle.text.specs.declared.character_set.CharacterSet.TheVariants.{Ebcdic}
use Rattle.text.specs.declared.data_types.DataType.TheVariants.{ANS}
use Rattle.text.specs.DataTypes.{every, admits}
use Rattle.agree.specs.Links.{same}
use Rattle.ascii_copy.specs.AsciiCopy.{translated}
use Rattle.ascii_copy.proofs.Characters.{eqb-alike, and_left, and_right}

pub same_alike : (xs ys : List ℕ) → every (admits Ebcdic ANS) xs ≡ true → every (admits Ebcdic ANS) ys ≡ true → same (translated xs) (translated ys) ≡ same xs ys
same_alike [] [] ex ey = refl
same_alike [] (y ∷ ys) ex ey = refl
same_alike (x ∷ xs) [] ex ey = refl
same_alike (x ∷ xs) (y ∷ ys) ex ey =
    rw (
      eqb-alike x y (and_left (admits Ebcdic ANS x) (every (admits Ebcdic ANS) xs) ex) (and_left (admits Ebcdic ANS y) (every (admits Ebcdic ANS) ys) ey),
      same_alike xs ys (and_right (admits Ebcdic ANS x) (every (admits Ebcdic ANS) xs) ex) (and_right (admits Ebcdic ANS y) (every (admits Ebcdic ANS) ys) ey),
    )
