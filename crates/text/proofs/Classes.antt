-- No blank stands between digits alone. Assumes nothing.
use mathlib.Core.Path.{◌≡◌, refl}
use mathlib.Core.Bool.{Bool, true, false, ◌&&◌, ◌||◌}
use mathlib.Core.List.{List, [], ◌∷◌}
use Prim.Native.Nat.{ℕ}
use native.Mathlib.Omega.{arith}
use borrow.Author.Tests.{leb-true, ne_eqb}
use lib.Dec.{leb}
use Rattle.text.specs.declared.character_set.CharacterSet.{CharacterSet}
use Rattle.text.specs.declared.character_set.CharacterSet.TheVariants.{Ascii, Ebcdic}
use Rattle.text.specs.Characters.{is_blank, is_numeric}
use Rattle.text.specs.DataTypes.{every, blank_after}

pub and_left : (a b : Bool) → a && b ≡ true → a ≡ true
and_left true b e = refl
and_left false b e = cc

and_right : (a b : Bool) → a && b ≡ true → b ≡ true
and_right true b e = e
and_right false b e = cc

digit-not-blank : (set : CharacterSet) (x : ℕ) → is_numeric set x ≡ true → is_blank set x ≡ false
digit-not-blank Ascii x e =
    let low = leb-true 0x30 x (and_left (leb 0x30 x) (leb x 0x39) e) in
    ne_eqb x 0x20 (λ q. omega arith)
digit-not-blank Ebcdic x e =
    let low = leb-true 0xF0 x (and_left (leb 0xF0 x) (leb x 0xF9) e) in
    ne_eqb x 0x40 (λ q. omega arith)

pub never_both : (b : Bool) → b && false ≡ false
never_both true = refl
never_both false = refl

pub digits-have-no-gap : (set : CharacterSet) (before : Bool) (xs : List ℕ) → every (is_numeric set) xs ≡ true → blank_after set before xs ≡ false
digits-have-no-gap set before [] e = refl
digits-have-no-gap set before (x ∷ xs) e =
    rw (digit-not-blank set x (and_left (is_numeric set x) (every (is_numeric set) xs) e), never_both before)
    (digits-have-no-gap set (before || is_numeric set x) xs (and_right (is_numeric set x) (every (is_numeric set) xs) e))
