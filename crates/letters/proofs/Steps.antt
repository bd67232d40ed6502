-- How the cash letters go on from a record, for a loop over the records. Assumes nothing.
use Prim.Native.Nat.{ℕ, zero, suc, ◌+◌, ◌-◌, ◌≤◌, ◌<◌}
use native.Mathlib.Numerals.{sub-one}
use native.Mathlib.Omega.{arith}
use mathlib.Core.Path.{◌≡◌, refl, sym, ap, ◌∙◌, subst}
use mathlib.Core.Bool.{false}
use mathlib.Core.List.{List, [], ◌∷◌}
use lib.Dec.{eqb}
use lib.ListN.{length}
use borrow.Author.Tests.{le-leb, lt-leb, eq-eqb, ne_eqb}
use Rattle.text.specs.declared.character_set.CharacterSet.{CharacterSet}
use Rattle.frame.specs.Frames.{part, frame_at}
use Rattle.frame.specs.Frames.{Cut, Whole}
use Rattle.judge.specs.Alone.{type_of}
use Rattle.measure.specs.Measures.{capped_sums}
use Rattle.standing.specs.History.{Entry, entry}
use Rattle.standing.specs.Standing.{standing, capped_figures}
use Rattle.standing.specs.declared.Standing.{Standing}
use Rattle.figures.specs.declared.Figures.{Figures}
use Rattle.figures.specs.Figures.{figures}
use Rattle.letters.specs.Letters.{letter_then, letters_from}

-- where a record is no 90, and where it is one
pub none-closed : (s : Standing) (t : ℕ) (others : List Figures) → eqb t 90 ≡ false → letter_then s t others ≡ others
none-closed s t others x = rw x

one-closed : (s : Standing) (t : ℕ) (others : List Figures) → t ≡ 90 → letter_then s t others ≡ figures s.opened (capped_sums s.letter) ∷ others
one-closed s t others x = rw (eq-eqb t 90 x)

module _ (set : CharacterSet) (file : List ℕ) (at : ℕ) (past : List Entry) where
  pub letters-end : (n : ℕ) → length file ≤ at → letters_from set n file at past ≡ []
  unfolding letters_from
  letters-end zero h = refl
  letters-end (suc n) h = rw (le-leb (length file) at h)

  pub letters-cut : (n : ℕ) → frame_at file at ≡ Cut → at < length file → letters_from set n file at past ≡ []
  unfolding letters_from
  letters-cut zero e h = refl
  letters-cut (suc n) e h = rw (lt-leb (length file) at h, e)

  letters-at : (n start size : ℕ) → at < length file → 0 < n → frame_at file at ≡ Whole start size
      → letters_from set n file at past
      ≡ letter_then (standing set file (entry (type_of set (part start size file)) at size ∷ past)) (type_of set (part start size file))
      (letters_from set (n - 1) file (start + size) (entry (type_of set (part start size file)) at size ∷ past))
  unfolding letters_from
  letters-at zero start size h k e = absurd (omega arith)
  letters-at (suc n) start size h k e = rw (sub-one (suc n)) (rw (lt-leb (length file) at h, e))

  module _ (n start size t : ℕ) (h : at < length file) (k : 0 < n) (e : frame_at file at ≡ Whole start size) (q : type_of set (part start size file) ≡ t) where
    pub letters-on : letters_from set n file at past
        ≡ letter_then (standing set file (entry t at size ∷ past)) t (letters_from set (n - 1) file (start + size) (entry t at size ∷ past))
    letters-on =
        subst
        (λ (u : ℕ). letters_from set n file at past ≡ letter_then (standing set file (entry u at size ∷ past)) u (letters_from set (n - 1) file (start + size) (entry u at size ∷ past)))
        q
        (letters-at n start size h k e)

    pub letters-other : (t ≡ 90 → ⊥) → letters_from set n file at past ≡ letters_from set (n - 1) file (start + size) (entry t at size ∷ past)
    letters-other x = letters-on ∙ none-closed (standing set file (entry t at size ∷ past)) t _ (ne_eqb t 90 x)

    -- the figures as the code carries them along, in which the cents have stopped already
    pub letters-90 : (s : Standing) → s ≡ capped_figures (standing set file (entry t at size ∷ past)) → t ≡ 90
        → letters_from set n file at past ≡ figures s.opened s.letter ∷ letters_from set (n - 1) file (start + size) (entry t at size ∷ past)
    letters-90 s m x =
        letters-on
        ∙ one-closed (standing set file (entry t at size ∷ past)) t _ x
        ∙ ap (λ (u : Standing). figures u.opened u.letter ∷ letters_from set (n - 1) file (start + size) (entry t at size ∷ past)) (sym m)
