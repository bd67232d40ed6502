-- The figures of a file's cash letters are those of the letters of its arrangement; an accepted file has as many of them as letters, and they come
-- to its totals. Assumes nothing.
use Prim.Native.Nat.{ℕ, ◌≤◌}
use mathlib.Core.Path.{◌≡◌, refl, ap, ◌∙◌, subst}
use mathlib.Core.List.{List, [], ◌∷◌, map}
use lib.ListN.{length, length-map}
use Rattle.text.specs.CharacterSet.{set_of}
use Rattle.text.specs.declared.character_set.CharacterSet.{CharacterSet}
use Rattle.measure.specs.Measures.{sums}
use Rattle.passes.specs.declared.Totals.{Totals}
use Rattle.passes.specs.Answers.{Accepted}
use Rattle.passes.specs.Reading.{surveyed}
use Rattle.figures.specs.Figures.{figures, plus, all_of}
use Rattle.file_as_records.proofs.LengthFields.{Bytes}
use Rattle.arrangement.specs.Tree.{CashLetter}
use Rattle.arrangement.specs.Sound.{total, of_letter, debits, debit_cents, credits, credit_cents, view_count, bundle_count}
use Rattle.arrangement.specs.RowsAndTotals.{totals}
use Rattle.arrangement.specs.Written.{records}
use Rattle.arrangement.proofs.Goodness.{sound-good}
use Rattle.arrangement.proofs.SoundTyped.{sound-typed}
use Rattle.arrangement.proofs.Theorem.{arranged-accepted, accepted-arranged}
use Rattle.letters.specs.Letters.{letters_of}
use Rattle.letters.specs.OfArrangement.{figures_of, LettersOwn}
use Rattle.letters.proofs.OfRecords.{letters-of-records}
use Rattle.letters.proofs.LettersAgree.{letters-of}

pub letters-own : (file : List ℕ) → LettersOwn file
letters-own file x a =
    letters-of-records file (records x) a.size a.bytes (sound-good (set_of file) x a.sound)
    ∙ letters-of (set_of file) x (sound-typed (set_of file) x a.sound) a.sound

come-to : (set : CharacterSet) (ls : List CashLetter)
    → all_of (map (figures_of set) ls)
    ≡ figures (total bundle_count ls)
    (sums (total (of_letter (debits set)) ls) (total (of_letter (debit_cents set)) ls) (total (of_letter (credits set)) ls)
    (total (of_letter (credit_cents set)) ls) (total (of_letter view_count) ls))
unfolding all_of
come-to set [] = refl
come-to set (l ∷ ls) = ap (plus (figures_of set l)) (come-to set ls)

-- the letters of an accepted file with these totals
pub record AcceptedLetters (file : List ℕ) (t : Totals) : Type 0 where
  pub count : length (letters_of file) ≡ t.letters
  pub some : 1 ≤ t.letters
  pub sum : all_of (letters_of file) ≡ figures t.bundles t.sums

pub accepted-letters : (file : List ℕ) (t : Totals) → Bytes file → surveyed file ≡ Accepted t → AcceptedLetters file t
accepted-letters file t b e =
    let set = set_of file in
    let (x, a) = accepted-arranged file t b e in
    let own = letters-own file x a in
    let same : totals set x ≡ t = cc (arranged-accepted file x a).answer in
    subst (λ (t : Totals). AcceptedLetters file t) same
    (record {
      count = ap length own ∙ length-map x.letters (figures_of set);
      some = a.sound.filled;
      sum = ap all_of own ∙ come-to set x.letters;
    })
