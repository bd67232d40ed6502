-- The cash letters of an arrangement's records are its letters. Assumes nothing.
use Prim.Native.Nat.{ℕ}
use native.Mathlib.Omega.{arith}
use mathlib.Core.Path.{◌≡◌, refl, ap, ap₂, ◌∙◌}
use mathlib.Core.List.{List, [], ◌∷◌, map}
use Rattle.text.specs.declared.character_set.CharacterSet.{CharacterSet}
use Rattle.layout.specs.Layouts.{cash_letter_control}
use Rattle.measure.specs.Measures.{capped_sums}
use Rattle.figures.specs.declared.Figures.{Figures}
use Rattle.figures.specs.Figures.{figures}
use Rattle.file_as_records.specs.Framed.{Body}
use Rattle.file_as_records.proofs.Figures.{sum_since, count, is, debit_as, credit_as, opened_in}
use Rattle.file_as_records.proofs.Held.{over, sums_over}
use Rattle.arrangement.specs.Tree.{CashLetter, File}
use Rattle.arrangement.specs.Written.{letter_then, letters_then, records}
use Rattle.arrangement.specs.Sound.{All, SoundLetter, Sound}
use Rattle.arrangement.specs.TypesInPlace.{OfType, TypedLetter, Typed}
use Rattle.arrangement.proofs.After.{after_contents, after_letter}
use Rattle.arrangement.proofs.Counting.{adding}
use Rattle.arrangement.proofs.Levels.{debit_one, credit_one, letter-figures}
use Rattle.arrangement.proofs.Quiet.{Quiet, quiet_step}
use Rattle.arrangement.proofs.TotalsAgree.{stated-whole}
use Rattle.letters.specs.OfArrangement.{figures_of}
use Rattle.letters.proofs.OfRecords.{letters_all}
use Rattle.letters.proofs.WithinLetter.{Close, past_one, past-contents}
use Rattle.letters.specs.Letters as letters

module _ (set : CharacterSet) (l : CashLetter) (past : List Body) (k : TypedLetter set l) where
  -- the 90 adds to no sum of its letter
  with-control : (measure : ℕ → Body → ℕ) → Quiet (adding (is 10) measure) 90 → {n : ℕ}
      → sum_since set (is 10) measure (after_contents (l.header ∷ past) l.contents) ≡ n → sum_since set (is 10) measure (after_letter past l) ≡ n
  with-control measure q e =
      quiet_step set 0 (adding (is 10) measure) (after_contents (l.header ∷ past) l.contents) l.control 90 k.control q ∙ e

  -- at its 90 the figures are the letter's own, and none is capped, since the 90 states the cents
  own-figures : SoundLetter set l → figures (opened_in set (after_letter past l)) (capped_sums (sums_over set (is 10) (after_letter past l))) ≡ figures_of set l
  own-figures s =
      let f = letter-figures set l past k in
      cc (
        with-control (count (is 20)) (omega arith) f.bundles,
        with-control (debit_one set) (omega arith) f.debits,
        with-control (debit_as set) (omega arith) f.debit,
        with-control (credit_one set) (omega arith) f.credits,
        with-control (credit_as set) (omega arith) f.credit,
        with-control (count (is 50)) (omega arith) f.views,
        stated-whole set cash_letter_control 4 l.control (omega arith) s.debit-cents,
        stated-whole set cash_letter_control 9 l.control (omega arith) s.credit-cents,
      )

  letter-closes : {rest : List Body} {fs : List Figures} → SoundLetter set l → Close set (after_letter past l) rest fs
      → Close set past (letter_then l rest) (figures_of set l ∷ fs)
  letter-closes {rest} s then =
      past_one set l.header 10 k.header refl (past-contents set l.contents k.contents
      record {
        letters =
            ap (λ (t : ℕ). letters.letter_then (over set (after_letter past l)) t (letters_all set (after_letter past l) rest)) k.control
            ∙ ap₂ (λ (f : Figures) (others : List Figures). f ∷ others) (own-figures s) then.letters;
      })

letters-close : (set : CharacterSet) (past : List Body) (ls : List CashLetter) (c : Body) → All (TypedLetter set) ls → All (SoundLetter set) ls
    → OfType set 99 c → Close set past (letters_then ls (c ∷ [])) (map (figures_of set) ls)
letters-close set past [] c k s e = past_one set c 99 e refl (record { letters = refl })
letters-close set past (l ∷ ls) c k s e =
    letter-closes set l past k.0 s.0 (letters-close set (after_letter past l) ls c k.1 s.1 e)

pub letters-of : (set : CharacterSet) (x : File) → Typed set x → Sound set x → letters_all set [] (records x) ≡ map (figures_of set) x.letters
letters-of set x k s =
    (past_one set x.header 1 k.header refl (letters-close set (x.header ∷ []) x.letters x.control k.letters s.letters k.control)
    ).letters
