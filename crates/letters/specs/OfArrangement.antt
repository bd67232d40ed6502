-- What the day book enters is each cash letter's own: the figures of an accepted file's letters are those of the letters of its arrangement, added up
-- from what each letter holds.
use Rattle.std.specs.Prelude.{List, map, ◌≡◌, ℕ}
use Rattle.text.specs.CharacterSet.{set_of}
use Rattle.text.specs.declared.character_set.CharacterSet.{CharacterSet}
use Rattle.measure.specs.Measures.{sums}
use Rattle.figures.specs.declared.Figures.{Figures}
use Rattle.figures.specs.Figures.{figures}
use Rattle.arrangement.specs.Tree.{CashLetter, File}
use Rattle.arrangement.specs.Sound.{of_letter, debits, debit_cents, credits, credit_cents, view_count, bundle_count}
use Rattle.arrangement.specs.Arranged.{Arranges}
use Rattle.letters.specs.Letters.{letters_of}

abbrev pub figures_of : CharacterSet → CashLetter → Figures
figures_of set l =
    figures (bundle_count l)
    (sums (of_letter (debits set) l) (of_letter (debit_cents set) l) (of_letter (credits set) l) (of_letter (credit_cents set) l) (of_letter view_count l))

abbrev pub LettersOwn : List ℕ → Type 0
LettersOwn file = (x : File) → Arranges file x → letters_of file ≡ map (figures_of (set_of file)) x.letters
