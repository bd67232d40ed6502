-- The figures of each cash letter of a file, in their order (request 6: "its own counts, debit and credit cents"). Like the rows, they are taken from the
-- records that the lengths of the file frame; they are asked for in an accepted file only, whose controls state the cents, so that none of them is
-- capped: `OfArrangement` says so.
use Rattle.std.specs.Prelude.{ℕ, zero, suc, ◌+◌, cond, List, [], ◌∷◌, leb, eqb, length, Some}
use Rattle.text.specs.CharacterSet.{set_of}
use Rattle.text.specs.declared.character_set.CharacterSet.{CharacterSet}
use Rattle.frame.specs.Frames.{Frame}
use Rattle.frame.specs.Frames.{Cut, Whole}
use Rattle.frame.specs.Frames.{part, frame_at}
use Rattle.judge.specs.Alone.{type_of}
use Rattle.measure.specs.Measures.{capped_sums}
use Rattle.standing.specs.History.{Entry, entry}
use Rattle.standing.specs.Standing.{standing}
use Rattle.standing.specs.declared.Standing.{Standing}
use Rattle.figures.specs.declared.Figures.{Figures}
use Rattle.figures.specs.Figures.{figures}

-- where s stands after a record: a 90 closes a cash letter, which has the bundles and the sums since its 10
abbrev pub letter_then : Standing → ℕ → List Figures → List Figures
letter_then s t others = cond (eqb t 90) (figures s.opened (capped_sums s.letter) ∷ others) others

abbrev pub letter_and : CharacterSet → List ℕ → ℕ → List Entry → Frame → (ℕ → List Entry → List Figures) → List Figures
letter_and set file at past Cut others = []
letter_and set file at past (Some x) others =
    letter_then (standing set file (entry (type_of set (part x.start x.size file)) at x.size ∷ past)) (type_of set (part x.start x.size file))
    (others (x.start + x.size) (entry (type_of set (part x.start x.size file)) at x.size ∷ past))

-- from an offset on, of n records at most
unfoldable pub letters_from : CharacterSet → ℕ → List ℕ → ℕ → List Entry → List Figures
letters_from set zero file at past = []
letters_from set (suc n) file at past =
    cond (leb (length file) at) [] (letter_and set file at past (frame_at file at) (λ next newer. letters_from set n file next newer))

abbrev pub letters_of : List ℕ → List Figures
letters_of file = letters_from (set_of file) (length file) file 0 []
