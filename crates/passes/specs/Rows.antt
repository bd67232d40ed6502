-- The rows (document 01, "Numbers that bind"): a row for each record that the lengths of the file frame.
use Rattle.std.specs.Prelude.{ℕ, zero, suc, ◌+◌, Bool, ◌||◌, cond, List, [], ◌∷◌, ◌++◌, leb, eqb, length, Some}
use Rattle.text.specs.CharacterSet.{set_of}
use Rattle.text.specs.declared.character_set.CharacterSet.{CharacterSet}
use Rattle.frame.specs.Frames.{Frame, Cut, part, frame_at}
use Rattle.judge.specs.Alone.{type_of}
use Rattle.measure.specs.Measures.{capped}
use Rattle.standing.specs.History.{Entry, entry, amount_of}
use Rattle.standing.specs.Standing.{standing}
use Rattle.standing.specs.declared.Standing.{Standing}

-- outside a cash letter
abbrev pub outside_letter : ℕ → Bool
outside_letter t = eqb t 1 || eqb t 99

-- "Amount: item amount for 25 and 31, debit cents as added up for 70, 90 and 99, otherwise 0"; a 61's is its field 7 (request 2). The rows
-- are asked for in an accepted file only, whose controls state these cents, so that none of them is capped: `Arranged` says so.
abbrev pub amount_in : CharacterSet → List ℕ → Standing → ℕ → ℕ → ℕ
amount_in set file s t offset =
    cond (eqb t 70) (capped s.bundle.debit.0)
    (cond (eqb t 90) (capped s.letter.debit.0)
    (cond (eqb t 99) (capped s.whole.debit.0) (amount_of set file t offset)))

-- a record's row, where s stands after the record: type, offset, length, and the ordinals, "0 where the record lies outside that level". In a
-- bundle, 25s, 31s and 61s are counted together; a 61 directly in a cash letter, with its views, lies in no bundle (request 2).
abbrev pub row_of : CharacterSet → List ℕ → Standing → ℕ → ℕ → ℕ → List ℕ
row_of set file s t offset size =
    t ∷ offset ∷ size ∷ cond (outside_letter t) 0 s.letters ∷ cond (s.inside || eqb t 70) s.opened 0
    ∷ cond s.inside s.ordinal 0 ∷ amount_in set file s t offset ∷ []

abbrev pub row_and : CharacterSet → List ℕ → ℕ → List Entry → Frame → (ℕ → List Entry → List ℕ) → List ℕ
row_and set file at past Cut others = []
row_and set file at past (Some x) others =
    row_of set file (standing set file (entry (type_of set (part x.start x.size file)) at x.size ∷ past)) (type_of set (part x.start x.size file)) at x.size
    ++ others (x.start + x.size) (entry (type_of set (part x.start x.size file)) at x.size ∷ past)

-- the rows from an offset on, of n records at most
unfoldable pub rows_from : CharacterSet → ℕ → List ℕ → ℕ → List Entry → List ℕ
rows_from set zero file at past = []
rows_from set (suc n) file at past =
    cond (leb (length file) at) [] (row_and set file at past (frame_at file at) (λ next newer. rows_from set n file next newer))

abbrev pub rows_of : List ℕ → List ℕ
rows_of file = rows_from (set_of file) (length file) file 0 []
