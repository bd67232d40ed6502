-- What x9_read_slowly promises (request 12), that the promise leaves one outcome for every input, and that up to 65,536 bytes it is that of x9_read.
use Rattle.std.specs.Prelude.{ℕ, ◌≤◌, ◌<◌, List, [], ◌∷◌, ◌≡◌, length}
use Rattle.std.proofs.Common.{sym, ap, ◌∙◌, subst, le-leb}
use Rattle.std.proofs.lemmas.Bool.{lt-leb}
use Rattle.passes.specs.Answers.{answer_number, numbers_of}
use Rattle.passes.specs.Reading.{answer_of, table_of}
use Rattle.passes.specs.Answers.{Answer}
use Rattle.arrangement.specs.Arranged.{Arranged}
use Rattle.slow_reader.specs.Slowly.{slow_answer, slow_table}
use Rattle.abi.specs.Outcomes.{Reading}

-- the number, the table afterwards, the twelve numbers, and what they say of the file's arrangement
pub record SlowReading (file table : List ℕ) (n : ℕ) (after numbers : List ℕ) : Type 0 where
  pub number : n ≡ answer_number (slow_answer file (length table))
  pub rows : after ≡ slow_table file table
  pub answer : numbers ≡ numbers_of (length file) (slow_answer file (length table))
  pub arranged : length file ≤ 65_536 → Arranged file table (slow_answer file (length table)) after

pub one-slow-reading : (file table : List ℕ) {n m : ℕ} {after later answer other : List ℕ}
    → SlowReading file table n after answer → SlowReading file table m later other → (n ≡ m) × (after ≡ later) × (answer ≡ other)
one-slow-reading file table r s = (r.number ∙ sym s.number, r.rows ∙ sym s.rows, r.answer ∙ sym s.answer)

-- up to 65,536 bytes they are those of x9_read
same_answer : (file : List ℕ) (table_length : ℕ) → length file ≤ 65_536 → slow_answer file table_length ≡ answer_of file table_length
unfolding slow_answer
same_answer file table_length h = simp (le-leb (length file) 65_536 h)

same-table : (file table : List ℕ) → length file ≤ 65_536 → slow_table file table ≡ table_of file table
unfolding slow_table
same-table file table h = simp (le-leb (length file) 65_536 h)

pub as_read : (file table : List ℕ) {n : ℕ} {after answer : List ℕ} → length file ≤ 65_536 → SlowReading file table n after answer
    → Reading file table n after answer
as_read file table {n} {after} h r =
    let same = same_answer file (length table) h in
    record {
      number = r.number ∙ ap answer_number same;
      rows = r.rows ∙ same-table file table h;
      answer = r.answer ∙ ap (numbers_of (length file)) same;
      arranged = subst (λ (a : Answer). Arranged file table a after) same (r.arranged h);
    }

-- beyond, SIZE (0, 0, 0), and the table is untouched
pub too_long : (file table : List ℕ) {n : ℕ} {after answer : List ℕ} → 65_536 < length file → SlowReading file table n after answer
    → (n ≡ 1) × (after ≡ table) × (answer ≡ 1 ∷ 0 ∷ 0 ∷ 0 ∷ 0 ∷ 0 ∷ 0 ∷ 0 ∷ 0 ∷ 0 ∷ 0 ∷ 0 ∷ [])
unfolding slow_answer slow_table
too_long file table h r =
    let beyond = lt-leb (length file) 65_536 h in
    (r.number ∙ simp beyond, r.rows ∙ simp beyond, r.answer ∙ simp beyond)
