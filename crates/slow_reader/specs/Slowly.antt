-- The slow reader (request 12): "SIZE from 65,537 bytes in the slow reader only"; up to there the answer and the table of the first reader.
use Rattle.std.specs.Prelude.{ℕ, cond, List, leb, length}
use Rattle.passes.specs.declared.Fault.TheVariants.{Size}
use Rattle.passes.specs.Answers.{Answer}
use Rattle.passes.specs.Answers.{Refused}
use Rattle.passes.specs.Reading.{answer_of, table_of}

unfoldable pub slow_answer : List ℕ → ℕ → Answer
slow_answer file table_length = cond (leb (length file) 65_536) (answer_of file table_length) (Refused Size 0 0)

-- untouched where the file is refused
unfoldable pub slow_table : List ℕ → List ℕ → List ℕ
slow_table file table = cond (leb (length file) 65_536) (table_of file table) table
