-- Request 5, one statement over both sets, for every file, sound or damaged, and every table: "an EBCDIC file gets the answer and rows that its
-- ASCII copy gets".
use Rattle.std.specs.Prelude.{ℕ, List, ◌≡◌, length}
use Rattle.ascii_copy.specs.AsciiCopy.{ascii_copy}
use Rattle.passes.specs.Answers.{Answer}
use Rattle.passes.specs.Reading.{answer_of, table_of}

pub record AsItsCopy (file table : List ℕ) (answer : Answer) (after : List ℕ) : Type 0 where
  pub same_answer : answer ≡ answer_of (ascii_copy file) (length table)
  pub same_rows : after ≡ table_of (ascii_copy file) table
