-- The three ways in which a reading ends, each with the answer, the table and what they say of the file's arrangement. Assumes nothing.
use Prim.Native.Nat.{ℕ, ◌/◌, ◌≤◌, ◌<◌}
use mathlib.Core.Path.{◌≡◌, sym, ◌∙◌, subst}
use mathlib.Core.List.{List, ◌++◌}
use lib.ListN.{length, drop}
use borrow.Author.Tests.{le-leb, lt-leb}
use Rattle.passes.specs.declared.Fault.{Fault}
use Rattle.passes.specs.declared.Fault.TheVariants.{Room}
use Rattle.passes.specs.declared.Totals.{Totals}
use Rattle.passes.specs.Answers.{Answer}
use Rattle.passes.specs.Answers.{Accepted, Refused}
use Rattle.passes.specs.Rows.{rows_of}
use Rattle.passes.specs.Reading.{surveyed, answer_of, table_of}
use Rattle.file_as_records.proofs.LengthFields.{Bytes}
use Rattle.arrangement.specs.Arranged.{Arranged}
use Rattle.arrangement.proofs.Theorem.{arranged}
use Rattle.read_as_copy.specs.AsItsCopy.{AsItsCopy}
use Rattle.read_as_copy.proofs.Theorem.{answer-of-copy, table-of-copy}
use Rattle.own_fault.specs.OwnFault.{OwnFault}
use Rattle.own_fault.proofs.Theorem.{theorem}

abbrev pub Meets : List ℕ → List ℕ → Answer → List ℕ → Type 0
Meets file table answer after =
    (answer ≡ answer_of file (length table))
    × ((after ≡ table_of file table) × (Arranged file table answer after × (AsItsCopy file table answer after × OwnFault file answer)))

module _ (file table : List ℕ) (bytes : Bytes file) where
  meets : (answer : Answer) (after : List ℕ) → answer ≡ answer_of file (length table) → after ≡ table_of file table → Meets file table answer after
  meets answer after e t = (e, (t, (arranged file table answer after bytes e t, (copied, subst (OwnFault file) (sym e) (theorem file (length table))))))
    where
      copied : AsItsCopy file table answer after
      copied = record { same_answer = e ∙ sym (answer-of-copy file (length table)); same_rows = t ∙ sym (table-of-copy file table) }

  pub no_room : (t : Totals) → surveyed file ≡ Accepted t → length table / 7 < t.records.0 → Meets file table (Refused Room t.records.0 0) table
  unfolding answer_of table_of
  no_room t e h =
      meets (Refused Room t.records.0 0) table
      (sym (simp (e, lt-leb t.records.0 (length table / 7) h)))
      (sym (simp (e, lt-leb t.records.0 (length table / 7) h)))

  pub rows-filled : (t : Totals) (after : List ℕ) → surveyed file ≡ Accepted t → t.records.0 ≤ length table / 7
      → after ≡ rows_of file ++ drop (length (rows_of file)) table → Meets file table (Accepted t) after
  unfolding answer_of table_of
  rows-filled t after e h f =
      meets (Accepted t) after (sym (simp (e, le-leb t.records.0 (length table / 7) h)))
      (f ∙ sym (simp (e, le-leb t.records.0 (length table / 7) h)))

  pub refused : (answer : Answer) (fault : Fault) (n o : ℕ) → answer ≡ surveyed file → answer ≡ Refused fault n o → Meets file table answer table
  unfolding answer_of table_of
  refused answer fault n o s e =
      let q = sym s ∙ e in
      meets answer table (e ∙ sym (simp q)) (sym (simp q))
