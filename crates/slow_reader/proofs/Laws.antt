-- The ways in which a slow reading ends, each with the answer, the table and what they say of the file's arrangement. Assumes nothing.
use Prim.Native.Nat.{ℕ, ◌/◌, ◌≤◌, ◌<◌}
use native.Mathlib.Omega.{arith}
use mathlib.Core.Path.{◌≡◌, sym, subst, ◌∙◌}
use mathlib.Core.List.{List, ◌++◌}
use lib.ListN.{length, drop}
use mathlib.Core.Bool.{Bool, true, false}
use mathlib.Core.Path.{refl}
use lib.Dec.{leb}
use borrow.Author.Tests.{le-leb, lt-leb, leb-true, leb-false}
use Rattle.frame.specs.Frames.{Cut, Whole, frame_at}
use Rattle.frame.proofs.Laws.{whole-start, whole-within}
use Rattle.standing.specs.declared.Standing.{Standing}
use Rattle.passes.proofs.Passes.{Fill, fill-cut, fill_end}
use Rattle.text.specs.CharacterSet.{set_of}
use Rattle.text.specs.declared.character_set.CharacterSet.{CharacterSet}
use Rattle.std.specs.Prelude.{Err}
use Rattle.passes.specs.declared.Refusal.{Refusal}
use Rattle.passes.specs.declared.Fault.TheVariants.{Size, Room}
use Rattle.passes.specs.declared.Totals.{Totals}
use Rattle.passes.specs.Answers.{Answer}
use Rattle.passes.specs.Answers.{Accepted, Refused}
use Rattle.passes.specs.Rows.{rows_of}
use Rattle.passes.specs.Reading.{surveyed, answer_of, table_of}
use Rattle.file_as_records.proofs.LengthFields.{Bytes}
use Rattle.arrangement.specs.Arranged.{Arranged}
use Rattle.arrangement.proofs.Theorem.{arranged}
use Rattle.slow_step.specs.Places.{IsAnswer}
use Rattle.slow_reader.specs.Slowly.{slow_answer, slow_table}

-- a record that is whole begins within the file
pub begins-within : (file : List ℕ) (at start size : ℕ) → frame_at file at ≡ Whole start size → at < length file
begins-within file at start size e = omega (arith, whole-start file at start size e, whole-within file at start size e)

-- where none is whole all rows are written
pub all-written : (set : CharacterSet) (file first : List ℕ) (at : ℕ) (s : Standing) (base : ℕ) (table : List ℕ) → Fill set file first at s base table
    → frame_at file at ≡ Cut → table ≡ rows_of file ++ drop (length (rows_of file)) first
all-written set file first at s base table f e = by (leb (length file) at) refl
  where
    by : (b : Bool) → leb (length file) at ≡ b → table ≡ rows_of file ++ drop (length (rows_of file)) first
    by true q = fill_end set file first at s base table f (leb-true (length file) at q)
    by false q = fill-cut set file first at s base table f (leb-false (length file) at q) e

-- what is promised of the answer and of the table afterwards
pub record Meets (file table : List ℕ) (r : Answer) (after : List ℕ) : Type 0 where
  pub answer : r ≡ slow_answer file (length table)
  pub rows : after ≡ slow_table file table
  pub arranged : length file ≤ 65_536 → Arranged file table r after

-- the same answer as the code has it
pub meets-as : {file table after : List ℕ} {r told : Answer} → told ≡ r → Meets file table r after → Meets file table told after
meets-as {file} {table} {after} e m = subst (λ (a : Answer). Meets file table a after) (sym e) m

module _ (file table : List ℕ) (bytes : Bytes file) where
  pub too_long : 65_536 < length file → Meets file table (Refused Size 0 0) table
  unfolding slow_answer slow_table
  too_long h =
      record {
        answer = rw (lt-leb (length file) 65_536 h);
        rows = rw (lt-leb (length file) 65_536 h);
        arranged = λ l. absurd (omega arith);
      }

  module _ (h : length file ≤ 65_536) where
    meets : (r : Answer) (after : List ℕ) → r ≡ answer_of file (length table) → after ≡ table_of file table → Meets file table r after
    unfolding slow_answer slow_table
    meets r after e t =
        record {
          answer = rw (le-leb (length file) 65_536 h) e;
          rows = rw (le-leb (length file) 65_536 h) t;
          arranged = λ l. arranged file table r after bytes e t;
        }

    pub empty : length file ≡ 0 → Meets file table (Refused Size 0 0) table
    unfolding answer_of table_of surveyed
    empty e =
        meets (Refused Size 0 0) table (sym (simp (lt-leb 1 (length file) (omega arith)))) (sym (simp (lt-leb 1 (length file) (omega arith))))

    module _ (some : length file ≡ 0 → ⊥) {set : CharacterSet} (q : set ≡ set_of file) {r : Answer} (p : IsAnswer set file r) where
      -- the answer of the cycle is that of the first reader's first pass
      as-surveyed : r ≡ surveyed file
      unfolding surveyed
      as-surveyed = p.answer ∙ sym (simp (le-leb 1 (length file) (omega arith), le-leb (length file) 268_435_456 (omega arith), sym q))

      pub no_room : (t : Totals) → r ≡ Accepted t → length table / 7 < t.records.0 → Meets file table (Refused Room t.records.0 0) table
      unfolding answer_of table_of
      no_room t e l =
          let s = sym as-surveyed ∙ e in
          meets (Refused Room t.records.0 0) table
          (sym (simp (s, lt-leb t.records.0 (length table / 7) l)))
          (sym (simp (s, lt-leb t.records.0 (length table / 7) l)))

      pub rows_written : (t : Totals) (after : List ℕ) → r ≡ Accepted t → t.records.0 ≤ length table / 7
          → after ≡ rows_of file ++ drop (length (rows_of file)) table → Meets file table (Accepted t) after
      unfolding answer_of table_of
      rows_written t after e l f =
          let s = sym as-surveyed ∙ e in
          meets (Accepted t) after (sym (simp (s, le-leb t.records.0 (length table / 7) l)))
          (f ∙ sym (simp (s, le-leb t.records.0 (length table / 7) l)))

      pub refused : (refusal : Refusal) → r ≡ Err refusal → Meets file table (Err refusal) table
      unfolding answer_of table_of
      refused refusal e =
          let s = sym as-surveyed ∙ e in
          meets (Err refusal) table (sym (simp s)) (sym (simp s))
