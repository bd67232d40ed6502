-- The theorem of request 5: any file gets the answer and the table that its ASCII copy gets. Assumes nothing.
use Prim.Native.Nat.{ℕ, ◌/◌}
use mathlib.Core.Bool.{Bool, true, false, cond}
use mathlib.Core.Path.{◌≡◌, refl, ap, ◌∙◌}
use mathlib.Core.List.{List, []}
use lib.ListN.{length}
use Rattle.std.specs.Prelude.{Err}
use Rattle.text.specs.declared.character_set.CharacterSet.TheVariants.{Ascii, Ebcdic}
use Rattle.text.specs.CharacterSet.{set_of}
use Rattle.ascii_copy.specs.AsciiCopy.{ascii_copy, first}
use Rattle.passes.specs.declared.Fault.TheVariants.{Size}
use Rattle.passes.specs.declared.Totals.{Totals}
use Rattle.passes.specs.Answers.{Answer}
use Rattle.passes.specs.Answers.{Accepted, Refused}
use Rattle.passes.specs.Rows.{rows_of}
use Rattle.passes.specs.Reading.{surveyed, in_room, answer_of, table_after, table_of}
use Rattle.ascii_copy.proofs.Copies.{allowed, CopyOf, itself, unread, translates, copy_of}
use Rattle.read_as_copy.proofs.Run.{Reached, run-alike, rows_alike}

-- two files that are read alike
record ReadAlike (file other : List ℕ) : Type 0 where
  answer : surveyed other ≡ surveyed file
  rows : {t : Totals} → surveyed file ≡ Accepted t → rows_of other ≡ rows_of file

module _ (file copy : List ℕ) where
  ran-alike : set_of file ≡ Ebcdic → set_of copy ≡ Ascii → Reached file copy 0 [] → ReadAlike file copy
  unfolding surveyed
  ran-alike ebcdic ascii start =
      let answers = run-alike file copy (length file) 0 [] start in
      record {
        answer = rw (ascii, ebcdic, start.ahead.long, answers);
        rows = λ accepted. rw (ascii, ebcdic, start.ahead.long) (rows_alike file copy (length file) 0 [] start (within (allowed file) _ (rw ebcdic at accepted)));
      }
    where
      within : (c : Bool) (a : Answer) {t : Totals} → cond c a (Refused Size 0 0) ≡ Accepted t → a ≡ Accepted t
      within true a e = e
      within false a e = cc

  copies-alike : CopyOf file copy → ReadAlike file copy
  unfolding surveyed
  copies-alike (itself e) = record { answer = ap surveyed e; rows = λ accepted. ap rows_of e }
  copies-alike (unread long e) = record { answer = rw (long, e); rows = λ accepted. let refused = rw e at accepted in cc }
  copies-alike (translates ebcdic ascii ahead) = ran-alike ebcdic ascii (record { ahead = ahead 0 first; alike = tt; opening = refl })

read_alike : (file : List ℕ) → ReadAlike file (ascii_copy file)
read_alike file = copies-alike file (ascii_copy file) (copy_of file)

pub answer-of-copy : (file : List ℕ) (n : ℕ) → answer_of (ascii_copy file) n ≡ answer_of file n
unfolding answer_of
answer-of-copy file n = ap (in_room (n / 7)) (read_alike file).answer

pub table-of-copy : (file table : List ℕ) → table_of (ascii_copy file) table ≡ table_of file table
unfolding table_of answer_of
table-of-copy file table =
    ap (λ (a : Answer). table_after (in_room (length table / 7) a) (rows_of (ascii_copy file)) table) (read_alike file).answer
    ∙ cases (surveyed file) refl
  where
    cases : (a : Answer) → surveyed file ≡ a
        → table_after (in_room (length table / 7) a) (rows_of (ascii_copy file)) table ≡ table_after (in_room (length table / 7) a) (rows_of file) table
    cases (Accepted t) e = ap (λ (xs : List ℕ). table_after (in_room (length table / 7) (Accepted t)) xs table) ((read_alike file).rows e)
    cases (Err r) e = refl
