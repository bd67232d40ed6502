-- Good records, each behind its length, are read to the end, with their totals and their rows. Assumes nothing.
use Prim.Native.Nat.{ℕ, ◌+◌, ◌-◌, ◌≤◌, ◌<◌}
use native.Mathlib.Omega.{arith}
use mathlib.Core.Path.{◌≡◌, sym, ap, ◌∙◌}
use mathlib.Core.List.{List, [], ◌∷◌, ◌++◌}
use lib.ListN.{length, take, drop, length-append, length-drop}
use lib.Seq.{drop-drop, take-append_seam, drop-append_seam}
use borrow.Author.Tests.{le-leb, eq-eqb}
use Rattle.text.specs.CharacterSet.{set_of}
use Rattle.text.specs.declared.character_set.CharacterSet.{CharacterSet}
use Rattle.frame.specs.Frames.{part, length_in, length_at, frame_at}
use Rattle.frame.specs.Frames.{Whole}
use Rattle.frame.proofs.Laws.{whole}
use Rattle.judge.specs.Alone.{type_of}
use Rattle.standing.specs.Standing.{standing}
use Rattle.standing.specs.declared.Standing.{Standing}
use Rattle.passes.specs.Answers.{On}
use Rattle.passes.specs.Answers.{Accepted}
use Rattle.passes.specs.Rows.{row_of, rows_from, rows_of}
use Rattle.passes.specs.Reading.{of_turn, step_of, ended_with, run, surveyed}
use Rattle.passes.proofs.Laws.{run_end, run_on, rows_end, rows_on}
use Rattle.file_as_records.specs.Framed.{Body, length_field, framed}
use Rattle.file_as_records.proofs.Figures.{last_in}
use Rattle.file_as_records.proofs.Good.{Good, GoodAll, onto, totals_after, row_as, rows_all}
use Rattle.file_as_records.proofs.Held.{HeldAt, Held, extent, entries, stands, amount-held}
use Rattle.file_as_records.proofs.Opened.{AllOpened, none-opened, all-opened, none_after}
use Rattle.file_as_records.proofs.Steps.{good_turn}
use Rattle.file_as_records.proofs.LengthFields.{length-read}

-- a body behind its length, and what follows it
module _ (file : List ℕ) (at : ℕ) (b rest : List ℕ) (e : drop at file ≡ length_field (length b) ++ (b ++ rest)) where
  pub long : length file - at ≡ 4 + (length b + length rest)
  long = omega (arith, ap length e, length-append b rest, length-drop at file)

  pub body_is : drop (at + 4) file ≡ b ++ rest
  body_is = sym (drop-drop 4 at file) ∙ ap (drop 4) e

  pub part-is : part (at + 4) (length b) file ≡ b
  part-is = ap (take (length b)) body_is ∙ take-append_seam b rest

  pub rest-is : drop (at + 4 + length b) file ≡ rest
  rest-is = sym (drop-drop (length b) (at + 4) file) ∙ ap (drop (length b)) body_is ∙ drop-append_seam b rest

  pub frame_is : length file ≤ 268_435_456 → frame_at file at ≡ Whole (at + 4) (length b)
  frame_is small =
      let n : length_at file at ≡ length b = ap length_in e ∙ length-read (length b) (b ++ rest) (omega (arith, long)) in
      whole file at (omega (arith, long)) ∙ ap (Whole (at + 4)) n

-- one record read: its step, and its row
module _ (set : CharacterSet) (file : List ℕ) (past : List Body) (older : Held set file past) (opened : AllOpened set past)
    (small : length file ≤ 268_435_456) (b rest : List ℕ)
    (e : drop (extent past) file ≡ length_field (length b) ++ (b ++ rest)) (g : Good set past b) where
  held : HeldAt set file (extent past) b
  held = record { rest = rest; body = body_is file (extent past) b rest e; sound = g.alone }

  step_is : step_of set file (standing set file (entries set past)) (extent past) ≡ On (type_of set b) (length b)
  unfolding step_of
  step_is =
      rw (
        stands set file past older,
        none_after set past _ g.follows,
        frame_is file (extent past) b rest e small,
        part-is file (extent past) b rest e,
      )
      (ap (of_turn (length b)) (good_turn set file past older opened (extent past) b held g))

  row_is : row_of set file (standing set file (entries set (b ∷ past))) (type_of set b) (extent past) (length b)
      ≡ row_as set (type_of set b) (extent past) (b ∷ past) b
  row_is =
      ap (λ (s : Standing). row_of set file s (type_of set b) (extent past) (length b)) (stands set file (b ∷ past) (held, older))
      ∙ rw (amount-held set held)

  rows_step : (n : ℕ) → 0 < n → rows_from set n file (extent past) (entries set past)
      ≡ row_as set (type_of set b) (extent past) (b ∷ past) b ++ rows_from set (n - 1) file (extent (b ∷ past)) (entries set (b ∷ past))
  rows_step n h =
      rows_on set file (extent past) (entries set past) n (extent past + 4) (length b) (type_of set b) (omega (arith, long file (extent past) b rest e)) h
      (frame_is file (extent past) b rest e small) (ap (type_of set) (part-is file (extent past) b rest e))
      ∙ ap (λ (row : List ℕ). row ++ rows_from set (n - 1) file (extent (b ∷ past)) (entries set (b ∷ past))) row_is

-- good records from an offset on are read, with their totals and their rows
record Reads (set : CharacterSet) (file : List ℕ) (n : ℕ) (past bodies : List Body) : Type 0 where
  answer : run set n file (extent past) (entries set past) ≡ Accepted (totals_after set (onto bodies past))
  rows : rows_from set n file (extent past) (entries set past) ≡ rows_all set (extent past) past bodies

reads : (set : CharacterSet) (file : List ℕ) → length file ≤ 268_435_456 → (bodies : List Body) (n : ℕ) (past : List Body)
    → Held set file past → AllOpened set past
    → drop (extent past) file ≡ framed bodies → GoodAll set past bodies → length file ≤ extent past + n → Reads set file n past bodies
unfolding ended_with
reads set file small [] n past older opened e g l =
    let end : length file ≤ extent past = omega (arith, ap length e, length-drop (extent past) file) in
    record {
      answer = run_end set file (extent past) (entries set past) n end ∙ rw (stands set file past older, eq-eqb (last_in set past) 99 g);
      rows = rows_end set file (extent past) (entries set past) n end;
    }
reads set file small (b ∷ bs) n past older opened e g l =
    let more = long file (extent past) b (framed bs) e in
    let here = held set file past older opened small b (framed bs) e g.first in
    let others =
    reads set file small bs (n - 1) (b ∷ past) (here, older) (all-opened set b past opened g.first.follows)
    (rest-is file (extent past) b (framed bs) e) g.rest (omega arith) in
    record {
      answer =
          run_on set file (extent past) (entries set past) n (type_of set b) (length b) (omega arith) (omega arith)
          (step_is set file past older opened small b (framed bs) e g.first)
          ∙ others.answer;
      rows =
          rows_step set file past older opened small b (framed bs) e g.first n (omega arith)
          ∙ ap (λ (rows : List ℕ). row_as set (type_of set b) (extent past) (b ∷ past) b ++ rows) others.rows;
    }

-- good records behind their lengths are an accepted file
pub record ReadWhole (file : List ℕ) (bodies : List Body) : Type 0 where
  pub answer : surveyed file ≡ Accepted (totals_after (set_of file) (onto bodies []))
  pub rows : rows_of file ≡ rows_all (set_of file) 0 [] bodies

pub records-accepted : (file : List ℕ) (bodies : List Body) → length file ≤ 268_435_456 → framed bodies ≡ file → GoodAll (set_of file) [] bodies
    → ReadWhole file bodies
unfolding surveyed
records-accepted file [] small e g = absurd (omega arith)
records-accepted file (b ∷ bs) small e g =
    let read = reads (set_of file) file small (b ∷ bs) (length file) [] tt (none-opened (set_of file)) (sym e) g (omega arith) in
    record {
      answer = rw (le-leb 1 (length file) (omega (arith, ap length e)), le-leb (length file) 268_435_456 small) read.answer;
      rows = read.rows;
    }
