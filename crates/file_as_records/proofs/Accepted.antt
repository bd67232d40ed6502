-- An accepted file is good records, each behind its length. Assumes nothing.
use Prim.Native.Nat.{ℕ, zero, suc, ◌+◌, ◌-◌, ◌≤◌, ◌<◌}
use native.Mathlib.Omega.{arith}
use mathlib.Core.Bool.{Bool, true, false, ◌&&◌, cond}
use mathlib.Core.Path.{◌≡◌, refl, sym, ap, ap₂, ◌∙◌}
use mathlib.Core.List.{List, [], ◌∷◌, ◌++◌}
use lib.Dec.{leb, eqb}
use lib.ListN.{length, drop, length-drop, take-append-drop, drop_of_length-le}
use lib.Seq.{get_or-drop, drop-drop, length-take-le}
use borrow.Author.Tests.{leb-true, leb-false, eqb-true}
use Rattle.text.specs.CharacterSet.{set_of}
use Rattle.text.specs.declared.character_set.CharacterSet.{CharacterSet}
use Rattle.frame.specs.Frames.{part, frame_at}
use Rattle.frame.specs.Frames.{Whole}
use Rattle.frame.proofs.Laws.{whole-within, whole-start, whole-size}
use Rattle.judge.specs.Alone.{type_of}
use Rattle.standing.specs.Standing.{standing}
use Rattle.passes.specs.declared.Fault.TheVariants.{Open, Size}
use Rattle.passes.specs.declared.Totals.{Totals}
use Rattle.passes.specs.Answers.{Step}
use Rattle.passes.specs.Answers.{Stop, On}
use Rattle.passes.specs.Answers.{Answer}
use Rattle.passes.specs.Answers.{Accepted, Refused}
use Rattle.passes.specs.Rows.{rows_of}
use Rattle.passes.specs.Reading.{step_of, ended_with, run, surveyed}
use Rattle.passes.proofs.Laws.{run_end, run-stop, run_on}
use Rattle.passes.proofs.Passes.{accepted-small}
use Rattle.file_as_records.specs.Framed.{Body, length_field, framed}
use Rattle.file_as_records.proofs.Figures.{last_in}
use Rattle.file_as_records.proofs.Good.{Good, GoodAll, onto, totals_after, rows_all}
use Rattle.file_as_records.proofs.Held.{Held, extent, entries, over, stands}
use Rattle.file_as_records.proofs.Opened.{AllOpened, none-opened, all-opened}
use Rattle.file_as_records.proofs.Steps.{turn-good}
use Rattle.file_as_records.proofs.LengthFields.{Bytes, length_cut}
use Rattle.file_as_records.proofs.ReadThrough.{body_is, records-accepted}
use Rattle.passes.proofs.Laws as laws

accepted-end : (c : Bool) (u t : Totals) (place at : ℕ) → cond c (Accepted u) (Refused Open place at) ≡ Accepted t → c ≡ true
accepted-end true u t place at e = refl
accepted-end false u t place at e = cc

-- the good record that a step goes on from
record Next (set : CharacterSet) (file : List ℕ) (past : List Body) (t size : ℕ) : Type 0 where
  body : Body
  type : t ≡ type_of set body
  size_is : size ≡ length body
  bytes : drop (extent past) file ≡ length_field (length body) ++ (body ++ drop (extent past + 4 + length body) file)
  good : Good set past body

-- good records that the bytes from an offset on are
record Found (set : CharacterSet) (file : List ℕ) (past : List Body) : Type 0 where
  bodies : List Body
  bytes : framed bodies ≡ drop (extent past) file
  good : GoodAll set past bodies

module _ (set : CharacterSet) (file : List ℕ) (hb : Bytes file) (t : Totals) where
  next : (past : List Body) → Held set file past → AllOpened set past → (u size : ℕ)
      → step_of set file (standing set file (entries set past)) (extent past) ≡ On u size
      → Next set file past u size
  next past older opened u size e =
      let at = extent past in
      let f = laws.framed set file (standing set file (entries set past)) at u size e in
      let begins = whole-start file at f.start size f.whole in
      let there : frame_at file at ≡ Whole (at + 4) size = f.whole ∙ ap (λ (n : ℕ). Whole n size) begins in
      let fits = whole-within file at (at + 4) size there in
      let b = part (at + 4) size file in
      let n : length b ≡ size = length-take-le size (drop (at + 4) file) (simp length-drop (omega arith)) in
      let rest : drop (at + 4) file ≡ b ++ drop (at + 4 + size) file =
      sym (take-append-drop size (drop (at + 4) file)) ∙ ap (λ (x : List ℕ). b ++ x) (drop-drop size (at + 4) file) in
      record {
        body = b;
        type = sym f.type ∙ ap (λ (n : ℕ). type_of set (part n size file)) begins;
        size_is = sym n;
        bytes =
            length_cut (drop at file) (λ i. rw get_or-drop (hb (at + i))) (simp length-drop (omega arith))
            ∙ ap₂ (λ (k : ℕ) (x : List ℕ). length_field k ++ x) (whole-size file at (at + 4) size there ∙ sym n)
            (drop-drop 4 at file ∙ rest ∙ ap (λ (k : ℕ). b ++ drop (at + 4 + k) file) (sym n));
        good =
            turn-good set file past older opened at b (drop (at + 4 + size) file) rest (rw (begins, stands set file past older) at f.turn);
      }

  found-end : (n : ℕ) (past : List Body) → Held set file past → length file ≤ extent past
      → run set n file (extent past) (entries set past) ≡ Accepted t
      → Found set file past
  unfolding ended_with
  found-end n past older end e =
      let last = accepted-end (eqb (over set past).last 99) _ t _ _
      (rw (stands set file past older) at (sym (run_end set file (extent past) (entries set past) n end) ∙ e)) in
      record { bodies = []; bytes = sym (drop_of_length-le file end); good = eqb-true (last_in set past) 99 last }

  -- where the reading goes on, the bytes behind the record are good records too
  found : (n : ℕ) (past : List Body) → Held set file past → AllOpened set past → length file ≤ extent past + n
      → run set n file (extent past) (entries set past) ≡ Accepted t → Found set file past
  found zero past older opened l e = found-end zero past older (omega arith) e
  found (suc n) past older opened l e =
      at_all (leb (length file) (extent past)) refl (λ b k o m q. found n (b ∷ past) k o m q)
    where
      Others : Type 0
      Others =
          (b : Body) → Held set file (b ∷ past) → AllOpened set (b ∷ past) → length file ≤ extent (b ∷ past) + n
          → run set n file (extent (b ∷ past)) (entries set (b ∷ past)) ≡ Accepted t → Found set file (b ∷ past)

      goes_on : (u size : ℕ) → extent past < length file → Next set file past u size
          → step_of set file (standing set file (entries set past)) (extent past) ≡ On u size → Others → Found set file past
      goes_on u size h x q others =
          let b = x.body in
          let rest = drop (extent past + 4 + length b) file in
          let one_less : suc n - 1 ≡ n = omega arith in
          let there : run set n file (extent (b ∷ past)) (entries set (b ∷ past)) ≡ Accepted t =
          rw (one_less, x.type, x.size_is) at (sym (run_on set file (extent past) (entries set past) (suc n) u size h (omega arith) q) ∙ e) in
          let y =
          others b (record { rest = rest; body = body_is file (extent past) b rest x.bytes; sound = x.good.alone }, older)
          (all-opened set b past opened x.good.follows) (omega arith) there in
          record {
            bodies = b ∷ y.bodies;
            bytes = ap (λ (z : List ℕ). length_field (length b) ++ (b ++ z)) y.bytes ∙ sym x.bytes;
            good = record { first = x.good; rest = y.good };
          }

      at-step : (s : Step) → step_of set file (standing set file (entries set past)) (extent past) ≡ s → extent past < length file → Others
          → Found set file past
      at-step (Stop fault) q h others =
          let stopped = run-stop set file (extent past) (entries set past) (suc n) fault h (omega arith) q in
          let z : ◌≡◌ {A = ℕ} 0 1 = cc in absurd (omega arith)
      at-step (On u size) q h others = goes_on u size h (next past older opened u size q) q others

      at_all : (c : Bool) → leb (length file) (extent past) ≡ c → Others → Found set file past
      at_all true q others = found-end (suc n) past older (leb-true _ _ q) e
      at_all false q others = at-step (step_of set file (standing set file (entries set past)) (extent past)) refl (leb-false _ _ q) others

-- an accepted file is good records, each behind its length; its totals and its rows are theirs
pub record Records (file : List ℕ) (t : Totals) : Type 0 where
  pub bodies : List Body
  pub bytes : framed bodies ≡ file
  pub good : GoodAll (set_of file) [] bodies
  pub sums : t ≡ totals_after (set_of file) (onto bodies [])
  pub rows : rows_of file ≡ rows_all (set_of file) 0 [] bodies

pub accepted-records : (file : List ℕ) (t : Totals) → Bytes file → surveyed file ≡ Accepted t → Records file t
unfolding surveyed
accepted-records file t hb e =
    let ran = within (leb 1 (length file) && leb (length file) 268_435_456) (run (set_of file) (length file) file 0 []) e in
    let x = found (set_of file) file hb t (length file) [] tt (none-opened (set_of file)) (omega arith) ran in
    let read = records-accepted file x.bodies (accepted-small file t e) x.bytes x.good in
    record { bodies = x.bodies; bytes = x.bytes; good = x.good; sums = injected (sym e ∙ read.answer); rows = read.rows }
  where
    within : (c : Bool) (a : Answer) → cond c a (Refused Size 0 0) ≡ Accepted t → a ≡ Accepted t
    within true a e = e
    within false a e = cc

    injected : {u v : Totals} → Accepted u ≡ Accepted v → u ≡ v
    injected e = cc
