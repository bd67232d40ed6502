-- Records, each behind its length, that are read to an accepted end are good. Assumes nothing.
use Prim.Native.Nat.{ℕ, ◌+◌, ◌-◌, ◌≤◌}
use native.Mathlib.Omega.{arith}
use mathlib.Core.Bool.{Bool, true, false, ◌&&◌, cond}
use mathlib.Core.Path.{◌≡◌, refl, sym, ap, ◌∙◌}
use mathlib.Core.List.{List, [], ◌∷◌}
use lib.Dec.{leb, eqb}
use lib.ListN.{length, drop, length-drop}
use borrow.Author.Tests.{eqb-true}
use Rattle.text.specs.CharacterSet.{set_of}
use Rattle.text.specs.declared.character_set.CharacterSet.{CharacterSet}
use Rattle.frame.specs.Frames.{part}
use Rattle.frame.proofs.Laws.{whole-alike}
use Rattle.judge.specs.Alone.{type_of}
use Rattle.standing.specs.Standing.{standing}
use Rattle.passes.specs.declared.Fault.TheVariants.{Open, Size}
use Rattle.passes.specs.declared.Totals.{Totals}
use Rattle.passes.specs.Answers.{Step}
use Rattle.passes.specs.Answers.{Stop, On}
use Rattle.passes.specs.Answers.{Answer}
use Rattle.passes.specs.Answers.{Accepted, Refused}
use Rattle.passes.specs.Reading.{step_of, ended_with, run, surveyed}
use Rattle.passes.proofs.Laws.{run_end, run-stop, run_on}
use Rattle.file_as_records.specs.Framed.{Body, framed}
use Rattle.file_as_records.proofs.Figures.{last_in}
use Rattle.file_as_records.proofs.Good.{Good, GoodAll}
use Rattle.file_as_records.proofs.Held.{Held, extent, entries, over, stands}
use Rattle.file_as_records.proofs.Opened.{AllOpened, none-opened, all-opened}
use Rattle.file_as_records.proofs.ReadThrough.{long, body_is, part-is, rest-is, frame_is}
use Rattle.file_as_records.proofs.Steps.{turn-good}
use Rattle.passes.proofs.Laws as laws

accepted-end : (c : Bool) (u t : Totals) (place at : ℕ) → cond c (Accepted u) (Refused Open place at) ≡ Accepted t → c ≡ true
accepted-end true u t place at e = refl
accepted-end false u t place at e = cc

module _ (set : CharacterSet) (file : List ℕ) (small : length file ≤ 268_435_456) (t : Totals) where
  found : (bs : List Body) (n : ℕ) (past : List Body) → Held set file past → AllOpened set past → drop (extent past) file ≡ framed bs
      → length file ≤ extent past + n → run set n file (extent past) (entries set past) ≡ Accepted t → GoodAll set past bs
  unfolding ended_with
  found [] n past older opened e l ran =
      let end : length file ≤ extent past = omega (arith, ap length e, length-drop (extent past) file) in
      eqb-true (last_in set past) 99
      (accepted-end (eqb (over set past).last 99) _ t _ _
      (rw (stands set file past older) at (sym (run_end set file (extent past) (entries set past) n end) ∙ ran)))
  found (b ∷ bs) n past older opened e l ran =
      by (step_of set file (standing set file (entries set past)) (extent past)) refl
      (λ g q.
      found bs (n - 1) (b ∷ past) (record { rest = framed bs; body = body_is file (extent past) b (framed bs) e; sound = g.alone }, older)
      (all-opened set b past opened g.follows) (rest-is file (extent past) b (framed bs) e)
      (omega (arith, l, long file (extent past) b (framed bs) e)) q)
    where
      by : (s : Step) → step_of set file (standing set file (entries set past)) (extent past) ≡ s
          → ((g : Good set past b) → run set (n - 1) file (extent (b ∷ past)) (entries set (b ∷ past)) ≡ Accepted t → GoodAll set (b ∷ past) bs)
          → GoodAll set past (b ∷ bs)
      by (Stop fault) q others =
          let more = long file (extent past) b (framed bs) e in
          let stopped = run-stop set file (extent past) (entries set past) n fault (omega arith) (omega arith) q in
          let z : ◌≡◌ {A = ℕ} 0 1 = cc in absurd (omega arith)
      by (On u size) q others =
          let more = long file (extent past) b (framed bs) e in
          let f = laws.framed set file (standing set file (entries set past)) (extent past) u size q in
          let there = whole-alike (sym f.whole ∙ frame_is file (extent past) b (framed bs) e small) in
          let body : part f.start size file ≡ b = rw (there.0, there.1) (part-is file (extent past) b (framed bs) e) in
          let type : u ≡ type_of set b = sym f.type ∙ ap (type_of set) body in
          let good : Good set past b =
          turn-good set file past older opened (extent past) b (framed bs) (body_is file (extent past) b (framed bs) e)
          (rw (body, stands set file past older) at f.turn) in
          record {
            first = good;
            rest =
                others good
                (rw (type, there.1) at (sym (run_on set file (extent past) (entries set past) n u size (omega arith) (omega arith) q) ∙ ran));
          }

pub accepted-good : (bs : List Body) (t : Totals) → length (framed bs) ≤ 268_435_456 → surveyed (framed bs) ≡ Accepted t
    → GoodAll (set_of (framed bs)) [] bs
unfolding surveyed
accepted-good bs t small e =
    found (set_of (framed bs)) (framed bs) small t bs (length (framed bs)) [] tt (none-opened (set_of (framed bs))) refl (omega arith)
    (within (leb 1 (length (framed bs)) && leb (length (framed bs)) 268_435_456) _ e)
  where
    within : (c : Bool) (a : Answer) → cond c a (Refused Size 0 0) ≡ Accepted t → a ≡ Accepted t
    within true a e = e
    within false a e = cc
