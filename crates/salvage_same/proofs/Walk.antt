-- The records of an accepted file are those walked. Assumes nothing.
use Prim.Native.Nat.{ℕ, zero, suc, ◌+◌, ◌≤◌}
use native.Mathlib.Omega.{arith}
use mathlib.Core.Bool.{Bool, true, false, cond}
use mathlib.Core.Path.{◌≡◌, refl, sym, ap, ◌∙◌}
use mathlib.Core.List.{List, [], ◌∷◌}
use lib.Dec.{leb, eqb}
use lib.ListN.{length, drop, length-drop}
use borrow.Author.Tests.{leb-true}
use Rattle.text.specs.CharacterSet.{set_of}
use Rattle.text.specs.declared.character_set.CharacterSet.{CharacterSet}
use Rattle.frame.specs.Frames.{Frame}
use Rattle.frame.specs.Frames.{Cut, Whole}
use Rattle.frame.specs.Frames.{length_at, frame_at}
use Rattle.frame.specs.Unless.{unless}
use Rattle.judge.specs.Alone.{type_of}
use Rattle.file_as_records.specs.Framed.{Body, framed}
use Rattle.file_as_records.proofs.Good.{GoodAll}
use Rattle.file_as_records.proofs.Opened.{none_after}
use Rattle.file_as_records.proofs.ReadThrough.{part-is, rest-is, frame_is, long}
use Rattle.file_as_records.proofs.Tests.{refuted}
use Rattle.arrangement.specs.Tree.{File}
use Rattle.arrangement.specs.Written.{records}
use Rattle.arrangement.specs.Arranged.{Arranges}
use Rattle.arrangement.proofs.Goodness.{sound-good}
use Rattle.salvage_written.proofs.ReadRun.{two-long}
use Rattle.salvage_model.specs.Walked.{walked_on, walked_from, walked}

-- nothing is walked where the bytes end
ended : (set : CharacterSet) (n : ℕ) (file : List ℕ) (at : ℕ) → length file ≤ at → walked_from set n file at ≡ []
unfolding walked_from frame_at
ended set zero file at h = refl
ended set (suc n) file at h = by (leb (at + 4) (length file)) refl
  where
    by : (c : Bool) → leb (at + 4) (length file) ≡ c → walked_on set file (unless c Cut (unless (leb (at + 4 + length_at file at) (length file)) Cut (Whole (at + 4) (length_at file at)))) (λ next. walked_from set n file next) ≡ []
    by true q = absurd (omega (arith, leb-true (at + 4) (length file) q))
    by false q = refl

module _ (set : CharacterSet) (file : List ℕ) (small : length file ≤ 268_435_456) where
  walked-good : (bs : List Body) (n at : ℕ) (past : List Body) → GoodAll set past bs → drop at file ≡ framed bs → length file ≤ at + n
      → walked_from set n file at ≡ bs
  unfolding walked_from
  walked-good [] n at past g e l = ended set n file at (omega (arith, ap length e, length-drop at file))
  walked-good (b ∷ bs) zero at past g e l = absurd (omega (arith, long file at b (framed bs) e))
  walked-good (b ∷ bs) (suc n) at past g e l =
      ap (λ (f : Frame). walked_on set file f (λ next. walked_from set n file next)) (frame_is file at b (framed bs) e small)
      ∙ ap (λ (c : Body). cond (leb 2 (length b)) (c ∷ cond (eqb (type_of set c) 99) [] (walked_from set n file (at + 4 + length b))) [])
      (part-is file at b (framed bs) e)
      ∙ ap (λ (c : Bool). cond c (b ∷ cond (eqb (type_of set b) 99) [] (walked_from set n file (at + 4 + length b))) [])
      (two-long set b g.first.carried)
      ∙ ap (λ (x : List Body). b ∷ x) (to-99 (eqb (type_of set b) 99) refl
      (walked-good bs n (at + 4 + length b) (b ∷ past) g.rest (rest-is file at b (framed bs) e)
      (omega (arith, l, long file at b (framed bs) e))))
    where
      to-99 : (c : Bool) → eqb (type_of set b) 99 ≡ c → walked_from set n file (at + 4 + length b) ≡ bs → cond c [] (walked_from set n file (at + 4 + length b)) ≡ bs
      to-99 true q others = nothing bs g.rest
        where
          nothing : (cs : List Body) → GoodAll set (b ∷ past) cs → [] ≡ cs
          nothing [] h = refl
          nothing (c ∷ cs) h = refuted (eqb (type_of set b) 99) (none_after set (b ∷ past) (type_of set c) h.first.follows) q
      to-99 false q others = others

pub walked-records : (file : List ℕ) (x : File) → Arranges file x → walked file ≡ records x
unfolding walked
walked-records file x a =
    walked-good (set_of file) file a.size (records x) (length file) 0 [] (sound-good (set_of file) x a.sound) (sym a.bytes) (omega arith)
