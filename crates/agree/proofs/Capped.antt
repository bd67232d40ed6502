-- No answer differs where sums of cents stop at what no control field can state: no link looks at a sum, and a control record faults a sum that
-- stopped exactly as it faults the whole sum. Assumes nothing.
use Prim.Native.Nat.{ℕ, ◌+◌, ◌-◌, ◌≤◌}
use native.Mathlib.Omega.{arith}
use mathlib.Core.List.{List}
use mathlib.Core.Path.{◌≡◌, refl}
use lib.Dec.{eqb}
use lib.ListN.{drop, length-take}
use Rattle.text.specs.declared.character_set.CharacterSet.{CharacterSet}
use Rattle.text.specs.Number.{number}
use Rattle.text.proofs.Laws.{number-below}
use Rattle.measure.specs.Measures.{capped}
use Rattle.measure.proofs.Capped.{capped-stated}
use Rattle.standing.specs.History.{characters}
use Rattle.standing.specs.Standing.{capped_figures}
use Rattle.standing.specs.declared.Standing.{Standing}
use Rattle.agree.specs.Links.{link_fault}
use Rattle.agree.specs.Totals.{total_fault}

-- a control field has 16 digits at most
stated-capped : (set : CharacterSet) (file : List ℕ) (offset first size n : ℕ) → size ≤ 16
    → eqb (number set (characters file offset first size)) (capped n) ≡ eqb (number set (characters file offset first size)) n
stated-capped set file offset first size n h =
    capped-stated (number set (characters file offset first size)) n
    (number-below set (characters file offset first size) 16 (omega (arith, length-take size (drop (offset + 4 + (first - 1)) file))))

module _ (set : CharacterSet) (file : List ℕ) (s : Standing) (k offset : ℕ) where
  pub link-capped : link_fault set file (capped_figures s) k offset ≡ link_fault set file s k offset
  unfolding link_fault
  link-capped = refl

  -- the cents of the 70's fields 3, 4 and 7, the 90's 4 and 9, the 99's 5 and 8
  pub total-capped : total_fault set file (capped_figures s) k offset ≡ total_fault set file s k offset
  unfolding total_fault
  total-capped =
      rw (
        stated-capped set file offset 7 12 s.bundle.debit.0 (omega arith),
        stated-capped set file offset 19 12 s.micr.0 (omega arith),
        stated-capped set file offset 40 12 s.bundle.credit.0 (omega arith),
        stated-capped set file offset 17 14 s.letter.debit.0 (omega arith),
        stated-capped set file offset 72 14 s.letter.credit.0 (omega arith),
        stated-capped set file offset 25 16 s.whole.debit.0 (omega arith),
        stated-capped set file offset 65 16 s.whole.credit.0 (omega arith),
      )
