-- The totals of the reading are those of the arrangement. Assumes nothing.
use Prim.Native.Nat.{ℕ, ◌-◌, ◌≤◌}
use native.Mathlib.Nat.{add-zero}
use native.Mathlib.Omega.{arith}
use mathlib.Core.Path.{◌≡◌, ap, ◌∙◌}
use mathlib.Core.List.{List, [], ◌∷◌}
use mathlib.Core.Bool.{Bool, true, false, cond}
use lib.Dec.{eqb}
use lib.ListN.{length, length-take, drop}
use borrow.Author.Tests.{le-leb}
use Rattle.text.specs.declared.character_set.CharacterSet.{CharacterSet}
use Rattle.text.proofs.Laws.{number-below}
use Rattle.layout.specs.Layout.{Line, Layout}
use Rattle.layout.specs.Layouts.{file_control}
use Rattle.judge.specs.Alone.{characters_of}
use Rattle.measure.specs.Measures.{capped, unstatable}
use Rattle.order.specs.MayFollow.{is_item}
use Rattle.file_as_records.specs.Framed.{Body, field_among, field_of}
use Rattle.file_as_records.proofs.Good.{onto, totals_after}
use Rattle.file_as_records.proofs.Figures.{sum_since, count, is, never, debit_as, credit_as}
use Rattle.arrangement.specs.Tree.{File}
use Rattle.arrangement.specs.Written.{records}
use Rattle.arrangement.specs.Sound.{Sound, stated}
use Rattle.arrangement.specs.TypesInPlace.{Typed}
use Rattle.arrangement.specs.RowsAndTotals.{totals}
use Rattle.arrangement.proofs.After.{after_letters, length-onto, onto-letters}
use Rattle.arrangement.proofs.Counting.{adding}
use Rattle.arrangement.proofs.Levels.{debit_one, credit_one, file-figures}
use Rattle.arrangement.proofs.Quiet.{Quiet, quiet_step}

-- how many characters field n has at most, by the lines of a layout
abbrev size_among : List Line → ℕ → ℕ
size_among [] n = 0
size_among (l ∷ ls) n = cond (eqb l.number n) l.size (size_among ls n)

field-size : (ls : List Line) (n : ℕ) (b : Body) → length (field_among ls n b) ≤ size_among ls n
field-size [] n b = omega arith
field-size (l ∷ ls) n b = here (eqb l.number n) (field-size ls n b)
  where
    here : (found : Bool) → length (field_among ls n b) ≤ size_among ls n
        → length (cond found (characters_of l b) (field_among ls n b)) ≤ cond found l.size (size_among ls n)
    here true others = omega (arith, length-take l.size (drop (l.first - 1) b))
    here false others = others

-- a figure that a field of at most 16 characters states is not capped
pub stated-whole : (set : CharacterSet) (k : Layout) (n : ℕ) (b : Body) {figure : ℕ} → size_among k.lines n ≤ 16
    → stated set k n b ≡ figure → capped figure ≡ figure
stated-whole set k n b {figure} short e =
    let below = number-below set (field_of k n b) 16 (omega (arith, field-size k.lines n b)) in
    rw (le-leb figure unstatable (omega arith))

-- the 99 adds to no sum of the file
with-control : (set : CharacterSet) (measure : ℕ → Body → ℕ) → Quiet (adding never measure) 99 → (f : File) → Typed set f → {n : ℕ}
    → sum_since set never measure (after_letters (f.header ∷ []) f.letters) ≡ n → sum_since set never measure (onto (records f) []) ≡ n
with-control set measure q f k e =
    ap (sum_since set never measure) (onto-letters (f.header ∷ []) f.letters (f.control ∷ []))
    ∙ quiet_step set 0 (adding never measure) (after_letters (f.header ∷ []) f.letters) f.control 99 k.control q ∙ e

pub totals-of : (set : CharacterSet) (x : File) → Typed set x → Sound set x → totals_after set (onto (records x) []) ≡ totals set x
totals-of set x k s =
    let g = file-figures set x k in
    cc (
      with-control set (count (is 10)) (omega arith) x k g.letters,
      with-control set (count (is 20)) (omega arith) x k g.bundles,
      with-control set (count is_item) (omega arith) x k g.items,
      with-control set (debit_one set) (omega arith) x k g.debits,
      with-control set (debit_as set) (omega arith) x k g.debit,
      with-control set (credit_one set) (omega arith) x k g.credits,
      with-control set (credit_as set) (omega arith) x k g.credit,
      with-control set (count (is 50)) (omega arith) x k g.views,
      stated-whole set file_control 5 x.control (omega arith) s.debit-cents,
      stated-whole set file_control 8 x.control (omega arith) s.credit-cents,
      length-onto [] (records x),
      add-zero (length (records x)),
    )
