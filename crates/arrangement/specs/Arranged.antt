-- Demand 3: a file is accepted exactly when some arrangement, written out, gives these very bytes with everything in it right; never do two
-- arrangements fit; the rows and the totals are those of that arrangement.
use Rattle.std.specs.Prelude.{ℕ, ◌*◌, ◌≤◌, ◌<◌, ◌↔◌, ◌≡◌, List, ◌++◌, length, drop}
use Rattle.text.specs.CharacterSet.{set_of}
use Rattle.layout.specs.Layouts.{file_control}
use Rattle.passes.specs.declared.Fault.TheVariants.{Room}
use Rattle.passes.specs.declared.Totals.{Totals}
use Rattle.passes.specs.Answers.{Answer}
use Rattle.passes.specs.Answers.{Accepted, Refused}
use Rattle.arrangement.specs.Tree.{File}
use Rattle.arrangement.specs.Written.{records, written}
use Rattle.arrangement.specs.Sound.{stated, Sound}
use Rattle.arrangement.specs.RowsAndTotals.{rows, totals}

-- an arrangement of a file within the size limit: sound, and written out it is the file
pub record Arranges (file : List ℕ) (x : File) : Type 0 where
  pub sound : Sound (set_of file) x
  pub bytes : written x ≡ file
  pub size : length file ≤ 268_435_456

abbrev pub IsAccepted : Answer → Type 0
IsAccepted answer = (t : Totals) × (answer ≡ Accepted t)

-- "Rows available = whole sevens in the lent slice"
abbrev pub HasRoom : List ℕ → File → Type 0
HasRoom table x = 7 * length (records x) ≤ length table

-- what the answer to a file and the lent table afterwards say of its arrangement
pub record Arranged (file table : List ℕ) (answer : Answer) (after : List ℕ) : Type 0 where
  pub exact : IsAccepted answer ↔ ((x : File) × Arranges file x × HasRoom table x)
  pub alone : (x y : File) → Arranges file x → Arranges file y → x ≡ y
  pub its-totals : (x : File) → Arranges file x → IsAccepted answer → answer ≡ Accepted (totals (set_of file) x)
  pub its-rows : (x : File) → Arranges file x → IsAccepted answer → after ≡ rows (set_of file) x ++ drop (length (rows (set_of file) x)) table
  -- the item count and the amounts, as returned, are those that the 99 states (and, by Sound and `totals`, those of all the items, of all
  -- the debits and of all the credits added up)
  pub its-control : (x : File) (t : Totals) → Arranges file x → answer ≡ Accepted t
      → (t.items.0 ≡ stated (set_of file) file_control 4 x.control) × (t.sums.debit.0 ≡ stated (set_of file) file_control 5 x.control)
      × (t.sums.credit.0 ≡ stated (set_of file) file_control 8 x.control)
  pub its-room : (x : File) → Arranges file x → length table < 7 * length (records x) → answer ≡ Refused Room (length (records x)) 0
