-- The order of the checks on one record (document 01, "Order"): each line has the condition, the fault where it fails, and what is asked
-- next. `s` is what stands before the record, `at` the offset of its length field, `body` the bytes after it.
use Rattle.std.specs.Prelude.{ℕ, List, leb, eqb, length, Err}
use Rattle.text.specs.declared.character_set.CharacterSet.{CharacterSet}
use Rattle.judge.specs.Alone.{Judged, Sound, type_of, judged_as}
use Rattle.order.specs.MayFollow.{is_carried, may_follow}
use Rattle.standing.specs.declared.Standing.{Standing}
use Rattle.agree.specs.Links.{link_fault}
use Rattle.agree.specs.Totals.{total_fault}
use Rattle.passes.specs.declared.Fault.{Fault}
use Rattle.passes.specs.declared.Fault.TheVariants.{Length, UnknownType, Place, Field, Link, Total}
use Rattle.passes.specs.Answers.{Turn, Faulty, Good}
use Rattle.frame.specs.Unless.{unless}
use Rattle.judge.specs.declared.Flaw.{Flaw}
use Rattle.judge.specs.declared.Flaw.TheVariants as flaws

-- what a flaw of a record alone is as a fault
abbrev pub fault_of : Flaw → Fault
fault_of flaws.Length = Length
fault_of flaws.UnknownType = UnknownType
fault_of (flaws.Field n) = Field n

-- a record alone: LENGTH, FIELD over the fixed fields, LENGTH, FIELD over the variable fields
abbrev pub unless_alone : Judged → Turn → Turn
unless_alone Sound next = next
unless_alone (Err flaw) next = Faulty (fault_of flaw)

-- LINK by lowest field, then TOTAL by lowest field
unfoldable pub agreement : CharacterSet → List ℕ → Standing → ℕ → ℕ → Turn
agreement set file s at t =
    unless (eqb (link_fault set file s t at) 0) (Faulty (Link (link_fault set file s t at)))
    (unless (eqb (total_fault set file s t at) 0) (Faulty (Total (total_fault set file s t at))) (Good t))

unfoldable pub turn_of : CharacterSet → List ℕ → Standing → ℕ → List ℕ → Turn
turn_of set file s at body =
    unless (leb 2 (length body)) (Faulty Length)
    (unless (is_carried (type_of set body)) (Faulty UnknownType)
    (unless (may_follow s.inside s.last s.present (type_of set body)) (Faulty Place)
    (unless_alone (judged_as set (type_of set body) body) (agreement set file s at (type_of set body)))))
