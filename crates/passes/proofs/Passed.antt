-- A turn that goes on has passed each check; and two records that are alike have the same turn. Assumes nothing.
use Prim.Native.Nat.{ℕ, ◌≤◌}
use mathlib.Core.Bool.{Bool, true, false}
use mathlib.Core.List.{List}
use mathlib.Core.Path.{◌≡◌, refl}
use lib.Dec.{leb, eqb}
use lib.ListN.{length}
use borrow.Author.Tests.{leb-true, eqb-true}
use Rattle.text.specs.declared.character_set.CharacterSet.{CharacterSet}
use Rattle.frame.specs.Unless.{unless}
use Rattle.judge.specs.Alone.{type_of, judged_as}
use Rattle.judge.specs.Alone.{Judged}
use Rattle.judge.specs.Alone.{Sound, WrongLength, UnknownType, WrongField}
use Rattle.order.specs.MayFollow.{is_carried, may_follow}
use Rattle.standing.specs.declared.Standing.{Standing}
use Rattle.agree.specs.Links.{link_fault}
use Rattle.agree.specs.Totals.{total_fault}
use Rattle.passes.specs.declared.Fault.{Fault}
use Rattle.passes.specs.declared.Fault.TheVariants.{Length, Place, Link, Total}
use Rattle.passes.specs.Answers.{Turn}
use Rattle.passes.specs.Answers.{Faulty, Good}
use Rattle.passes.specs.CheckOrder.{unless_alone, agreement, turn_of}
use Rattle.passes.specs.declared.Fault.TheVariants as faults

-- one check passed, and the turn that goes on behind it
record Through (Check : Type 0) (next : Turn) (t : ℕ) : Type 0 where
  check : Check
  on : next ≡ Good t

through : (c : Bool) (fault : Fault) (next : Turn) {t : ℕ} → unless c (Faulty fault) next ≡ Good t → Through (c ≡ true) next t
through true fault next e = record { check = refl; on = e }
through false fault next e = record { check = cc; on = cc }

through-alone : (j : Judged) (next : Turn) {t : ℕ} → unless_alone j next ≡ Good t → Through (j ≡ Sound) next t
through-alone Sound next e = record { check = refl; on = e }
through-alone WrongLength next e = record { check = cc; on = cc }
through-alone UnknownType next e = record { check = cc; on = cc }
through-alone (WrongField n) next e = record { check = cc; on = cc }

-- all of them
pub record Passed (set : CharacterSet) (file : List ℕ) (s : Standing) (at t : ℕ) (body : List ℕ) : Type 0 where
  pub type : type_of set body ≡ t
  pub long : 2 ≤ length body
  pub carried : is_carried (type_of set body) ≡ true
  pub follows : may_follow s.inside s.last s.present (type_of set body) ≡ true
  pub alone : judged_as set (type_of set body) body ≡ Sound
  pub linked : link_fault set file s (type_of set body) at ≡ 0
  pub totalled : total_fault set file s (type_of set body) at ≡ 0

module _ (set : CharacterSet) {file : List ℕ} {s : Standing} {at : ℕ} {body : List ℕ} where
  pub passed : {t : ℕ} → turn_of set file s at body ≡ Good t → Passed set file s at t body
  unfolding turn_of agreement
  passed e =
      let k = type_of set body in
      let long = through (leb 2 (length body)) Length _ e in
      let carries = through (is_carried k) faults.UnknownType _ long.on in
      let placed = through (may_follow s.inside s.last s.present k) Place _ carries.on in
      let judged = through-alone (judged_as set k body) _ placed.on in
      let links = through (eqb (link_fault set file s k at) 0) (Link (link_fault set file s k at)) _ judged.on in
      let sums = through (eqb (total_fault set file s k at) 0) (Total (total_fault set file s k at)) _ links.on in
      record {
        type = cc sums.on;
        long = leb-true 2 (length body) long.check;
        carried = carries.check;
        follows = placed.check;
        alone = judged.check;
        linked = eqb-true _ 0 links.check;
        totalled = eqb-true _ 0 sums.check;
      }

-- a check that two turns pass alike
under : (c : Bool) (fault : Fault) {x y : Turn} → (c ≡ true → x ≡ y) → unless c (Faulty fault) x ≡ unless c (Faulty fault) y
under true fault h = h refl
under false fault h = refl

-- two records that are alike alone have the same turn, where they agree alike with those before them
module _ (set set' : CharacterSet) (file other : List ℕ) (s : Standing) (at : ℕ) (body body' : List ℕ) where
  pub turns-alike : length body' ≡ length body → type_of set' body' ≡ type_of set body
      → judged_as set' (type_of set body) body' ≡ judged_as set (type_of set body) body
      → (may_follow s.inside s.last s.present (type_of set body) ≡ true → judged_as set (type_of set body) body ≡ Sound
      → agreement set' other s at (type_of set body) ≡ agreement set file s at (type_of set body))
      → turn_of set' other s at body' ≡ turn_of set file s at body
  unfolding turn_of
  turns-alike long type judged agree =
      rw (long, type, judged)
      (under (leb 2 (length body)) Length
      (λ l. under (is_carried (type_of set body)) faults.UnknownType
      (λ c. under _ Place (λ follows. cases follows (judged_as set (type_of set body) body) refl))))
    where
      cases : may_follow s.inside s.last s.present (type_of set body) ≡ true → (j : Judged) → judged_as set (type_of set body) body ≡ j
          → unless_alone j (agreement set' other s at (type_of set body)) ≡ unless_alone j (agreement set file s at (type_of set body))
      cases follows Sound e = agree follows e
      cases follows WrongLength e = refl
      cases follows UnknownType e = refl
      cases follows (WrongField n) e = refl
