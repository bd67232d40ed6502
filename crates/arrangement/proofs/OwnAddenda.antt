-- The addenda of an item, counted against those that it states. Assumes nothing.
use Prim.Native.Nat.{ℕ, ◌+◌, ◌≤◌}
use native.Mathlib.Omega.{arith}
use mathlib.Core.Bool.{true, cond}
use mathlib.Core.Option.{Option, none, some}
use mathlib.Core.Path.{◌≡◌, refl, ◌∙◌}
use mathlib.Core.List.{List, [], ◌∷◌, ◌++◌}
use lib.ListN.{length, length-append}
use Rattle.text.specs.declared.character_set.CharacterSet.{CharacterSet}
use Rattle.layout.specs.Layout.{Layout}
use Rattle.layout.specs.Layouts.{check_detail_addendum_a, check_detail_addendum_b, check_detail_addendum_c, return_addendum_a, return_addendum_b, return_addendum_c, return_addendum_d}
use Rattle.order.specs.MayFollow.{is_item, is_addendum}
use Rattle.standing.specs.History.{is_bofd_addendum, is_endorser_addendum}
use Rattle.file_as_records.specs.Framed.{Body}
use Rattle.file_as_records.proofs.Figures.{value, count, stated_as, stated_in, addenda_in, endorser_in}
use Rattle.file_as_records.proofs.Good.{onto}
use Rattle.arrangement.specs.Tree.{Addenda, of_check, of_return, of_credit}
use Rattle.arrangement.specs.Written.{optional_then, addenda_then}
use Rattle.arrangement.specs.Sound.{IfAny}
use Rattle.arrangement.specs.TypesInPlace.{OfType, TypedAddenda, TypedOfCheck, TypedOfReturn}
use Rattle.arrangement.proofs.Rightness.{Known, known-26, known-27, known-28, known-32, known-33, known-34, known-35}
use Rattle.arrangement.proofs.Counting.{count-run, Counts, adding}
use Rattle.arrangement.proofs.Quiet.{Quiet, step, quiet-optional, quiet-run, quiet_step}
use Rattle.arrangement.proofs.InItem.{next_inside}
use Rattle.arrangement.proofs.After.{after_optional, after_addenda}

abbrev pub next_addenda : ℕ → Body → ℕ → ℕ
next_addenda t b x = adding is_item (count is_addendum) t b x

abbrev pub next_stated : CharacterSet → ℕ → Body → ℕ → ℕ
next_stated set t b x = cond (is_item t) (stated_as set t b) x

abbrev pub next_bofd : ℕ → Body → ℕ → ℕ
next_bofd t b x = adding is_item (count is_bofd_addendum) t b x

abbrev pub next_endorser : ℕ → Body → ℕ → ℕ
next_endorser t b x = adding is_item (count is_endorser_addendum) t b x

-- no more addenda than the item states
abbrev pub Short : CharacterSet → List Body → Type 0
Short set past = addenda_in set past ≤ stated_in set past

-- the layout of an addendum
pub record Adds (set : CharacterSet) (k : Layout) : Type 0 where
  pub known : Known set k
  pub addendum : is_addendum k.type_number ≡ true
  pub more : Counts next_addenda k.type_number
  pub same-stated : Quiet (next_stated set) k.type_number
  pub same-inside : Quiet next_inside k.type_number

pub adds-26 : (set : CharacterSet) → Adds set check_detail_addendum_a
adds-26 set = record { known = known-26 set; addendum = refl; more = λ b x. refl; same-stated = λ b x. refl; same-inside = λ b x. refl }

pub adds-27 : (set : CharacterSet) → Adds set check_detail_addendum_b
adds-27 set = record { known = known-27 set; addendum = refl; more = λ b x. refl; same-stated = λ b x. refl; same-inside = λ b x. refl }

pub adds-28 : (set : CharacterSet) → Adds set check_detail_addendum_c
adds-28 set = record { known = known-28 set; addendum = refl; more = λ b x. refl; same-stated = λ b x. refl; same-inside = λ b x. refl }

pub adds-32 : (set : CharacterSet) → Adds set return_addendum_a
adds-32 set = record { known = known-32 set; addendum = refl; more = λ b x. refl; same-stated = λ b x. refl; same-inside = λ b x. refl }

pub adds-33 : (set : CharacterSet) → Adds set return_addendum_b
adds-33 set = record { known = known-33 set; addendum = refl; more = λ b x. refl; same-stated = λ b x. refl; same-inside = λ b x. refl }

pub adds-34 : (set : CharacterSet) → Adds set return_addendum_c
adds-34 set = record { known = known-34 set; addendum = refl; more = λ b x. refl; same-stated = λ b x. refl; same-inside = λ b x. refl }

pub adds-35 : (set : CharacterSet) → Adds set return_addendum_d
adds-35 set = record { known = known-35 set; addendum = refl; more = λ b x. refl; same-stated = λ b x. refl; same-inside = λ b x. refl }

length-optional : (o : Option Body) (bs : List Body) → length (optional_then o bs) ≡ length (optional_then o []) + length bs
length-optional none bs = omega arith
length-optional (some b) bs = omega arith

-- a figure that every addendum adds one to
module _ (set : CharacterSet) (next : ℕ → Body → ℕ → ℕ) where
  count-optional : (past : List Body) (o : Option Body) (t : ℕ) → IfAny (OfType set t) o → Counts next t
      → value set 0 next (after_optional past o) ≡ length (optional_then o []) + value set 0 next past
  count-optional past none t k c = omega arith
  count-optional past (some b) t k c = step set 0 next past b t k ∙ c b (value set 0 next past)

pub addenda-count : (set : CharacterSet) (past : List Body) (a : Addenda) → TypedAddenda set a
    → addenda_in set (after_addenda past a) ≡ length (addenda_then a []) + addenda_in set past
addenda-count set past (of_check a b c) k =
    omega (
      arith,
      count-run set 0 next_addenda (after_optional (onto a past) b) c 28 k.addenda-c (λ x n. refl),
      count-optional set next_addenda (onto a past) b 27 k.addendum-b (λ x n. refl),
      count-run set 0 next_addenda past a 26 k.addenda-a (λ x n. refl),
      length-append a (optional_then b (c ++ [])),
      length-optional b (c ++ []),
      length-append c [],
    )
addenda-count set past (of_return a b c d) k =
    omega (
      arith,
      count-run set 0 next_addenda (after_optional (b ∷ onto a past) c) d 35 k.addenda-d (λ x n. refl),
      count-optional set next_addenda (b ∷ onto a past) c 34 k.addendum-c (λ x n. refl),
      step set 0 next_addenda (onto a past) b 33 k.addendum-b,
      count-run set 0 next_addenda past a 32 k.addenda-a (λ x n. refl),
      length-append a (b ∷ optional_then c (d ++ [])),
      length-optional c (d ++ []),
      length-append d [],
    )
addenda-count set past of_credit k = omega arith

-- the number of an endorser stays over the addenda before the 28s, or the 35s
pub endorser-check : (set : CharacterSet) (past a : List Body) (b : Option Body) (c : List Body) → TypedOfCheck set a b c
    → endorser_in set (after_optional (onto a past) b) ≡ endorser_in set past
endorser-check set past a b c typed =
    quiet-optional set 0 next_endorser (onto a past) b 27 typed.addendum-b (λ d y. omega arith)
    ∙ quiet-run set 0 next_endorser past a 26 typed.addenda-a (λ d y. omega arith)

pub endorser-return : (set : CharacterSet) (past a : List Body) (b : Body) (c : Option Body) (d : List Body) → TypedOfReturn set a b c d
    → endorser_in set (after_optional (b ∷ onto a past) c) ≡ endorser_in set past
endorser-return set past a b c d typed =
    quiet-optional set 0 next_endorser (b ∷ onto a past) c 34 typed.addendum-c (λ d y. omega arith)
    ∙ quiet_step set 0 next_endorser (onto a past) b 33 typed.addendum-b (λ d y. omega arith)
    ∙ quiet-run set 0 next_endorser past a 32 typed.addenda-a (λ d y. omega arith)
