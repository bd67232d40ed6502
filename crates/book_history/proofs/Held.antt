-- Lent tables that are a book and its list, an owner's own that they hold, and what a call leaves of both. Assumes nothing.
use Prim.Native.Nat.{ℕ, ◌+◌, ◌-◌}
use native.Mathlib.Omega.{arith}
use mathlib.Core.Bool.{true, false}
use mathlib.Core.Path.{◌≡◌, refl, ◌∙◌}
use lib.Dec.{eqb}
use lib.ListN.{length}
use Rattle.book_model.specs.PlainList.{Own}
use Rattle.book_model.specs.Table.{is_owner, last_number, entries_of, taken_by, free_in, is_book, is_list}
use Rattle.book_history.specs.Histories.{Lent, free_then}
use Rattle.book_history.proofs.Matched.{Matched}

pub record Good (l : Lent) : Type 0 where
  pub book : is_book l.book ≡ true
  pub list : is_list l.list ≡ true

pub record Holds (o : ℕ) (l : Lent) (own : Own) : Type 0 where
  pub entries : Matched own.last (entries_of o l.book) own.entries
  pub last : last_number o l.book ≡ own.last
  pub taken : taken_by o l.list ≡ own.taken

-- all that is an owner's stays
pub record Same (p : ℕ) (l after : Lent) : Type 0 where
  pub entries : entries_of p after.book ≡ entries_of p l.book
  pub last : last_number p after.book ≡ last_number p l.book
  pub taken : taken_by p after.list ≡ taken_by p l.list

pub holds-still : (p : ℕ) (l after : Lent) (own : Own) → Same p l after → Holds p l own → Holds p after own
holds-still p l after own s h =
    record { entries = rw s.entries h.entries; last = s.last ∙ h.last; taken = s.taken ∙ h.taken }

-- an owner's call
pub record Called (o : ℕ) (l after : Lent) (own next : Own) : Type 0 where
  pub good : Good after
  pub holds : Holds o after next
  pub others : (p : ℕ) → is_owner p ≡ true → eqb o p ≡ false → Same p l after
  pub free : free_in after.book after.list ≡ free_then (free_in l.book l.list) own next

pub unchanged : (o : ℕ) (l : Lent) (own : Own) → Good l → Holds o l own → Called o l l own own
unchanged o l own g h =
    record {
      good = g;
      holds = h;
      others = λ p who e. record { entries = refl; last = refl; taken = refl };
      free = λ i. record { rows = back (free_in l.book l.list).rows (length own.entries) i; places = back (free_in l.book l.list).places (length own.taken) i };
    }
  where
    back : (a b : ℕ) → a ≡ a + b - b
    back a b = omega arith

-- a tidy-up
pub record TidiedUp (l after : Lent) : Type 0 where
  pub good : Good after
  pub same : (p : ℕ) → is_owner p ≡ true → Same p l after
  pub free : free_in after.book after.list ≡ free_in l.book l.list
