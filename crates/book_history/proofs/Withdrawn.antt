-- Withdrawing an entry: it is answered on the owner's own list, and what it leaves is that list without the entry. Assumes nothing.
use Rattle.std.specs.Prelude.{Ok, Err}
use Prim.Native.Nat.{ℕ, suc, ◌+◌, ◌-◌}
use native.Mathlib.Omega.{arith}
use mathlib.Core.Bool.{Bool, true, false}
use mathlib.Core.Path.{◌≡◌, refl, sym, ap, ◌∙◌}
use mathlib.Core.List.{List}
use lib.Dec.{eqb}
use lib.ListN.{length}
use borrow.Author.Tests.{eq-eqb}
use Rattle.frame.specs.Unless.{unless}
use Rattle.passes.specs.declared.Fault.TheVariants.{Range}
use Rattle.figures.specs.declared.Figures.{Figures}
use Rattle.net.specs.Net.{within}
use Rattle.book_model.specs.declared.Entry.{Entry}
use Rattle.book_model.specs.PlainList.{Finding, Change, Own, totals_of, position_of, finding, without, of_finding, withdrawing, after_withdrawing}
use Rattle.book_model.specs.Table.{is_owner, entries_of, free_rows, free_places, free_in, without_entry}
use Rattle.book_model.specs.Calls.{book_withdrawn}
use Rattle.book_model.proofs.Laws.{sound}
use Rattle.book_model.proofs.Without.{found-many}
use Rattle.book_model.proofs.Used.{used-claimed, own-claimed}
use Rattle.book_model.proofs.Head.{as-there, still-book}
use Rattle.book_model.proofs.FewerEntries.{Shrunk, shrunk, shrunk-used}
use Rattle.book_history.specs.Histories.{Lent, free_then}
use Rattle.book_history.proofs.Matched.{Matched, totals-fewer, matched-fewer}
use Rattle.book_history.proofs.Held.{Good, Holds, Same, Called, unchanged}

-- withdrawing looks at what is found and at the totals without it alone
pub withdrawing-alike : (last : ℕ) (es fs : List Entry) (n : ℕ) → Matched last es fs → withdrawing es n ≡ withdrawing fs n
unfolding withdrawing
withdrawing-alike last es fs n s = by-finding (finding es n) refl
  where
    by-finding : (a : Finding) → finding es n ≡ a → withdrawing es n ≡ withdrawing fs n
    by-finding (Ok x) e =
        rw (e, sym (s.found n) ∙ e) (ap (λ (f : Figures). unless (within (position_of f)) (Err Range) (Ok tt)) (totals-fewer last es fs s n x e))
    by-finding (Err fault) e = rw (e, sym (s.found n) ∙ e)

-- what is withdrawn was there, and the rest keeps the net position within its bound
pub record There (es : List Entry) (n : ℕ) : Type 0 where
  pub entry : Entry
  pub is : finding es n ≡ Ok entry
  pub inside : within (position_of (totals_of (without n es))) ≡ true

pub there : (es : List Entry) (n : ℕ) → withdrawing es n ≡ Ok tt → There es n
unfolding withdrawing
there es n e = by-finding (finding es n) refl (within (position_of (totals_of (without n es)))) refl e
  where
    by-finding : (a : Finding) → finding es n ≡ a → (t : Bool) → within (position_of (totals_of (without n es))) ≡ t
        → of_finding a (unless t (Err Range) (Ok tt)) ≡ Ok tt → There es n
    by-finding (Ok x) q true r h = record { entry = x; is = q; inside = r }
    by-finding (Ok x) q false r h = absurd (let z : ◌≡◌ {A = ℕ} 0 1 = cc in omega arith)
    by-finding (Err fault) q t r h = absurd (let z : ◌≡◌ {A = ℕ} 0 1 = cc in omega arith)

module _ (o : ℕ) (who : is_owner o ≡ true) (l : Lent) (good : Good l) (own : Own) (h : Holds o l own) (n : ℕ) where
  module _ (t : There (entries_of o l.book) n) where
    abbrev after : Lent
    after = record { book = without_entry o l.book n; list = l.list }

    abbrev next : Own
    next = record { entries = without n own.entries; last = own.last; taken = own.taken }

    one : length (entries_of o l.book) ≡ suc (length (without n (entries_of o l.book)))
    one = found-many n t.entry (entries_of o l.book) t.is

    shrinks : Shrunk o n l.book (without_entry o l.book n)
    shrinks = shrunk o n l.book good.book who (omega (arith, one, own-claimed l.book o who)) t.inside

    matched : Matched own.last (without n (entries_of o l.book)) (without n own.entries)
    matched = matched-fewer own.last (entries_of o l.book) own.entries h.entries n t.entry t.is

    held : Holds o after next
    held =
        record {
          entries = rw (shrinks.entries o who, eq-eqb o o refl) matched;
          last = shrinks.lasts o who ∙ h.last;
          taken = h.taken;
        }

    stays : (p : ℕ) → is_owner p ≡ true → eqb o p ≡ false → Same p l after
    stays p other e = record { entries = rw e at (shrinks.entries p other); last = shrinks.lasts p other; taken = refl }

    more : free_in after.book after.list ≡ free_then (free_in l.book l.list) own next
    more = λ i. record { rows = rows i; places = places i }
      where
        rows : free_rows after.book ≡ free_rows l.book + length own.entries - length (without n own.entries)
        rows =
            omega (arith, one, h.entries.many, matched.many, as-there l.book after.book shrinks.still, shrunk-used o n l.book after.book who one shrinks, used-claimed l.book, (sound l.book good.book).claims)

        places : free_places l.list ≡ free_places l.list + length own.taken - length own.taken
        places = omega arith

    withdraws : Called o l after own next
    withdraws =
        record {
          good = record { book = still-book l.book after.book shrinks.still; list = good.list };
          holds = held;
          others = stays;
          free = more;
        }

  pub after-change : (a : Change) → withdrawing (entries_of o l.book) n ≡ a
      → Called o l (record { book = book_withdrawn o n l.book a; list = l.list }) own (after_withdrawing own n a)
  after-change (Ok done) e = withdraws (there (entries_of o l.book) n e)
  after-change (Err fault) e = unchanged o l own good h
