-- Lent tables that hold a plain book, and go on holding it through every act. Assumes nothing.
use Prim.Native.Nat.{ℕ}
use mathlib.Core.Bool.{Bool, true, false, ◌||◌, cond}
use mathlib.Core.Path.{◌≡◌, refl, ap, ◌∙◌, subst}
use lib.Dec.{eqb}
use Rattle.book_model.specs.PlainList.{Free}
use Rattle.book_model.specs.Table.{is_owner, free_in}
use Rattle.book_model.proofs.Laws.{of_either}
use Rattle.book_model.proofs.Used.{not-theirs}
use Rattle.book_history.specs.Histories.{Call, Act, by, tidy, changed, Lent, reply, call_then, act_reply, lent_then, own_reply, own_then, PlainBook, list_of, free_then, no_owner, plain_reply, plain_then, zeros, empty_book}
use Rattle.book_history.proofs.Held.{Good, Holds, Called, holds-still}
use Rattle.book_history.proofs.EachCall.{refused, left, answered, called, tidy-done, tidied-up}
use Rattle.book_history.proofs.Empty.{empty, nobodys, all-free}

pub record Both (l : Lent) (b : PlainBook) : Type 0 where
  pub good : Good l
  pub first : Holds 1 l b.first
  pub second : Holds 2 l b.second
  pub free : free_in l.book l.list ≡ b.free

pub none-held : (n k : ℕ) → Both (zeros n k) (empty_book n k)
none-held n k = record { good = empty n k; first = nobodys 1 n k; second = nobodys 2 n k; free = all-free n k }

-- a call of no owner leaves the plain book too
neither : (x y z : PlainBook) (s t : Bool) → s || t ≡ false → cond s x (cond t y z) ≡ z
neither x y z true t e = cc
neither x y z false true e = cc
neither x y z false false e = refl

pub nobody-then : (b : PlainBook) (o : ℕ) (c : Call) → is_owner o ≡ false → plain_then b (by o c) ≡ b
unfolding is_owner plain_then
nobody-then b o c e = neither _ _ b (eqb o 1) (eqb o 2) e

-- an owner's list after a call: the owner's own call alone alters it
pub list-then : (b : PlainBook) (p : ℕ) (c : Call) (o : ℕ) → is_owner o ≡ true
    → list_of o (plain_then b (by p c)) ≡ cond (eqb p o) (own_then (list_of o b) b.free c) (list_of o b)
unfolding plain_then
list-then b p c o who = by-owner (is_owner p) refl
  where
    Then : ℕ → ℕ → Type 0
    Then p o = list_of o (plain_then b (by p c)) ≡ cond (eqb p o) (own_then (list_of o b) b.free c) (list_of o b)

    by-owner : (t : Bool) → is_owner p ≡ t → Then p o
    by-owner true owner =
        of_either (λ (q : ℕ). Then q o) (of_either (Then 1) refl refl o who) (of_either (Then 2) refl refl o who) p owner
    by-owner false nobody = rw (nobody-then b p c nobody, not-theirs o p who nobody)

module _ (l : Lent) (b : PlainBook) (s : Both l b) where
  pub holds_of : (o : ℕ) → is_owner o ≡ true → Holds o l (list_of o b)
  holds_of = of_either (λ (o : ℕ). Holds o l (list_of o b)) s.first s.second

  pub own-answered : (o : ℕ) (c : Call) → is_owner o ≡ true → reply l o c ≡ own_reply (list_of o b) (free_in l.book l.list) c
  own-answered o c who = answered l s.good o who (list_of o b) (holds_of o who) c

  pub answered-alike : (a : Act) → act_reply l a ≡ plain_reply b a
  unfolding plain_reply
  answered-alike (by o c) = by-owner (is_owner o) refl
    where
      by-owner : (t : Bool) → is_owner o ≡ t → reply l o c ≡ cond t (own_reply (list_of o b) b.free c) (no_owner c)
      by-owner true who = own-answered o c who ∙ ap (λ (f : Free). own_reply (list_of o b) f c) s.free
      by-owner false nobody = refused l s.good o nobody c
  answered-alike tidy = ap changed (tidy-done l s.good)

  -- the owner's call, with what is free told by the plain book
  own-called : (o : ℕ) (c : Call) → is_owner o ≡ true → Called o l (call_then l o c) (list_of o b) (own_then (list_of o b) b.free c)
  own-called o c who =
      subst (λ (f : Free). Called o l (call_then l o c) (list_of o b) (own_then (list_of o b) f c)) s.free
      (called l s.good o who (list_of o b) (holds_of o who) c)

  free-then : (o : ℕ) (c : Call) → is_owner o ≡ true
      → free_in (call_then l o c).book (call_then l o c).list ≡ free_then b.free (list_of o b) (own_then (list_of o b) b.free c)
  free-then o c who =
      (own-called o c who).free ∙ ap (λ (f : Free). free_then f (list_of o b) (own_then (list_of o b) b.free c)) s.free

  call-both : (o : ℕ) (c : Call) → is_owner o ≡ true → Both (call_then l o c) (plain_then b (by o c))
  unfolding plain_then is_owner
  call-both o c who = of_either (λ (p : ℕ). Both (call_then l p c) (plain_then b (by p c))) of-first of-second o who
    where
      of-first : Both (call_then l 1 c) (plain_then b (by 1 c))
      of-first =
          let u = own-called 1 c refl in
          record {
            good = u.good;
            first = u.holds;
            second = holds-still 2 l (call_then l 1 c) b.second (u.others 2 refl refl) s.second;
            free = free-then 1 c refl;
          }

      of-second : Both (call_then l 2 c) (plain_then b (by 2 c))
      of-second =
          let u = own-called 2 c refl in
          record {
            good = u.good;
            first = holds-still 1 l (call_then l 2 c) b.first (u.others 1 refl refl) s.first;
            second = u.holds;
            free = free-then 2 c refl;
          }

  pub still_both : (a : Act) → Both (lent_then l a) (plain_then b a)
  unfolding plain_then is_owner
  still_both (by o c) = by-owner (is_owner o) refl
    where
      by-owner : (t : Bool) → is_owner o ≡ t → Both (call_then l o c) (plain_then b (by o c))
      by-owner true who = call-both o c who
      by-owner false nobody = rw (left l s.good o nobody c, nobody-then b o c nobody) s
  still_both tidy =
      let u = tidied-up l s.good in
      record {
        good = u.good;
        first = holds-still 1 l (lent_then l tidy) b.first (u.same 1 refl) s.first;
        second = holds-still 2 l (lent_then l tidy) b.second (u.same 2 refl) s.second;
        free = u.free ∙ s.free;
      }
