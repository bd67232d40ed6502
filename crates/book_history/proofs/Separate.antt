-- What an owner is answered, and what its list becomes, is what its own calls give with what is free at each of them. Assumes nothing.
use Prim.Native.Nat.{ℕ}
use mathlib.Core.Bool.{Bool, true, false, cond}
use mathlib.Core.Path.{◌≡◌, refl, sym, ap, ◌∙◌, subst}
use mathlib.Core.List.{List, [], ◌∷◌}
use lib.Dec.{eqb}
use borrow.Author.Tests.{eqb-true}
use Rattle.book_model.specs.PlainList.{Own, Free}
use Rattle.book_model.specs.Table.{is_owner, own_of, free_in}
use Rattle.book_model.proofs.Laws.{of_either}
use Rattle.book_history.specs.Histories.{Call, by, tidy, History, Lent, reply, call_then, lent_then, lent_after, own_reply, own_then, nothing, PlainBook, list_of, plain_then, zeros, empty_book}
use Rattle.book_history.specs.Separate.{calls_of, replies_to, own_replies, own_after, SameOwn, ItsOwn, AlwaysSeparate}
use Rattle.book_history.proofs.Both.{Both, none-held, list-then, holds_of, own-answered, still_both}

module _ (o : ℕ) (who : is_owner o ≡ true) where
  -- a history on tables that hold an owner's list
  record OnTables (l : Lent) (own : Own) (history : History) : Type 0 where
    answers : replies_to o l history ≡ own_replies own (calls_of o l history)
    entries : SameOwn (own_of o (lent_after l history).book (lent_after l history).list) (own_after own (calls_of o l history))

  module _ (l : Lent) (b : PlainBook) (s : Both l b) (p : ℕ) (c : Call) (more : History) where
    abbrev own : Own
    own = list_of o b

    abbrev next : Own
    next = own_then own (free_in l.book l.list) c

    abbrev its : List (Free × Call)
    its = calls_of o (call_then l p c) more

    -- whether the call is the owner's
    abbrev After : Bool → Type 0
    After t =
        (cond t (reply l p c ∷ replies_to o (call_then l p c) more) (replies_to o (call_then l p c) more)
        ≡ own_replies own (cond t ((free_in l.book l.list, c) ∷ its) its))
        × SameOwn (own_of o (lent_after (call_then l p c) more).book (lent_after (call_then l p c) more).list) (own_after own (cond t ((free_in l.book l.list, c) ∷ its) its))

    one_more : (t : Bool) → eqb p o ≡ t → OnTables (call_then l p c) (cond t next own) more → After t
    one_more true e behind =
        let first : reply l p c ≡ own_reply own (free_in l.book l.list) c =
        subst (λ (q : ℕ). reply l q c ≡ own_reply own (free_in l.book l.list) c) (sym (eqb-true p o e)) (own-answered l b s o c who) in
        (λ i. first i ∷ behind.answers i, behind.entries)
    one_more false e behind = (behind.answers, behind.entries)

    list-is : list_of o (plain_then b (by p c)) ≡ cond (eqb p o) next own
    list-is = list-then b p c o who ∙ ap (λ (f : Free). cond (eqb p o) (own_then own f c) own) (sym s.free)

  on-tables : (history : History) (l : Lent) (b : PlainBook) → Both l b → OnTables l (list_of o b) history
  unfolding plain_then
  on-tables [] l b s =
      let h = holds_of l b s o who in
      record { answers = refl; entries = record { found = h.entries.found; many = h.entries.many; last = h.last; taken = h.taken } }
  on-tables (tidy ∷ more) l b s =
      let later = on-tables more (lent_then l tidy) b (still_both l b s tidy) in
      record { answers = later.answers; entries = later.entries }
  on-tables (by p c ∷ more) l b s =
      let later = on-tables more (call_then l p c) (plain_then b (by p c)) (still_both l b s (by p c)) in
      let u = one_more l b s p c more (eqb p o) refl (subst (λ (own : Own). OnTables (call_then l p c) own more) (list-is l b s p c more) later) in
      record { answers = u.0; entries = u.1 }

nothing_yet : (o n k : ℕ) → is_owner o ≡ true → list_of o (empty_book n k) ≡ nothing
nothing_yet o n k = of_either (λ (p : ℕ). list_of p (empty_book n k) ≡ nothing) refl refl o

pub its_own : (o n k : ℕ) (history : History) → is_owner o ≡ true → ItsOwn o n k history
its_own o n k history who =
    let b = subst (λ (own : Own). OnTables o who (zeros n k) own history) (nothing_yet o n k who) (on-tables o who history (zeros n k) (empty_book n k) (none-held n k)) in
    record { answers = b.answers; entries = b.entries }

-- the same entries as the same list
as_same : (a b own : Own) → SameOwn a own → SameOwn b own → SameOwn a b
as_same a b own x y =
    record {
      found = λ n. x.found n ∙ sym (y.found n);
      many = x.many ∙ sym y.many;
      last = x.last ∙ sym y.last;
      taken = x.taken ∙ sym y.taken;
    }

pub separate : AlwaysSeparate
separate o n k n' k' history other who same =
    let b = its_own o n k history who in
    let d = its_own o n' k' other who in
    record {
      answers = b.answers ∙ ap (own_replies nothing) same ∙ sym d.answers;
      entries = as_same _ _ (own_after nothing (calls_of o (zeros n k) history)) b.entries (rw same d.entries);
    }
