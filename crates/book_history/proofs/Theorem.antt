-- After any sequence of acts a book grown from an empty one answers as two plain lists of entries would, one for each owner. Assumes nothing.
use Rattle.std.specs.Prelude.{Ok}
use Prim.Native.Nat.{ℕ, ◌≤◌}
use native.Mathlib.Omega.{arith}
use mathlib.Core.Bool.{Bool, true, false}
use mathlib.Core.Path.{◌≡◌, refl, ◌∙◌}
use mathlib.Core.List.{List, [], ◌∷◌}
use lib.Dec.{leb}
use borrow.Author.Tests.{leb-true, leb-false, eq-eqb}
use Rattle.book_model.specs.declared.Entry.{Entry}
use Rattle.book_model.specs.PlainList.{withdrawing}
use Rattle.book_model.specs.Table.{is_owner}
use Rattle.book_model.proofs.Merged.{Absent}
use Rattle.book_history.specs.Histories.{withdraw, by, History, Lent, lent_then, lent_after, replies, own_then, PlainBook, list_of, plain_then, plain_replies, plain_after, zeros, empty_book, AsAPlainList}
use Rattle.book_history.proofs.Matched.{Numbered}
use Rattle.book_history.proofs.Withdrawn.{There, there}
use Rattle.book_history.proofs.Both.{Both, none-held, list-then, holds_of, answered-alike, still_both}
use Rattle.book_history.proofs.Lasting.{Gone, lasts, gone-stays, taken-stays}

all_alike : (history : History) (l : Lent) (b : PlainBook) → Both l b → replies l history ≡ plain_replies b history
all_alike [] l b s = refl
all_alike (a ∷ more) l b s =
    λ i. answered-alike l b s a i ∷ all_alike more (lent_then l a) (plain_then b a) (still_both l b s a) i

-- "A withdrawn entry reads NOENTRY", straight behind its withdrawal and for ever
both-after : (history : History) (l : Lent) (b : PlainBook) → Both l b → Both (lent_after l history) (plain_after b history)
both-after [] l b s = s
both-after (a ∷ more) l b s = both-after more (lent_then l a) (plain_then b a) (still_both l b s a)

given : (last : ℕ) (es : List Entry) (m : ℕ) → Numbered last es → There es m → m ≤ last
given last es m s t = by-test (leb m last) refl
  where
    by-test : (u : Bool) → leb m last ≡ u → m ≤ last
    by-test true e = leb-true m last e
    by-test false e =
        let none : Absent m es = s.above m (leb-false m last e) in
        let found = t.is in
        absurd (let z : ◌≡◌ {A = ℕ} 0 1 = cc in omega arith)

module _ (o m : ℕ) (who : is_owner o ≡ true) where
  gone-now : (l : Lent) (b : PlainBook) → Both l b → withdrawing (list_of o b).entries m ≡ Ok tt → Gone m (list_of o (plain_then b (by o (withdraw m))))
  unfolding own_then
  gone-now l b s done =
      let numbered = (holds_of l b s o who).entries.second in
      let now : list_of o (plain_then b (by o (withdraw m))) ≡ own_then (list_of o b) b.free (withdraw m) = list-then b o (withdraw m) o who ∙ rw (eq-eqb o o refl) in
      rw (now, done) (given (list_of o b).last (list_of o b).entries m numbered (there (list_of o b).entries m done), numbered.once m)

  withdrawn-absent : (n k : ℕ) (history more : History) → withdrawing (list_of o (plain_after (empty_book n k) history)).entries m ≡ Ok tt
      → Absent m (list_of o (plain_after (plain_then (plain_after (empty_book n k) history) (by o (withdraw m))) more)).entries
  withdrawn-absent n k history more done =
      let b = plain_after (empty_book n k) history in
      (gone-stays m more (plain_then b (by o (withdraw m))) o
      (gone-now (lent_after (zeros n k) history) b (both-after history (zeros n k) (empty_book n k) (none-held n k)) done)).1

pub theorem : (n k : ℕ) (history : History) → AsAPlainList n k history
theorem n k history =
    let b = plain_after (empty_book n k) history in
    record {
      replies-alike = all_alike history (zeros n k) (empty_book n k) (none-held n k);
      lasting = λ more o m e who h never. lasts m e more b o who h never;
      gone = λ more o m given h. (gone-stays m more b o (given, h)).1;
      withdrawn = λ more o m who done. withdrawn-absent o m who n k history more done;
      stays-taken = λ more o m h. taken-stays m more b o h;
    }
