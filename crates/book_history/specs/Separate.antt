-- "One bureau's answers and entries depend on its own calls and on how many rows are free at each of them, and on nothing else the other did" (request 8,
-- reading 57), and on how many places are free in the list of file numbers taken (request 10, reading 59); of books grown from an empty one.
use Rattle.std.specs.Prelude.{ℕ, true, cond, List, [], ◌∷◌, ◌≡◌, eqb, length}
use Rattle.book_model.specs.PlainList.{Own, Free, finding}
use Rattle.book_model.specs.Table.{is_owner, own_of, free_in}
use Rattle.book_history.specs.Histories.{Call, Reply, by, tidy, History, Lent, reply, call_then, lent_then, lent_after, own_reply, own_then, nothing, zeros}

-- one owner's calls in a history on lent tables, each with what is free at it, and the replies that the tables give to them; "tidy-ups may stand anywhere"
abbrev pub calls_of : ℕ → Lent → History → List (Free × Call)
calls_of o l [] = []
calls_of o l (tidy ∷ more) = calls_of o (lent_then l tidy) more
calls_of o l (by p c ∷ more) =
    cond (eqb p o) ((free_in l.book l.list, c) ∷ calls_of o (call_then l p c) more) (calls_of o (call_then l p c) more)

abbrev pub replies_to : ℕ → Lent → History → List Reply
replies_to o l [] = []
replies_to o l (tidy ∷ more) = replies_to o (lent_then l tidy) more
replies_to o l (by p c ∷ more) = cond (eqb p o) (reply l p c ∷ replies_to o (call_then l p c) more) (replies_to o (call_then l p c) more)

-- what such calls give by themselves, on the owner's own list: no table, and nobody else, is looked at
abbrev pub own_replies : Own → List (Free × Call) → List Reply
own_replies own [] = []
own_replies own (c ∷ more) = own_reply own c.0 c.1 ∷ own_replies (own_then own c.0 c.1) more

abbrev pub own_after : Own → List (Free × Call) → Own
own_after own [] = own
own_after own (c ∷ more) = own_after (own_then own c.0 c.1) more

-- The same entries, in whatever order they lie in a table: as many, and each number gives the same one. (Freed rows are used by whoever comes first, so the
-- order of one's rows is the other's doing; no call tells it.)
pub record SameOwn (a b : Own) : Type 0 where
  pub found : (n : ℕ) → finding a.entries n ≡ finding b.entries n
  pub many : length a.entries ≡ length b.entries
  pub last : a.last ≡ b.last
  pub taken : a.taken ≡ b.taken

-- the answers, and the entries with the last number given and the file numbers taken, are those
pub record ItsOwn (o n k : ℕ) (history : History) : Type 0 where
  pub answers : replies_to o (zeros n k) history ≡ own_replies nothing (calls_of o (zeros n k) history)
  pub entries : SameOwn (own_of o (lent_after (zeros n k) history).book (lent_after (zeros n k) history).list) (own_after nothing (calls_of o (zeros n k) history))

-- so two histories in which an owner's calls are the same, and as much is free at each of them, give it the same answers and entries, whatever the other's
-- calls were, wherever tidy-ups stood, and however long the tables
pub record Separate (o n k n' k' : ℕ) (history other : History) : Type 0 where
  pub answers : replies_to o (zeros n k) history ≡ replies_to o (zeros n' k') other
  pub entries : SameOwn (own_of o (lent_after (zeros n k) history).book (lent_after (zeros n k) history).list)
      (own_of o (lent_after (zeros n' k') other).book (lent_after (zeros n' k') other).list)

abbrev pub AlwaysSeparate : Type 0
AlwaysSeparate =
    (o n k n' k' : ℕ) (history other : History) → is_owner o ≡ true → calls_of o (zeros n k) history ≡ calls_of o (zeros n' k') other
    → Separate o n k n' k' history other
