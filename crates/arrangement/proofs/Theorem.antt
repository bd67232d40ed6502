-- Demand 3, proved: the reading accepts exactly the files that have an arrangement, and gives its rows and totals. Assumes nothing.
use Prim.Native.Nat.{ℕ, ◌*◌, ◌/◌, ◌≤◌, ◌<◌}
use native.Mathlib.Omega.{arith}
use mathlib.Core.Bool.{Bool, true, false, cond}
use mathlib.Core.Path.{◌≡◌, refl, sym, ap, ◌∙◌, subst}
use mathlib.Core.List.{List, [], ◌∷◌, ◌++◌}
use lib.Dec.{leb}
use lib.ListN.{length, drop}
use borrow.Author.Tests.{leb-true, le-leb, lt-leb}
use Rattle.std.specs.Prelude.{Err}
use Rattle.text.specs.CharacterSet.{set_of}
use Rattle.text.specs.declared.character_set.CharacterSet.{CharacterSet}
use Rattle.judge.specs.Alone.{type_of}
use Rattle.passes.specs.declared.Fault.{Fault}
use Rattle.passes.specs.declared.Fault.TheVariants.{Room}
use Rattle.passes.specs.declared.Totals.{Totals}
use Rattle.passes.specs.Answers.{Answer}
use Rattle.passes.specs.Answers.{Accepted, Refused}
use Rattle.passes.specs.Rows.{rows_of}
use Rattle.passes.specs.Reading.{surveyed, in_room, answer_of, table_after, table_of}
use Rattle.passes.proofs.Passes.{accepted-small}
use Rattle.file_as_records.specs.Framed.{Body, framed}
use Rattle.file_as_records.proofs.Good.{GoodAll}
use Rattle.file_as_records.proofs.Figures.{inside_in, last_in}
use Rattle.file_as_records.proofs.LengthFields.{Bytes, one-framing}
use Rattle.file_as_records.proofs.Accepted.{accepted-records}
use Rattle.file_as_records.proofs.ReadThrough.{records-accepted}
use Rattle.arrangement.specs.Tree.{File}
use Rattle.arrangement.specs.Written.{records, written}
use Rattle.arrangement.specs.TypesInPlace.{Typed}
use Rattle.arrangement.specs.RowsAndTotals.{rows, totals}
use Rattle.arrangement.specs.Arranged.{Arranges, HasRoom, Arranged}
use Rattle.arrangement.proofs.Turns.{follows-in}
use Rattle.arrangement.proofs.RowsAgree.{rows-of}
use Rattle.arrangement.proofs.TotalsAgree.{totals-of}
use Rattle.arrangement.proofs.Shape.{Chain, shape_of}
use Rattle.arrangement.proofs.Unique.{one-shape}
use Rattle.arrangement.proofs.Soundness.{good-sound}
use Rattle.arrangement.proofs.SoundTyped.{sound-typed}
use Rattle.arrangement.proofs.Goodness.{sound-good}

good-chain : (set : CharacterSet) (past bs : List Body) → GoodAll set past bs → Chain set (inside_in set past) (last_in set past) bs
good-chain set past [] g = g
good-chain set past (b ∷ bs) g = (follows-in set (type_of set b) past b g.first, good-chain set (b ∷ past) bs g.rest)

refused-not : (fault : Fault) (n o : ℕ) (t : Totals) → Refused fault n o ≡ Accepted t → ⊥
refused-not fault n o t e = let z : ◌≡◌ {A = ℕ} 0 1 = cc in omega arith

-- accepted with room: accepted by the survey, and rows for all
picked-room : (b : Bool) (u t : Totals) (n : ℕ) → cond b (Accepted u) (Refused Room n 0) ≡ Accepted t → b ≡ true
picked-room true u t n e = refl
picked-room false u t n e = absurd (refused-not Room n 0 t e)

record Roomed (rows : ℕ) (a : Answer) : Type 0 where
  totals-are : Totals
  accepted : a ≡ Accepted totals-are
  room : totals-are.records.0 ≤ rows

in-room : (rows : ℕ) (a : Answer) (t : Totals) → in_room rows a ≡ Accepted t → Roomed rows a
in-room rows (Accepted u) t e =
    record {
      totals-are = u;
      accepted = refl;
      room = leb-true u.records.0 rows (picked-room (leb u.records.0 rows) u t u.records.0 e);
    }
in-room rows (Err r) t e = absurd (refused-not r.fault r.place r.offset t e)

-- an arrangement makes the file accepted, with its totals and its rows
pub record Read (file : List ℕ) (x : File) : Type 0 where
  pub answer : surveyed file ≡ Accepted (totals (set_of file) x)
  pub its-rows : rows_of file ≡ rows (set_of file) x

pub arranged-accepted : (file : List ℕ) (x : File) → Arranges file x → Read file x
arranged-accepted file x a =
    let k = sound-typed (set_of file) x a.sound in
    let r = records-accepted file (records x) a.size a.bytes (sound-good (set_of file) x a.sound) in
    record { answer = r.answer ∙ ap Accepted (totals-of (set_of file) x k a.sound); its-rows = r.rows ∙ rows-of (set_of file) x k a.sound }

-- an accepted file has an arrangement
pub accepted-arranged : (file : List ℕ) (t : Totals) → Bytes file → surveyed file ≡ Accepted t → (x : File) × Arranges file x
accepted-arranged file t b e =
    let r = accepted-records file t b e in
    let s = shape_of (set_of file) r.bodies (good-chain (set_of file) [] r.bodies r.good) in
    let g = subst (λ (bs : List Body). GoodAll (set_of file) [] bs) (sym s.written_out) r.good in (
      s.file,
      record { sound = good-sound (set_of file) s.file s.typed g; bytes = ap framed s.written_out ∙ r.bytes; size = accepted-small file t e },
    )

-- never two, sound or not, with records of the types of their places
pub one-arrangement : (set : CharacterSet) (x y : File) → Typed set x → Typed set y → written x ≡ written y → length (written x) ≤ 268_435_456 → x ≡ y
one-arrangement set x y k l e n = one-shape set x y k l (one-framing (records x) (records y) e n)

module _ (file table : List ℕ) (x : File) (a : Arranges file x) where
  accepted-answer : HasRoom table x → answer_of file (length table) ≡ Accepted (totals (set_of file) x)
  unfolding answer_of
  accepted-answer h = rw (arranged-accepted file x a).answer (rw (le-leb (length (records x)) (length table / 7) (omega (arith, h))))

  room-answer : length table < 7 * length (records x) → answer_of file (length table) ≡ Refused Room (length (records x)) 0
  unfolding answer_of
  room-answer h = rw (arranged-accepted file x a).answer (rw (lt-leb (length (records x)) (length table / 7) (omega (arith, h))))

answer-accepted : (file table : List ℕ) (t : Totals) → answer_of file (length table) ≡ Accepted t
    → Roomed (length table / 7) (surveyed file)
unfolding answer_of
answer-accepted file table t e = in-room (length table / 7) (surveyed file) t e

same-totals : (u v : Totals) → Accepted u ≡ Accepted v → u ≡ v
same-totals u v e = cc

has_room_lem : (file table : List ℕ) (x : File) (t : Totals) → Arranges file x → answer_of file (length table) ≡ Accepted t → HasRoom table x
has_room_lem file table x t a e =
    let r = answer-accepted file table t e in
    let u = same-totals r.totals-are (totals (set_of file) x) (sym r.accepted ∙ (arranged-accepted file x a).answer) in
    omega (arith, r.room, ap (λ (v : Totals). v.records.0) u)

pub theorem : (file table : List ℕ) → Bytes file → Arranged file table (answer_of file (length table)) (table_of file table)
unfolding table_of
theorem file table b =
    record {
      exact = (
        λ acc.
            let (t, e) = acc in
            let r = answer-accepted file table t e in
            let (x, a) = accepted-arranged file r.totals-are b r.accepted in
            (x, a, has_room_lem file table x t a e),
        λ y. let (x, a, room) = y in (totals (set_of file) x, accepted-answer file table x a room),
      );
      alone = λ x y a c. one-arrangement (set_of file) x y (sound-typed (set_of file) x a.sound) (sound-typed (set_of file) y c.sound)
          (a.bytes ∙ sym c.bytes) (omega (arith, ap length a.bytes, a.size));
      its-totals = λ x a acc. let (t, e) = acc in accepted-answer file table x a (has_room_lem file table x t a e);
      its-rows = λ x a acc.
          let (t, e) = acc in
          ap (λ (answer : Answer). table_after answer (rows_of file) table) (accepted-answer file table x a (has_room_lem file table x t a e))
          ∙ ap (λ (r : List ℕ). r ++ drop (length r) table) (arranged-accepted file x a).its-rows;
      its-control =
          λ x t a e.
          let u = same-totals t (totals (set_of file) x) (sym e ∙ accepted-answer file table x a (has_room_lem file table x t a e)) in (
            ap (λ (v : Totals). v.items.0) u ∙ sym a.sound.item_count,
            ap (λ (v : Totals). v.sums.debit.0) u ∙ sym a.sound.debit-cents,
            ap (λ (v : Totals). v.sums.credit.0) u ∙ sym a.sound.credit-cents,
          );
      its-room = λ x a h. room-answer file table x a h;
    }

-- the same of an answer and a table that are those of the reading
pub arranged : (file table : List ℕ) (answer : Answer) (after : List ℕ) → Bytes file → answer ≡ answer_of file (length table)
    → after ≡ table_of file table
    → Arranged file table answer after
arranged file table answer after b e t =
    subst (λ (a : Answer). Arranged file table a after) (sym e)
    (subst (λ (u : List ℕ). Arranged file table (answer_of file (length table)) u) (sym t) (theorem file table b))

pub of-answer : {file table after : List ℕ} {a b : Answer} → a ≡ b → Arranged file table a after → Arranged file table b after
of-answer {file} {table} {after} e h = subst (λ (a : Answer). Arranged file table a after) e h
