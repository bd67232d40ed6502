-- What is promised of the outcome and the buffer, and how the writer's steps come to them. Assumes nothing.
use Prim.Native.Nat.{ℕ, zero, suc, ◌/◌, ◌≤◌, ◌<◌, min}
use mathlib.Core.Bool.{Bool, true, false}
use mathlib.Core.List.{List, [], ◌++◌}
use mathlib.Core.Path.{◌≡◌, refl, sym, ap, ◌∙◌, subst}
use native.Mathlib.Omega.{arith}
use lib.Dec.{leb}
use lib.ListN.{length, take, drop}
use lib.Seq.{take_at}
use borrow.Author.Tests.{leb-true, lt-leb, le-leb}
use Rattle.std.specs.Prelude.{Err}
use Rattle.text.specs.declared.character_set.CharacterSet.{CharacterSet}
use Rattle.frame.specs.Unless.{unless}
use Rattle.passes.specs.declared.Fault.{Fault}
use Rattle.passes.specs.declared.Fault.TheVariants.{Size, Room}
use Rattle.passes.specs.declared.Totals.{Totals}
use Rattle.passes.specs.declared.Refusal.{Refusal}
use Rattle.passes.specs.Answers.{Answer}
use Rattle.draft.specs.Outcomes.{Outcome}
use Rattle.draft.specs.Outcomes.{Written, Refused}
use Rattle.draft.specs.Values.{Values, set_of_text, values_of_rows, values_of_draft}
use Rattle.draft.specs.Drafted.{made, offset_of, answer_from, in_room, outcome_of, buffer_after, buffer_of}
use Rattle.draft.specs.Promises.{ReadBack, Promised}
use Rattle.draft_survey.specs.CappedOutcome.{capped_outcome}
use Rattle.set_out.specs.SetOut.{values_in, Fits}
use Rattle.draft.proofs.Shapes.{shaped-draft}
use Rattle.made_is_read.proofs.Whole.{same_outcome, accepted, as-the-reader}
use Rattle.same_bytes.proofs.Either.{made_again}
use Rattle.values_back.proofs.Whole.{read-back-whole}
use Rattle.passes.specs.Answers as answers

-- a refusal of a file is an outcome too
refusal_as : Answer → Outcome
refusal_as (answers.Accepted t) = Written 0 t
refusal_as (Err r) = Err r

pub refused-as : {r : Refusal} {fault : Fault} {place offset : ℕ} → ◌≡◌ {A = Answer} (Err r) (answers.Refused fault place offset)
    → ◌≡◌ {A = Outcome} (Err r) (Refused fault place offset)
unfolding refusal_as
refused-as e = ap refusal_as e

-- an outcome that is written within the room, and the answer whatever the room
record Kept (n : ℕ) (t : Totals) (answer : Outcome) : Type 0 where
  is : answer ≡ Written n t
  small : n ≤ 268_435_456

never : {fault : Fault} {place offset n : ℕ} {t : Totals} {A : Type 0} → Refused fault place offset ≡ Written n t → A
never e = let z : ◌≡◌ {A = ℕ} 0 1 = cc in absurd (omega arith)

kept : (room n : ℕ) (t : Totals) (answer : Outcome) → in_room room answer ≡ Written n t → Kept n t answer
kept room n t (Written m u) e = by (leb m 268_435_456) refl (leb m room) e
  where
    by : (b : Bool) → leb m 268_435_456 ≡ b → (c : Bool) → unless b (Refused Size 0 0) (unless c (Refused Room m 0) (Written m u)) ≡ Written n t
        → Kept n t (Written m u)
    by true p true q = record { is = q; small = let z : m ≡ n = (same_outcome q).0 in omega (arith, leb-true m 268_435_456 p) }
    by true p false q = never q
    by false p c q = never q
kept room n t (Err r) e = never e

module _ (text draft out : List ℕ) where
  abbrev vs : List Values
  vs = values_of_draft text draft

  -- the buffer begins with the file
  file-first : (n : ℕ) (t : Totals) → outcome_of vs (length out) ≡ Written n t → take n (buffer_of vs out) ≡ made vs
  unfolding buffer_of outcome_of
  file-first n t e =
      let k = kept (length out) n t (answer_from vs [] []) e in
      let long = accepted vs (shaped-draft text draft) k.is k.small in
      ap (λ (o : Outcome). take n (buffer_after o (made vs) out)) e ∙ take_at (made vs) (drop n out) n (sym long.0)

  pub promised : Promised text draft out (outcome_of vs (length out)) (buffer_of vs out)
  unfolding outcome_of
  promised =
      record {
        accepted = λ n t e.
            let k = kept (length out) n t (answer_from vs [] []) e in
            subst (ReadBack vs t) (sym (file-first n t e)) (read-back-whole text draft n t k.is k.small);
        same_bytes = λ file x a e. made_again file x a vs e out;
        values-alone = λ text' draft' e. (ap (λ (ws : List Values). outcome_of ws (length out)) e, ap (λ (ws : List Values). buffer_of ws out) e);
        as-the-reader = λ fit some small. ap (in_room (length out)) (as-the-reader vs (shaped-draft text draft) fit some small);
      }

counted : (n m : ℕ) {b : ℕ} → b ≡ min n m → b < m → n ≡ b
counted n m e h = omega arith

-- the answer whatever the room, and what becomes of it in a buffer
module _ (text draft out : List ℕ) where
  abbrev ws : List Values
  ws = values_of_draft text draft

  pub refused-settles : {fault : Fault} {place offset : ℕ} → answer_from ws [] [] ≡ Refused fault place offset
      → (Refused fault place offset ≡ outcome_of ws (length out)) × (out ≡ buffer_of ws out)
  unfolding outcome_of buffer_of
  refused-settles e = (sym (ap (in_room (length out)) e), sym (ap (λ (a : Outcome). buffer_after (in_room (length out) a) (made ws) out) e))

  -- bytes as 64 bits count them
  module _ (n bytes : ℕ) (t : Totals) (e : answer_from ws [] [] ≡ Written n t) (b : bytes ≡ offset_of n) where
    in-room : outcome_of ws (length out) ≡ in_room (length out) (Written n t)
    unfolding outcome_of
    in-room = ap (in_room (length out)) e

    in_buffer : (a : Outcome) → in_room (length out) (Written n t) ≡ a → buffer_after a (made ws) out ≡ buffer_of ws out
    unfolding buffer_of
    in_buffer a q = sym (ap (λ (o : Outcome). buffer_after o (made ws) out) (in-room ∙ q))

    pub large-settles : 268_435_456 < bytes → (Refused Size 0 0 ≡ outcome_of ws (length out)) × (out ≡ buffer_of ws out)
    large-settles h =
        let q : in_room (length out) (Written n t) ≡ Refused Size 0 0 = rw (lt-leb n 268_435_456 (omega arith)) in
        (sym (in-room ∙ q), in_buffer (Refused Size 0 0) q)

    module _ (small : bytes ≤ 268_435_456) where
      all-bytes : n ≡ bytes
      all-bytes = counted n 0xFFFF_FFFF_FFFF_FFFF b (omega arith)

      pub short-settles : length out < bytes → (Refused Room bytes 0 ≡ outcome_of ws (length out)) × (out ≡ buffer_of ws out)
      short-settles h =
          let q : in_room (length out) (Written n t) ≡ Refused Room bytes 0 =
          rw (all-bytes, le-leb bytes 268_435_456 small, lt-leb bytes (length out) h) in
          (sym (in-room ∙ q), in_buffer (Refused Room bytes 0) q)

      pub written-settles : bytes ≤ length out
          → (Written bytes t ≡ outcome_of ws (length out)) × ((after : List ℕ) → after ≡ made ws ++ drop (length (made ws)) out → after ≡ buffer_of ws out)
      written-settles h =
          let q : in_room (length out) (Written n t) ≡ Written bytes t = rw (all-bytes, le-leb bytes 268_435_456 small, le-leb bytes (length out) h) in
          let long : n ≡ length (made ws) = (accepted ws (shaped-draft text draft) e (omega (arith, all-bytes))).0 in (
            sym (in-room ∙ q),
            λ after r.
                r ∙ ap (λ (k : ℕ). made ws ++ drop k out) (sym long ∙ all-bytes) ∙ in_buffer (Written bytes t) q,
          )

-- the values that are set out are those that were surveyed, where the set is that of the text
module _ (text draft : List ℕ) where
  same_set : (set : CharacterSet) → (10 ≤ length draft → set ≡ set_of_text text draft) → (n : ℕ) → length draft / 10 ≡ n
      → values_of_rows set text n draft ≡ values_of_rows (set_of_text text draft) text n draft
  unfolding values_of_rows
  same_set set told zero e = refl
  same_set set told (suc n) e = ap (λ (s : CharacterSet). values_of_rows s text (suc n) draft) (told (omega arith))

  pub same-values : (set : CharacterSet) → (10 ≤ length draft → set ≡ set_of_text text draft) → values_in set text draft ≡ values_of_draft text draft
  unfolding values_of_draft
  same-values set told = same_set set told (length draft / 10) refl

  -- what the second pass asks, and what it leaves, said of the draft
  pub all-fits : (set : CharacterSet) → (10 ≤ length draft → set ≡ set_of_text text draft) → (out : List ℕ) (n bytes : ℕ) (t : Totals)
      → answer_from (values_of_draft text draft) [] [] ≡ Written n t → bytes ≡ offset_of n → bytes ≤ 268_435_456 → bytes ≤ length out
      → Fits (values_in set text draft) [] [] (length out)
  all-fits set told out n bytes t e b small h =
      record {
        size = n;
        totals = t;
        written = ap (λ (vs : List Values). answer_from vs [] []) (same-values set told) ∙ e;
        within = omega (arith, counted n 0xFFFF_FFFF_FFFF_FFFF b (omega arith));
      }

-- the answer behind what the first pass tells
record Told (answer : Outcome) (bytes : ℕ) (t : Totals) : Type 0 where
  size : ℕ
  is : answer ≡ Written size t
  counts : bytes ≡ offset_of size

told : (answer : Outcome) {bytes : ℕ} {t : Totals} → Written bytes t ≡ capped_outcome answer → Told answer bytes t
told (Written n u) e = let same = same_outcome e in record { size = n; is = ap (Written n) (sym same.1); counts = same.0 }
told (Err r) e = never (sym e)

told-refused : (answer : Outcome) {fault : Fault} {place offset : ℕ} → Refused fault place offset ≡ capped_outcome answer → answer ≡ Refused fault place offset
told-refused (Written n u) e = never e
told-refused (Err r) e = sym e

-- what is promised of the call, in each way that it ends
module _ (text draft out : List ℕ) where
  abbrev pub Done : Outcome → List ℕ → Type 0
  Done r after =
      (r ≡ outcome_of (values_of_draft text draft) (length out)) × ((after ≡ buffer_of (values_of_draft text draft) out) × Promised text draft out r after)

  done : {r : Outcome} {after : List ℕ} → (r ≡ outcome_of (values_of_draft text draft) (length out)) × (after ≡ buffer_of (values_of_draft text draft) out)
      → Done r after
  done e = (e.0, (e.1, rw (e.0, e.1) (promised text draft out)))

  pub done_refused : {r : Outcome} {fault : Fault} {place offset : ℕ} → r ≡ Refused fault place offset
      → r ≡ capped_outcome (answer_from (values_of_draft text draft) [] []) → Done r out
  done_refused q e = subst (λ (o : Outcome). Done o out) (sym q) (done (refused-settles text draft out (told-refused _ (sym q ∙ e))))

  module _ {r : Outcome} {bytes : ℕ} {t : Totals} (q : r ≡ Written bytes t) (f : r ≡ capped_outcome (answer_from (values_of_draft text draft) [] [])) where
    e : Written bytes t ≡ capped_outcome (answer_from (values_of_draft text draft) [] [])
    e = sym q ∙ f

    pub done-large : 268_435_456 < bytes → Done (Refused Size 0 0) out
    done-large h = let k = told _ e in done (large-settles text draft out k.size bytes t k.is k.counts h)

    pub done-short : bytes ≤ 268_435_456 → length out < bytes → Done (Refused Room bytes 0) out
    done-short small h = let k = told _ e in done (short-settles text draft out k.size bytes t k.is k.counts small h)

    module _ (small : bytes ≤ 268_435_456) (h : bytes ≤ length out) (set : CharacterSet) (of : 10 ≤ length draft → set ≡ set_of_text text draft) where
      pub asks : Fits (values_in set text draft) [] [] (length out)
      asks = let k = told _ e in all-fits text draft set of out k.size bytes t k.is k.counts small h

      pub done-written : {after : List ℕ}
          → after ≡ made (values_in set text draft) ++ drop (length (made (values_in set text draft))) out → Done (Written bytes t) after
      done-written {after} b =
          let k = told _ e in
          let w = written-settles text draft out k.size bytes t k.is k.counts small h in
          done (w.0, w.1 after (b ∙ ap (λ (vs : List Values). made vs ++ drop (length (made vs)) out) (same-values text draft set of)))
