-- What becomes of a file, by the answer whatever the room, and what is promised of it. Assumes nothing.
use Prim.Native.Nat.{ℕ, ◌/◌, ◌≤◌, ◌<◌, min}
use native.Mathlib.Omega.{arith}
use mathlib.Core.Bool.{true, false, ◌&&◌}
use mathlib.Core.List.{List, [], ◌∷◌, ◌++◌}
use mathlib.Core.Path.{◌≡◌, sym, ap, ◌∙◌}
use lib.Dec.{leb}
use lib.ListN.{length, drop}
use borrow.Author.Tests.{le-leb, lt-leb}
use Rattle.std.specs.Prelude.{Err}
use Rattle.text.specs.CharacterSet.{set_of}
use Rattle.text.specs.declared.character_set.CharacterSet.{CharacterSet}
use Rattle.passes.specs.declared.Fault.{Fault}
use Rattle.passes.specs.declared.Refusal.{Refusal}
use Rattle.passes.specs.Answers.{Answer, Accepted}
use Rattle.passes.specs.declared.Fault.TheVariants.{Size, Room, Nothing}
use Rattle.passes.specs.declared.Totals.{Totals}
use Rattle.file_as_records.specs.Framed.{Body}
use Rattle.draft.specs.Outcomes.{Outcome}
use Rattle.draft.specs.Outcomes.{Written, Refused}
use Rattle.draft.specs.Drafted.{made, offset_of, answer_from, in_room, outcome_of, buffer_after}
use Rattle.draft_survey.specs.CappedOutcome.{capped_outcome}
use Rattle.set_out.specs.SetOut.{Fits}
use Rattle.made_is_read.proofs.Whole.{same_outcome, accepted}
use Rattle.salvage_model.specs.Walked.{walked}
use Rattle.salvage_model.specs.Kept.{marks_of, is_anything}
use Rattle.salvage_model.specs.Salvaged.{values_left, in_list, salvage_outcome, salvage_buffer, listed, list_of, list_after, salvage_list}
use Rattle.salvage_model.specs.Promises.{Promised}
use Rattle.salvage_copy.proofs.SalvageOfCopy.{salvaged-as-copy}
use Rattle.salvage_sound.proofs.SoundRuns.{sound-runs}
use Rattle.salvage_written.proofs.Values.{shaped-left}
use Rattle.salvage_made.proofs.Bodies.{each-once}
use Rattle.salvage_walk.specs.Spans.{Spans}
use Rattle.salvage_marks.specs.declared.Plan.{Plan}
use Rattle.salvage_marks.specs.Left.{Left}
use Rattle.salvage_passes.specs.Writable.{Writable}
use Rattle.salvage.specs.Steps.{WalkedTo, SalvagedAs}
use Rattle.salvage.proofs.Begun.{cued}
use Rattle.salvage_same.proofs.Promised as same

-- a refusal of the file as a whole, as it is answered here
abbrev as_outcome : Answer → Outcome
as_outcome (Accepted t) = Written 0 t
as_outcome (Err r) = Err r

pub as-built : (r : Refusal) (fault : Fault) (place : ℕ) → ◌≡◌ {A = Answer} (Err r) (Err (record { fault = fault; place = place; offset = 0 }))
    → ◌≡◌ {A = Outcome} (Err r) (Refused fault place 0)
as-built r fault place e = ap as_outcome e

module _ (file out list : List ℕ) where
  settled : (o : Outcome) → salvage_outcome file (length out) (length list) ≡ o
      → SalvagedAs file out list o (buffer_after o (made (values_left file)) out) (list_after o (list_of file) list)
  unfolding salvage_buffer salvage_list
  settled o e = record {
    answer = sym e;
    buffer = sym (ap (λ (a : Outcome). buffer_after a (made (values_left file)) out) e);
    rows = sym (ap (λ (a : Outcome). list_after a (list_of file) list) e);
  }

  -- the first two refusals
  pub settled-size : leb 1 (length file) && leb (length file) 268_435_456 ≡ false → SalvagedAs file out list (Refused Size 0 0) out list
  unfolding salvage_outcome
  settled-size e = settled (Refused Size 0 0) (rw e)

  pub settled-nothing : {set : CharacterSet} {end : ℕ} → WalkedTo set file end → is_anything set (walked file) ≡ false
      → SalvagedAs file out list (Refused Nothing 0 0) out list
  unfolding salvage_outcome
  settled-nothing w none =
      settled (Refused Nothing 0 0)
      (rw (
        le-leb 1 (length file) w.some,
        le-leb (length file) 268_435_456 w.limit,
        ap (λ (s : CharacterSet). is_anything s (walked file)) (sym w.is) ∙ none,
      ))

  -- what is ensured of the call, and what is promised of it, in each way that it ends
  abbrev pub Done : Outcome → List ℕ → List ℕ → Type 0
  Done r after rows =
      (r ≡ salvage_outcome file (length out) (length list))
      × ((after ≡ salvage_buffer file out (length list)) × ((rows ≡ salvage_list file (length out) list) × Promised file out list r after))

  pub done : {r : Outcome} {after rows : List ℕ} → SalvagedAs file out list r after rows → Done r after rows
  done s = (
    s.answer,
    (
      s.buffer,
      (
        s.rows,
        rw (s.answer, s.buffer) (same.promised file out list (each-once (set_of file) (walked file)) (salvaged-as-copy file out list) sound-runs),
      ),
    ),
  )

-- the writer's answer behind what the first pass tells
record Told (answer : Outcome) (bytes : ℕ) (t : Totals) : Type 0 where
  size : ℕ
  is : answer ≡ Written size t
  counts : bytes ≡ offset_of size

never : {r : Refusal} {n : ℕ} {t : Totals} {A : Type 0} → ◌≡◌ {A = Outcome} (Err r) (Written n t) → A
never e = let z : ◌≡◌ {A = ℕ} 0 1 = cc in absurd (omega arith)

told : (answer : Outcome) {bytes : ℕ} {t : Totals} → Written bytes t ≡ capped_outcome answer → Told answer bytes t
told (Written n u) e = let k = same_outcome e in record { size = n; is = ap (Written n) (sym k.1); counts = k.0 }
told (Err r) e = never (sym e)

told-refused : (answer : Outcome) {x : Refusal} → Err x ≡ capped_outcome answer → answer ≡ Err x
told-refused (Written n u) e = never e
told-refused (Err r) e = sym e

counted : (n m : ℕ) {b : ℕ} → b ≡ min n m → b < m → n ≡ b
counted n m e h = omega arith

module _ (file out list : List ℕ) {set : CharacterSet} {end : ℕ} (w : WalkedTo set file end) (any : is_anything set (walked file) ≡ true) where
  -- the outcome of a file of which anything is left
  by_answer : (a : Outcome) → answer_from (values_left file) [] [] ≡ a
      → salvage_outcome file (length out) (length list) ≡ in_list (length list / 4) (length (walked file)) (in_room (length out) a)
  unfolding salvage_outcome outcome_of
  by_answer a e =
      rw (
        le-leb 1 (length file) w.some,
        le-leb (length file) 268_435_456 w.limit,
        ap (λ (s : CharacterSet). is_anything s (walked file)) (sym w.is) ∙ any,
        e,
      )

  module _ {r : Outcome} (decided : r ≡ capped_outcome (answer_from (values_left file) [] [])) where
    pub settled-refused : {x : Refusal} → r ≡ Err x → SalvagedAs file out list (Err x) out list
    settled-refused {x} q = settled file out list (Err x) (by_answer (Err x) (told-refused _ (sym q ∙ decided)))

    module _ {bytes : ℕ} {t : Totals} (q : r ≡ Written bytes t) where
      answer : Told (answer_from (values_left file) [] []) bytes t
      answer = told _ (sym q ∙ decided)

      pub settled-large : 268_435_456 < bytes → SalvagedAs file out list (Refused Size 0 0) out list
      settled-large h =
          let k = answer in
          settled file out list (Refused Size 0 0)
          (by_answer (Written k.size t) k.is ∙ rw (lt-leb k.size 268_435_456 (omega (arith, k.counts))))

      module _ (small : bytes ≤ 268_435_456) where
        -- the bytes are all that 64 bits count
        written : answer_from (values_left file) [] [] ≡ Written bytes t
        written = answer.is ∙ ap (λ (n : ℕ). Written n t) (counted answer.size 0xFFFF_FFFF_FFFF_FFFF answer.counts (omega arith))

        pub settled-short : length out < bytes → SalvagedAs file out list (Refused Room bytes 0) out list
        settled-short h =
            settled file out list (Refused Room bytes 0)
            (by_answer (Written bytes t) written ∙ rw (le-leb bytes 268_435_456 small, lt-leb bytes (length out) h))

        module _ (room : bytes ≤ length out) where
          pub fits : Fits (values_left file) [] [] (length out)
          fits = record { size = bytes; totals = t; written = written; within = omega arith }

          unfoldable pub writable : (plan : Plan)
              → ((b : Body) (bs : List Body) → Spans file 0 (b ∷ bs) end → end ≤ 268_435_456 → Left set file end plan (marks_of set (b ∷ bs)))
              → plan.at ≡ 0 → Writable set file end (record { plan = plan; «open» = false; done = false }) (length out)
          writable plan stands at = record { values = values_left file; cued = cued w any plan stands at; fits = fits }

          pub settled-rows : {count : ℕ} → count ≡ length (walked file) → length list / 4 < count → SalvagedAs file out list (Refused Room count 0) out list
          settled-rows {count} e h =
              settled file out list (Refused Room count 0)
              (by_answer (Written bytes t) written
              ∙ rw (← e, le-leb bytes 268_435_456 small, le-leb bytes (length out) room, lt-leb count (length list / 4) h))

          pub settled-written : {count : ℕ} → count ≡ length (walked file) → count ≤ length list / 4 → {after rows : List ℕ}
              → after ≡ made (values_left file) ++ drop (length (made (values_left file))) out
              → rows ≡ listed set 0 (marks_of set (walked file)) ++ drop (length (listed set 0 (marks_of set (walked file)))) list
              → SalvagedAs file out list (Written bytes t) after rows
          unfolding list_of
          settled-written {count} e h {after} {rows} b l =
              let done : salvage_outcome file (length out) (length list) ≡ Written bytes t =
              by_answer (Written bytes t) written
              ∙ rw (← e, le-leb bytes 268_435_456 small, le-leb bytes (length out) room, le-leb count (length list / 4) h) in
              let long : bytes ≡ length (made (values_left file)) = (accepted (values_left file) (shaped-left file) written small).0 in
              let s = settled file out list (Written bytes t) done in
              record {
                answer = s.answer;
                buffer = b ∙ ap (λ (n : ℕ). made (values_left file) ++ drop n out) (sym long) ∙ s.buffer;
                rows =
                    l
                    ∙ ap (λ (x : CharacterSet). listed x 0 (marks_of x (walked file)) ++ drop (length (listed x 0 (marks_of x (walked file)))) list) w.is
                    ∙ s.rows;
              }
