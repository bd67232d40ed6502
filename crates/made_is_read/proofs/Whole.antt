-- A draft that is made out is read as it was made: the reader's answer to the file is the writer's. Assumes nothing.
use Prim.Native.Nat.{ℕ, ◌+◌, ◌-◌, ◌*◌, ◌/◌, ◌%◌, ◌≤◌, ◌<◌}
use native.Mathlib.Omega.{arith}
use mathlib.Core.Bool.{Bool, true, false, ◌&&◌, cond, and-eq-true_iff}
use mathlib.Core.List.{List, [], ◌∷◌, ◌++◌, append_assoc, append-nil}
use mathlib.Core.Path.{◌≡◌, refl, sym, ap, ◌∙◌, subst}
use lib.Dec.{eqb}
use lib.ListN.{length, get_or, take, length-append}
use borrow.Author.Tests.{le-leb, ne_eqb, eqb-true, eq-eqb}
use Rattle.std.specs.Prelude.{Err}
use Rattle.text.specs.CharacterSet.{set_of}
use Rattle.text.specs.declared.character_set.CharacterSet.TheVariants.{Ascii}
use Rattle.decimal.specs.Digits.{digits}
use Rattle.frame.specs.Unless.{unless}
use Rattle.layout.specs.Layout.{sized_parts}
use Rattle.order.specs.MayFollow.{may_follow}
use Rattle.standing.specs.History.{Entry}
use Rattle.standing.specs.Standing.{standing}
use Rattle.standing.specs.declared.Standing.{Standing}
use Rattle.standing.proofs.Laws.{standing-records}
use Rattle.passes.specs.declared.Fault.{Fault}
use Rattle.passes.specs.declared.Fault.TheVariants.{Place, Field, Open}
use Rattle.passes.specs.declared.Totals.{Totals}
use Rattle.passes.specs.Answers.{Turn}
use Rattle.passes.specs.Answers.{Step}
use Rattle.passes.specs.Answers.{Answer}
use Rattle.passes.specs.Reading.{totals_of, step_of, ended_with, ended, run, surveyed, answer_of}
use Rattle.passes.proofs.Laws.{run_end, run-stop, run_on}
use Rattle.file_as_records.specs.Framed.{framed}
use Rattle.own_fault.proofs.SameReading.{ReadTo, start, on}
use Rattle.draft.specs.Outcomes.{Written, Refused}
use Rattle.draft.specs.Values.{Values, layout_of}
use Rattle.draft.specs.Completed.{addenda_behind, first_unfit, first_unfit_part}
use Rattle.draft.specs.Drafted.{body_of, file_with, past_with, completed_from, made, field_fault, turn_of_row, offset_of, after_turn, rows_ended, answer_from}
use Rattle.draft.specs.Promises.{every_here, all_fit, as_drafted}
use Rattle.made_is_read.proofs.Record.{Likewise, stops, goes, step-likewise}
use Rattle.draft.proofs.Shapes.{Shaped, AllShaped}
use Rattle.draft.proofs.Judged.{completed-front, fit-lines, fit_parts}
use Rattle.passes.specs.Answers as answers

-- records more stand behind those of the file
pub record Appended (vs : List Values) (file : List ℕ) (past : List Entry) : Type 0 where
  pub rest : List ℕ
  pub is : completed_from vs file past ≡ file ++ rest

pub appended : (vs : List Values) (file : List ℕ) (past : List Entry) → Appended vs file past
unfolding completed_from
appended [] file past = record { rest = []; is = sym (append-nil file) }
appended (v ∷ vs) file past =
    let others = appended vs (file_with v vs file past) (past_with v vs file past) in
    let body = body_of v vs file past in
    record { rest = framed (body ∷ []) ++ others.rest; is = others.is ∙ append_assoc file (framed (body ∷ [])) others.rest }

one-longer : (v : Values) (vs : List Values) (file : List ℕ) (past : List Entry)
    → length (file_with v vs file past) ≡ length file + 4 + length (body_of v vs file past)
one-longer v vs file past =
    let body = body_of v vs file past in omega (arith, length-append file (framed (body ∷ [])), length-append body [])

offset-small : (n : ℕ) → n ≤ 268_435_456 → offset_of n ≡ n
offset-small n h = omega arith

-- where the rows end, the file does
ends-likewise : (file : List ℕ) (past : List Entry) → length file ≤ 268_435_456
    → rows_ended file past (standing Ascii file past) ≡ as_drafted (length file) (ended Ascii file past (length file))
unfolding rows_ended ended_with
ends-likewise file past small =
    rw (standing-records Ascii file past, offset-small (length file) small) (cases (eqb (standing Ascii file past).last 99))
  where
    totals : Totals
    totals = totals_of (standing Ascii file past)

    cases : (b : Bool) → cond b (Written (length file) totals) (Refused Place (length past + 1) (length file))
        ≡ as_drafted (length file) (cond b (answers.Accepted totals) (answers.Refused Open (length past + 1) (length file)))
    cases true = refl
    cases false = refl

-- the character set, by the first of two characters behind the first length
ascii_set : (file : List ℕ) (d : ℕ) → get_or file 4 0 ≡ d → d < 0xF0 → set_of file ≡ Ascii
unfolding set_of
ascii_set file d q h = rw (q, ne_eqb d 0xF0 (λ e. omega arith))

first_of : (b rest : List ℕ) {c d : ℕ} → take 2 b ≡ c ∷ d ∷ [] → get_or (b ++ rest) 0 0 ≡ c
first_of [] rest e = cc
first_of (x ∷ xs) rest e = cc

-- a check that is passed
through : (c : Bool) (fault : Fault) (next : Turn) {t : ℕ} → unless c (answers.Faulty fault) next ≡ answers.Good t → (c ≡ true) × (next ≡ answers.Good t)
through true fault next e = (refl, e)
through false fault next e = (cc, cc)

-- two outcomes that are one
pub same_outcome : {n m : ℕ} {t u : Totals} → Written n t ≡ Written m u → (n ≡ m) × (t ≡ u)
same_outcome {n} {m} {t} {u} e =
    let pair : ◌≡◌ {A = ℕ × Totals} (n, t) (m, u) = cc in
    (ap (λ (p : ℕ × Totals). p.0) pair, ap (λ (p : ℕ × Totals). p.1) pair)

written_as : (a : Answer) (m : ℕ) {n : ℕ} {t : Totals} → as_drafted m a ≡ Written n t → a ≡ answers.Accepted t
written_as (answers.Accepted t) m e = ap answers.Accepted (same_outcome e).1
written_as (Err r) m e = cc

written-some : (vs : List Values) {n : ℕ} {t : Totals} → answer_from vs [] [] ≡ Written n t → 1 ≤ length (made vs)
unfolding made completed_from answer_from rows_ended standing
written-some [] e = let z : ◌≡◌ {A = ℕ} 0 1 = cc in absurd (omega arith)
written-some (v ∷ vs) e =
    let more = appended vs (file_with v vs [] []) (past_with v vs [] []) in
    omega (arith, ap length more.is, length-append (file_with v vs [] []) more.rest, one-longer v vs [] [])

-- from a record on
module _ (whole : List ℕ) (small : length whole ≤ 268_435_456) where
  run-likewise : (vs : List Values) (file : List ℕ) (past : List Entry) → AllShaped vs → all_fit vs ≡ true → completed_from vs file past ≡ whole
      → ReadTo Ascii whole past (length file) → (n : ℕ) → length whole ≤ length file + n
      → answer_from vs file past ≡ as_drafted (length whole) (run Ascii n whole (length file) past)
  unfolding completed_from answer_from all_fit
  run-likewise [] file past shapes fit e r n h =
      ends-likewise file past (omega (arith, ap length e))
      ∙ ap (λ (f : List ℕ). as_drafted (length f) (ended Ascii f past (length file))) e
      ∙ ap (as_drafted (length whole)) (sym (run_end Ascii whole (length file) past n (omega (arith, ap length e))))
  run-likewise (v ∷ vs) file past shapes fit e r n h =
      let fits = (and-eq-true_iff (eqb (first_unfit v (addenda_behind v.type vs) (layout_of v.type).lines v.fields) 0) (every_here v.parts && all_fit vs)).0 fit in
      let others = (and-eq-true_iff (every_here v.parts) (all_fit vs)).0 fits.1 in
      let more = appended vs (file_with v vs file past) (past_with v vs file past) in
      cases (turn_of_row v vs file past (standing Ascii file past)) (step_of Ascii whole (standing Ascii whole past) (length file)) refl
      (omega (arith, ap length e, ap length more.is, length-append (file_with v vs file past) more.rest, one-longer v vs file past))
      (step-likewise v vs file past shapes.0 (eqb-true _ 0 fits.0) others.0
      whole more.rest small (sym e ∙ more.is) r)
      (λ q m l. run-likewise vs (file_with v vs file past) (past_with v vs file past) shapes.1 others.1 e q m l)
    where
      longer : List ℕ
      longer = file_with v vs file past

      newer : List Entry
      newer = past_with v vs file past

      cases : (turn : Turn) (step : Step) → step_of Ascii whole (standing Ascii whole past) (length file) ≡ step → length file < length whole
          → Likewise v.type (length (body_of v vs file past)) turn step
          → (ReadTo Ascii whole newer (length longer) → (m : ℕ) → length whole ≤ length longer + m
          → answer_from vs longer newer ≡ as_drafted (length whole) (run Ascii m whole (length longer) newer))
          → after_turn file past turn (answer_from vs longer newer) ≡ as_drafted (length whole) (run Ascii n whole (length file) past)
      cases turn step q k (stops fault) others =
          rw (run-stop Ascii whole (length file) past n fault k (omega arith) q, offset-small (length file) (omega arith))
      cases turn step q k goes others =
          let there : length longer ≡ length file + 4 + length (body_of v vs file past) = one-longer v vs file past in
          others (subst (λ (at : ℕ). ReadTo Ascii whole newer at) (sym there) (on r q)) (n - 1) (omega (arith, there))
          ∙ ap (λ (at : ℕ). as_drafted (length whole) (run Ascii (n - 1) whole at newer)) there
          ∙ ap (as_drafted (length whole)) (sym (run_on Ascii whole (length file) past n v.type (length (body_of v vs file past)) k (omega arith) q))

-- its records begin with digits
pub made-ascii : (vs : List Values) → 1 ≤ length (made vs) → set_of (made vs) ≡ Ascii
unfolding made completed_from digits
made-ascii [] h = absurd (omega arith)
made-ascii (v ∷ vs) h =
    let more = appended vs (file_with v vs [] []) (past_with v vs [] []) in
    let body = body_of v vs [] [] in
    ascii_set (made (v ∷ vs)) (0x30 + v.type / 10 % 10)
    (ap (λ (f : List ℕ). get_or f 4 0) more.is
    ∙ ap (λ (f : List ℕ). get_or f 0 0) (append_assoc body [] more.rest)
    ∙ first_of body more.rest (completed-front v (addenda_behind v.type vs) (standing Ascii [] [])))
    (omega arith)

-- the writer's answer is the reader's
pub as-the-reader : (vs : List Values) → AllShaped vs → all_fit vs ≡ true → 1 ≤ length (made vs) → length (made vs) ≤ 268_435_456
    → answer_from vs [] [] ≡ as_drafted (length (made vs)) (surveyed (made vs))
unfolding made surveyed
as-the-reader vs shapes fit some small =
    let read : surveyed (made vs) ≡ run Ascii (length (made vs)) (made vs) 0 [] =
    rw (made-ascii vs some, le-leb 1 (length (made vs)) some, le-leb (length (made vs)) 268_435_456 small) in
    run-likewise (made vs) small vs [] [] shapes fit refl start (length (made vs)) (omega arith)
    ∙ ap (as_drafted (length (made vs))) (sym read)

-- what is written has nothing that is outgrown or outside the text
good-fits : (v : Values) (vs : List Values) (file : List ℕ) (past : List Entry) (s : Standing) {u : ℕ} → Shaped v
    → turn_of_row v vs file past s ≡ answers.Good u
    → (first_unfit v (addenda_behind v.type vs) (layout_of v.type).lines v.fields ≡ 0) × (every_here v.parts ≡ true)
unfolding turn_of_row
good-fits v vs file past s shape e =
    let field = field_fault v (addenda_behind v.type vs) s in
    let other = first_unfit_part (sized_parts (layout_of v.type)) v.parts in
    let placed = through (may_follow s.inside s.last s.present v.type) Place _ e in
    let lines = through (eqb field 0) (Field field) _ placed.1 in
    let parts = through (eqb other 0) (Field other) _ lines.1 in
    (fit-lines v (addenda_behind v.type vs) s (eqb-true field 0 lines.0), fit_parts v shape (eqb-true other 0 parts.0))

pub written-fits : (vs : List Values) (file : List ℕ) (past : List Entry) {n : ℕ} {t : Totals} → AllShaped vs → answer_from vs file past ≡ Written n t
    → (all_fit vs ≡ true) × (n ≡ length (completed_from vs file past))
unfolding all_fit answer_from completed_from rows_ended
written-fits [] file past {n} {t} shapes e = (refl, cases (eqb (standing Ascii file past).last 99) e)
  where
    cases : (b : Bool) → cond b (Written (length file) (totals_of (standing Ascii file past))) (Refused Place (length past + 1) (offset_of (length file))) ≡ Written n t
        → n ≡ length file
    cases true q = sym (same_outcome q).0
    cases false q = cc
written-fits (v ∷ vs) file past {n} {t} shapes e =
    cases (turn_of_row v vs file past (standing Ascii file past)) refl e
    (λ q. written-fits vs (file_with v vs file past) (past_with v vs file past) shapes.1 q)
  where
    longer : List ℕ
    longer = file_with v vs file past

    newer : List Entry
    newer = past_with v vs file past

    cases : (turn : Turn) → turn_of_row v vs file past (standing Ascii file past) ≡ turn → after_turn file past turn (answer_from vs longer newer) ≡ Written n t
        → (answer_from vs longer newer ≡ Written n t → (all_fit vs ≡ true) × (n ≡ length (completed_from vs longer newer)))
        → (all_fit (v ∷ vs) ≡ true) × (n ≡ length (completed_from vs longer newer))
    cases (answers.Faulty fault) w q others = (cc, cc)
    cases (answers.Good u) w q others =
        let fits = good-fits v vs file past (standing Ascii file past) shapes.0 w in
        let rest = others q in
        (rw (eq-eqb _ 0 fits.0, fits.1, rest.0), rest.1)

-- what is written is accepted
pub accepted : (vs : List Values) {n : ℕ} {t : Totals} → AllShaped vs → answer_from vs [] [] ≡ Written n t → n ≤ 268_435_456
    → (n ≡ length (made vs)) × (set_of (made vs) ≡ Ascii) × (surveyed (made vs) ≡ answers.Accepted t)
unfolding made
accepted vs {n} {t} shapes e h =
    let fits = written-fits vs [] [] shapes e in
    let some = written-some vs e in (
      fits.1,
      made-ascii vs some,
      written_as (surveyed (made vs)) (length (made vs)) (sym (as-the-reader vs shapes fits.0 some (omega (arith, fits.1))) ∙ e),
    )

-- with rows enough
pub read_back : (vs : List Values) {n : ℕ} {t : Totals} → AllShaped vs → answer_from vs [] [] ≡ Written n t → n ≤ 268_435_456
    → (table : List ℕ) → 7 * t.records.0 ≤ length table → answer_of (made vs) (length table) ≡ answers.Accepted t
unfolding answer_of
read_back vs {t = t} shapes e h table room =
    rw ((accepted vs shapes e h).2, le-leb t.records.0 (length table / 7) (omega arith))
