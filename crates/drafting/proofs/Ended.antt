-- The three ways in which the making of a draft ends, each with the answer, the rows and what they say of the file. Assumes nothing.
use Prim.Native.Nat.{ℕ, ◌*◌, ◌/◌, ◌≤◌, ◌<◌}
use native.Mathlib.Omega.{arith}
use mathlib.Core.Path.{◌≡◌, sym, ap, ap₂, ◌∙◌}
use mathlib.Core.List.{List, ◌++◌}
use lib.ListN.{length, take, drop}
use lib.Seq.{take_at}
use borrow.Author.Tests.{le-leb, lt-leb}
use Rattle.passes.specs.declared.Fault.{Fault}
use Rattle.passes.specs.declared.Fault.TheVariants.{Room}
use Rattle.passes.specs.declared.Totals.{Totals}
use Rattle.passes.specs.Answers.{Answer}
use Rattle.passes.specs.Answers.{Accepted, Refused}
use Rattle.passes.specs.Rows.{rows_of}
use Rattle.passes.specs.Reading.{surveyed}
use Rattle.draft.specs.Values.{values_of_draft}
use Rattle.drafting.specs.DraftOf.{draft_rows_of, draft_answer_of, draft_table_of, DraftOfItself}
use Rattle.drafting.proofs.Rows.{counted}
use Rattle.drafting.proofs.Itself.{draft-itself}

abbrev pub Meets : List ℕ → List ℕ → Answer → List ℕ → Type 0
Meets file draft answer after =
    (answer ≡ draft_answer_of file (length draft)) × ((after ≡ draft_table_of file draft) × DraftOfItself file answer after)

refused-accepted : (fault : Fault) (n o : ℕ) (t : Totals) → Refused fault n o ≡ Accepted t → ⊥
refused-accepted fault n o t e = let z : ◌≡◌ {A = ℕ} 0 1 = cc in omega arith

same-totals : {t u : Totals} → Accepted t ≡ Accepted u → t ≡ u
same-totals e = cc

module _ (file draft : List ℕ) where
  pub no_room : (t : Totals) → surveyed file ≡ Accepted t → length draft / 10 < t.records.0 → Meets file draft (Refused Room t.records.0 0) draft
  unfolding draft_answer_of draft_table_of
  no_room t e h =
      let short = lt-leb t.records.0 (length draft / 10) h in
      (sym (simp (e, short)), (sym (simp (e, short)), λ u x q a. absurd (refused-accepted Room t.records.0 0 u q)))

  pub rows-filled : (t : Totals) (after : List ℕ) → surveyed file ≡ Accepted t → t.records.0 ≤ length draft / 10
      → length (rows_of file) ≡ 7 * t.records.0
      → after ≡ draft_rows_of file ++ drop (length (draft_rows_of file)) draft → Meets file draft (Accepted t) after
  unfolding draft_answer_of draft_table_of
  rows-filled t after e h n f =
      let enough = le-leb t.records.0 (length draft / 10) h in
      let rows = draft_rows_of file in (
        sym (simp (e, enough)),
        (
          f ∙ sym (simp (e, enough)),
          λ u x q a.
              ap (values_of_draft file)
              (ap₂ take (ap (λ (v : Totals). 10 * v.records.0) (sym (same-totals q))) f
              ∙ take_at rows (drop (length rows) draft) (10 * t.records.0) (counted file t.records.0 n))
              ∙ draft-itself file x a,
        ),
      )

  pub refused : (answer : Answer) (fault : Fault) (n o : ℕ) → answer ≡ surveyed file → answer ≡ Refused fault n o → Meets file draft answer draft
  unfolding draft_answer_of draft_table_of
  refused answer fault n o s e =
      let q = sym s ∙ e in
      (e ∙ sym (simp q), (sym (simp q), λ u x p a. absurd (refused-accepted fault n o u (sym e ∙ p))))
