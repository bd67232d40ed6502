-- The rows of a draft one by one, on plain values: one turn of the loop, where the rows end, and the set of the text. Assumes nothing.
use Prim.Native.Nat.{ℕ, suc, ◌+◌, ◌-◌, ◌*◌, ◌/◌, ◌≤◌, ◌<◌, min}
use native.Mathlib.Omega.{arith}
use mathlib.Core.Bool.{Bool, true, false}
use mathlib.Core.List.{List, [], ◌∷◌}
use mathlib.Core.Path.{◌≡◌, refl, sym, ap, ◌∙◌, subst}
use borrow.Author.Tests.{eq-eqb, ne_eqb, leb-true, leb-false}
use lib.Dec.{eqb, leb}
use lib.ListN.{length, get_or, take, drop, length-drop}
use lib.Seq.{take_all, drop-drop}
use Rattle.text.specs.declared.character_set.CharacterSet.{CharacterSet}
use Rattle.text.specs.declared.character_set.CharacterSet.TheVariants.{Ascii}
use Rattle.layout.specs.Layout.{sized_parts}
use Rattle.layout.specs.Packing.{own_in, Packed}
use Rattle.order.specs.MayFollow.{is_carried, may_follow}
use Rattle.standing.specs.History.{Entry}
use Rattle.standing.specs.Standing.{standing, onward, capped_figures, Roomy}
use Rattle.standing.specs.declared.Standing.{Standing}
use Rattle.standing.proofs.Laws.{figures-stopped, roomy}
use Rattle.passes.specs.declared.Fault.{Fault}
use Rattle.passes.specs.declared.Fault.TheVariants.{Place, Field}
use Rattle.passes.specs.declared.Totals.{Totals}
use Rattle.passes.specs.Answers.{Turn}
use Rattle.passes.specs.Answers.{Faulty, Good}
use Rattle.alike.proofs.Figures.{placed}
use Rattle.draft.specs.Outcomes.{Written, Refused}
use Rattle.draft.specs.Owned.{Owned}
use Rattle.draft.specs.Values.{Values, layout_of, values_at, values_of_row, values_of_rows, set_of_text, values_of_draft}
use Rattle.draft.specs.Completed.{addenda_behind, all_sizes, first_unfit_part}
use Rattle.draft.specs.Drafted.{body_of, file_with, past_with, field_fault, turn_of_row, offset_of, rows_ended, answer_from}
use Rattle.draft.proofs.Own.{carried-owned}
use Rattle.draft.proofs.Shapes.{shaped_row, completed-long}
use Rattle.made_is_read.proofs.Record.{follows-carried}
use Rattle.sheet.specs.Sheet.{slot_of, OnSheet}
use Rattle.sheet.proofs.Parts.{record-long}
use Rattle.sheet.proofs.Laws.{sheet-starts, sheet-follows}
use Rattle.draft_survey.specs.CappedOutcome.{capped_outcome}
use Rattle.draft_survey.specs.JudgedRow.{JudgedRow}
use Rattle.draft_survey.proofs.Row.{through, agreed-type, Found}

-- where the rows end
abbrev pub totals_in : Standing → Totals
totals_in s = record { records = s.records; letters = s.letters; bundles = s.bundles; items = s.items; sums = s.whole }

module _ {file : List ℕ} {past : List Entry} {sheet : List ℕ} {s : Standing} (o : OnSheet file past sheet s) (bytes : ℕ) (size : bytes ≡ offset_of (length file)) where
  records-are : s.records.0 ≡ length past
  unfolding standing
  records-are = ap (λ (u : Standing). u.records.0) o.figures

  pub ended-written : s.last ≡ 99 → Written bytes (totals_in s) ≡ capped_outcome (rows_ended file past (standing Ascii file past))
  unfolding rows_ended
  ended-written e = rw (size, ap totals_in o.figures, eq-eqb (standing Ascii file past).last 99 (sym (sheet-follows o).1 ∙ e))

  pub ended-short : (s.last ≡ 99 → ⊥) → Refused Place (s.records.0 + 1) bytes ≡ capped_outcome (rows_ended file past (standing Ascii file past))
  unfolding rows_ended
  ended-short e = rw (size, records-are, ne_eqb (standing Ascii file past).last 99 (λ q. e ((sheet-follows o).1 ∙ q)))

-- figures that differ in the places of a 52's records alone are as roomy
roomy-placed : (u : Standing) (item header heading : ℕ) → Roomy u → Roomy (placed u item header heading)
roomy-placed u item header heading r =
    record {
      records = r.records;
      letters = r.letters;
      bundles = r.bundles;
      opened = r.opened;
      items = r.items;
      ordinal = r.ordinal;
      whole = r.whole;
      letter = r.letter;
      bundle = r.bundle;
      micr = r.micr;
      addenda = r.addenda;
      bofd = r.bofd;
      endorser = r.endorser;
      shown = r.shown;
    }

pub sheet-roomy : {file : List ℕ} {past : List Entry} {sheet : List ℕ} {s : Standing} → OnSheet file past sheet s → length past ≤ 0x2000_0000_0000_0000
    → Roomy s × (capped_figures s ≡ s)
sheet-roomy {file} {past} {s = s} o h = (
  subst Roomy (sym (ap (λ (u : Standing). placed u s.item s.header s.heading) o.figures))
      (roomy-placed (capped_figures (standing Ascii file past)) s.item s.header s.heading (roomy Ascii file past h)),
  figures-stopped s (standing Ascii file past) (ap (λ (u : Standing). u.whole) o.figures) (ap (λ (u : Standing). u.letter) o.figures)
      (ap (λ (u : Standing). u.bundle) o.figures) (ap (λ (u : Standing). u.micr) o.figures),
)

-- what is found of the first of several rows
abbrev pub values_from : CharacterSet → List ℕ → List ℕ → List Values
values_from set text rows = values_of_rows set text (length rows / 10) rows

abbrev pub rows_behind : CharacterSet → List ℕ → List ℕ → List Values
rows_behind set text rows = values_of_rows set text (length rows / 10 - 1) (drop 10 rows)

module _ (set : CharacterSet) (text rows : List ℕ) (some : 10 ≤ length rows) where
  pub rows-first : values_from set text rows ≡ values_of_row set text rows ∷ rows_behind set text rows
  unfolding values_of_rows
  rows-first =
      let fuel : length rows / 10 ≡ suc (length rows / 10 - 1) = omega arith in
      ap (λ (n : ℕ). values_of_rows set text n rows) fuel

  pub rows-rest : rows_behind set text rows ≡ values_from set text (drop 10 rows)
  rows-rest =
      let fuel : length rows / 10 - 1 ≡ length (drop 10 rows) / 10 = omega (arith, length-drop 10 rows) in
      ap (λ (n : ℕ). values_of_rows set text n (drop 10 rows)) fuel

-- what a turn that goes on has found
pub good_turn : (v : Values) (vs : List Values) (file : List ℕ) (past : List Entry) (s : Standing) {k : ℕ} → turn_of_row v vs file past s ≡ Good k
    → (k ≡ v.type) × (is_carried k ≡ true)
unfolding turn_of_row
good_turn v vs file past s e =
    let t = v.type in
    let field = field_fault v (addenda_behind t vs) s in
    let other = first_unfit_part (sized_parts (layout_of t)) v.parts in
    let placed = through (may_follow s.inside s.last s.present t) Place _ e in
    let lines = through (eqb field 0) (Field field) _ placed.1 in
    let parts = through (eqb other 0) (Field other) _ lines.1 in
    let same = agreed-type (file_with v vs file past) s (length file) t parts.1 in
    (same, ap is_carried same ∙ follows-carried s.inside s.last s.present t placed.0)

-- with some of the rows done: the rest gives the answer from here, and the sheet stands for the file so far
pub record Surveyed (set : CharacterSet) (text draft sheet : List ℕ) (s : Standing) (bytes at : ℕ) : Type 0 where
  pub file : List ℕ
  pub past : List Entry
  pub stands : OnSheet file past sheet s
  pub size : bytes ≡ offset_of (length file)
  pub place : at ≡ length past * 10
  pub within : at ≤ length draft
  pub limit : length draft < 0x1_0000_0000_0000_0000
  pub same : capped_outcome (answer_from (values_of_draft text draft) [] []) ≡ capped_outcome (answer_from (values_from set text (drop at draft)) file past)

pub survey-first : (set : CharacterSet) (text draft sheet : List ℕ) (s : Standing) → (10 ≤ length draft → set ≡ set_of_text text draft)
    → length draft < 0x1_0000_0000_0000_0000 → length sheet ≡ 800 → s ≡ capped_figures (standing Ascii [] []) → Surveyed set text draft sheet s 0 0
unfolding values_of_draft values_of_rows
survey-first set text draft sheet s told limit long e = record {
  file = [];
  past = [];
  stands = sheet-starts sheet long s e;
  size = refl;
  place = refl;
  within = omega arith;
  limit = limit;
  same = ap (λ (vs : List Values). capped_outcome (answer_from vs [] [])) (by (leb 10 (length draft)) refl);
}
  where
    by : (b : Bool) → leb 10 (length draft) ≡ b → values_of_rows (set_of_text text draft) text (length draft / 10) draft ≡ values_of_rows set text (length draft / 10) draft
    by true q = rw (told (leb-true 10 (length draft) q))
    by false q = let none : length draft / 10 ≡ 0 = omega (arith, leb-false 10 (length draft) q) in rw none

module _ {set : CharacterSet} {text draft sheet : List ℕ} {s : Standing} {bytes at : ℕ} (v : Surveyed set text draft sheet s bytes at) where
  pub survey-roomy : Roomy s × (capped_figures s ≡ s)
  survey-roomy = sheet-roomy v.stands (omega (arith, v.place, v.within, v.limit))

  pub survey-end : length draft - at < 10
      → capped_outcome (answer_from (values_of_draft text draft) [] []) ≡ capped_outcome (rows_ended v.file v.past (standing Ascii v.file v.past))
  unfolding values_of_rows answer_from
  survey-end h =
      let none : length (drop at draft) / 10 ≡ 0 = omega (arith, length-drop at draft) in
      v.same ∙ rw none

-- the numbers from a row on, as the code takes them
abbrev pub rows_at : List ℕ → ℕ → List ℕ
rows_at draft at = take (length draft - at) (drop at draft)

pub rows-here : (draft : List ℕ) (at : ℕ) → rows_at draft at ≡ drop at draft
rows-here draft at = take_all (length draft - at) (drop at draft) (omega (arith, length-drop at draft))

pub rows-some : (draft : List ℕ) (at : ℕ) → 10 ≤ length draft - at → 10 ≤ length (rows_at draft at)
rows-some draft at h = omega (arith, ap length (rows-here draft at), length-drop at draft)

pub rows-owned : (layouts own rows : List ℕ) → Packed layouts → own ≡ own_in (get_or rows 0 0) (length layouts) layouts → is_carried (get_or rows 0 0) ≡ true
    → Owned (layout_of (get_or rows 0 0)) own
rows-owned layouts own rows p e carried = rw e (carried-owned layouts (get_or rows 0 0) p carried)

-- what is found of the row that comes next
module _ {set : CharacterSet} {text draft sheet : List ℕ} {s : Standing} {bytes at : ℕ} where
  pub record Next (v : Surveyed set text draft sheet s bytes at) (turn : Turn) (after : List ℕ) : Type 0 where
    pub some : 10 ≤ length draft - at
    pub judged : JudgedRow (values_of_row set text (rows_at draft at)) (rows_behind set text (rows_at draft at)) v.file v.past s turn after

  pub next-found : (v : Surveyed set text draft sheet s bytes at) (turn : Turn) (after : List ℕ) → 10 ≤ length draft - at
      → Found set text (rows_at draft at) sheet s turn after → Next v turn after
  next-found v turn after some found =
      let rows : 10 ≤ length (rows_at draft at) = rows-some draft at some in
      record { some = some; judged = found v.file v.past (length (rows_at draft at) / 10 - 1) (omega arith) v.stands }

  module _ {v : Surveyed set text draft sheet s bytes at} {turn : Turn} {after : List ℕ} (x : Next v turn after) where
    same_here : capped_outcome (answer_from (values_of_draft text draft) [] [])
        ≡ capped_outcome (answer_from (values_of_row set text (rows_at draft at) ∷ rows_behind set text (rows_at draft at)) v.file v.past)
    same_here =
        v.same
        ∙ ap (λ (xs : List ℕ). capped_outcome (answer_from (values_from set text xs) v.file v.past)) (sym (rows-here draft at))
        ∙ ap (λ (vs : List Values). capped_outcome (answer_from vs v.file v.past)) (rows-first set text (rows_at draft at) (rows-some draft at x.some))

    pub survey-stop : (fault : Fault) → turn ≡ Faulty fault
        → Refused fault (s.records.0 + 1) bytes ≡ capped_outcome (answer_from (values_of_draft text draft) [] [])
    unfolding answer_from
    survey-stop fault e =
        rw (v.size, records-are v.stands bytes v.size) (sym (same_here ∙ rw (sym x.judged.found ∙ e)))

    module _ (k : ℕ) (good : turn ≡ Good k) where
      pub survey-carried : is_carried (get_or (rows_at draft at) 0 0) ≡ true
      unfolding values_of_row values_at
      survey-carried =
          let g = good_turn (values_of_row set text (rows_at draft at)) (rows_behind set text (rows_at draft at)) v.file v.past (standing Ascii v.file v.past) (sym x.judged.found ∙ good) in
          ap is_carried (sym g.0) ∙ g.1

      pub survey-long : length after ≡ 800
      survey-long = (x.judged.moves k good).long

      pub survey-on : (slot : ℕ) (r : Standing) (more : ℕ) → slot ≡ slot_of k → r ≡ capped_figures (onward Ascii after s k slot)
          → more ≡ min ((layout_of (get_or (rows_at draft at) 0 0)).fixed_length + all_sizes (values_of_row set text (rows_at draft at)).parts) 0xFFFF_FFFF_FFFF_FFFF
          → (framed total : ℕ) → framed ≡ min (4 + more) 0xFFFF_FFFF_FFFF_FFFF → total ≡ min (bytes + framed) 0xFFFF_FFFF_FFFF_FFFF
          → Surveyed set text draft after r total (at + 10)
      unfolding values_of_row values_at answer_from
      survey-on slot r more place m long framed total four whole =
          let rows = rows_at draft at in
          let u = values_of_row set text rows in
          let vs = rows_behind set text rows in
          let some = rows-some draft at x.some in
          let rest : drop 10 rows ≡ drop (at + 10) draft = ap (drop 10) (rows-here draft at) ∙ drop-drop 10 at draft in
          record {
            file = file_with u vs v.file v.past;
            past = past_with u vs v.file v.past;
            stands = rw (m, place) (x.judged.moves k good);
            size = omega (
              arith,
              v.size,
              record-long v.file (body_of u vs v.file v.past),
              completed-long u (addenda_behind u.type vs) (standing Ascii v.file v.past) (shaped_row set text rows),
            );
            place = omega (arith, v.place);
            within = omega (arith, x.some, v.within);
            limit = v.limit;
            same =
                same_here
                ∙ rw (sym x.judged.found ∙ good)
                (ap (λ (ws : List Values). capped_outcome (answer_from ws (file_with u vs v.file v.past) (past_with u vs v.file v.past)))
                (rows-rest set text rows some ∙ ap (values_from set text) rest));
          }
