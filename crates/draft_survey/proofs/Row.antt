-- One row of a draft on plain values: what is found of it on the sheet is what is found of it behind the file. Assumes nothing.
use Prim.Native.Nat.{ℕ, ◌+◌, ◌-◌, ◌/◌, ◌≤◌}
use native.Mathlib.Omega.{arith}
use mathlib.Core.Bool.{Bool, true, false}
use mathlib.Core.List.{List, ◌++◌}
use mathlib.Core.Path.{◌≡◌, refl, sym, ap, ◌∙◌}
use borrow.Author.Tests.{ne_eqb}
use lib.Dec.{eqb}
use lib.ListN.{length, get_or, take, drop}
use lib.Seq.{sets, length-sets}
use Rattle.text.specs.declared.character_set.CharacterSet.{CharacterSet}
use Rattle.text.specs.declared.character_set.CharacterSet.TheVariants.{Ascii}
use Rattle.frame.specs.Unless.{unless}
use Rattle.layout.specs.Layout.{sized_parts}
use Rattle.judge.specs.Alone.{first_wrong}
use Rattle.order.specs.MayFollow.{is_carried, may_follow}
use Rattle.standing.specs.History.{Entry}
use Rattle.standing.specs.Standing.{standing}
use Rattle.standing.specs.declared.Standing.{Standing}
use Rattle.agree.specs.Links.{link_fault}
use Rattle.agree.specs.Totals.{total_fault}
use Rattle.passes.specs.declared.Fault.{Fault}
use Rattle.passes.specs.declared.Fault.TheVariants.{Place, Field, Link, Total}
use Rattle.passes.specs.Answers.{Turn}
use Rattle.passes.specs.Answers.{Faulty, Good}
use Rattle.passes.specs.CheckOrder.{agreement}
use Rattle.draft.specs.Values.{Values, layout_of, values_at, values_of_row, values_of_rows}
use Rattle.draft.specs.Completed.{addenda_behind, fixed_part, all_parts, completed, first_unfit, first_unfit_part, lower}
use Rattle.draft.specs.Drafted.{body_of, field_fault, turn_of_row}
use Rattle.draft.proofs.Own.{carried-wide}
use Rattle.draft.proofs.Shapes.{Shaped, shaped_row, fixed-long}
use Rattle.draft.proofs.Judged.{first-wrong-front}
use Rattle.made_is_read.proofs.Record.{follows-carried}
use Rattle.sheet.specs.Sheet.{slot_of, OnSheet}
use Rattle.sheet.proofs.Parts.{part-stored}
use Rattle.sheet.proofs.Slots.{low-slot}
use Rattle.sheet.proofs.Laws.{sheet-follows, sheet-fixed, sheet-agrees, sheet-moves}
use Rattle.draft_survey.specs.JudgedRow.{JudgedRow}

-- a check that is passed, and the turn that goes on behind it
pub through : (c : Bool) (fault : Fault) (next : Turn) {t : ℕ} → unless c (Faulty fault) next ≡ Good t → (c ≡ true) × (next ≡ Good t)
through true fault next e = (refl, e)
through false fault next e = ((cc), (cc))

never : (fault : Fault) (t : ℕ) → Faulty fault ≡ Good t → ⊥
never fault t e = let z : ◌≡◌ {A = ℕ} 0 1 = cc in omega arith

pub agreed-type : (file : List ℕ) (s : Standing) (at t : ℕ) {k : ℕ} → agreement Ascii file s at t ≡ Good k → k ≡ t
unfolding agreement
agreed-type file s at t e =
    let links = through (eqb (link_fault Ascii file s t at) 0) (Link (link_fault Ascii file s t at)) _ e in
    let sums = through (eqb (total_fault Ascii file s t at) 0) (Total (total_fault Ascii file s t at)) _ links.1 in
    cc sums.1

-- the fixed part as it is completed on the sheet
abbrev pub fixed_on : Values → ℕ → Standing → List ℕ
fixed_on v addenda s = fixed_part v addenda s (layout_of v.type).lines v.fields

abbrev pub fault_on : Values → ℕ → Standing → ℕ
fault_on v addenda s =
    lower (first_unfit v addenda (layout_of v.type).lines v.fields) (first_wrong Ascii (layout_of v.type).lines (fixed_on v addenda s))

abbrev pub follows : Standing → ℕ → Bool
follows s t = may_follow s.inside s.last s.present t

module _ {file : List ℕ} {past : List Entry} {sheet : List ℕ} {s : Standing} (o : OnSheet file past sheet s) (v : Values) (vs : List Values) (shaped : Shaped v) where
  body-begins : body_of v vs file past ≡ fixed_on v (addenda_behind v.type vs) s ++ all_parts v.parts
  unfolding completed
  body-begins =
      ap (λ (xs : List ℕ). xs ++ all_parts v.parts) (sym (sheet-fixed o v (addenda_behind v.type vs) (layout_of v.type).lines v.fields))

  field_is : field_fault v (addenda_behind v.type vs) (standing Ascii file past) ≡ fault_on v (addenda_behind v.type vs) s
  unfolding field_fault
  field_is =
      ap (λ (n : ℕ). lower (first_unfit v (addenda_behind v.type vs) (layout_of v.type).lines v.fields) n)
      (ap (first_wrong Ascii (layout_of v.type).lines) body-begins
      ∙ first-wrong-front v.type (fixed_on v (addenda_behind v.type vs) s) (all_parts v.parts) (fixed-long v (addenda_behind v.type vs) s shaped))

  follows_is : follows (standing Ascii file past) v.type ≡ follows s v.type
  follows_is = let f = sheet-follows o in rw (f.0, f.1, f.2)

  place-judged : follows s v.type ≡ false → (after : List ℕ) → JudgedRow v vs file past s (Faulty Place) after
  unfolding turn_of_row
  place-judged e after = record { found = rw (follows_is ∙ e); moves = λ t q. absurd (never Place t q) }

  module _ (may : follows s v.type ≡ true) where
    field-judged : (n : ℕ) → n ≡ fault_on v (addenda_behind v.type vs) s → (n ≡ 0 → ⊥) → (after : List ℕ) → JudgedRow v vs file past s (Faulty (Field n)) after
    unfolding turn_of_row
    field-judged n e some after = record {
      found = rw (follows_is ∙ may, field_is ∙ sym e, ne_eqb n 0 some);
      moves = λ t q. absurd (never (Field n) t q);
    }

    module _ (fits : fault_on v (addenda_behind v.type vs) s ≡ 0) where
      part-judged : (n : ℕ) → n ≡ first_unfit_part (sized_parts (layout_of v.type)) v.parts → (n ≡ 0 → ⊥) → (after : List ℕ)
          → JudgedRow v vs file past s (Faulty (Field n)) after
      unfolding turn_of_row
      part-judged n e some after = record {
        found = rw (follows_is ∙ may, field_is ∙ fits, sym e, ne_eqb n 0 some);
        moves = λ t q. absurd (never (Field n) t q);
      }

      agreement-judged : first_unfit_part (sized_parts (layout_of v.type)) v.parts ≡ 0 → (after : List ℕ)
          → after ≡ sets sheet (slot_of v.type + 4) (fixed_on v (addenda_behind v.type vs) s) → (turn : Turn)
          → turn ≡ agreement Ascii after s (slot_of v.type) v.type → JudgedRow v vs file past s turn after
      unfolding turn_of_row
      agreement-judged whole after q turn e =
          let fixed : List ℕ = fixed_on v (addenda_behind v.type vs) s in
          let long = fixed-long v (addenda_behind v.type vs) s shaped in
          let carried = follows-carried s.inside s.last s.present v.type may in
          record {
            found =
                e
                ∙ ap (λ (xs : List ℕ). agreement Ascii xs s (slot_of v.type) v.type) q
                ∙ sheet-agrees o v.type (body_of v vs file past) fixed (all_parts v.parts) body-begins long carried may
                ∙ sym (rw (follows_is ∙ may, field_is ∙ fits, whole));
            moves = λ t g.
                rw (agreed-type after s (slot_of v.type) v.type (sym e ∙ g), q)
                (sheet-moves o v.type (body_of v vs file past) fixed (all_parts v.parts) body-begins long carried may);
          }

-- the same of a row, in the words of the code's contracts: what is found of it, whatever file the sheet stands for and whatever stands behind it
abbrev pub FoundWith : CharacterSet → List ℕ → List ℕ → ℕ → List ℕ → Standing → Turn → List ℕ → Type 0
FoundWith set text rows addenda sheet s turn after =
    (file : List ℕ) (past : List Entry) (vs : List Values) → addenda ≡ addenda_behind (get_or rows 0 0) vs → OnSheet file past sheet s
    → JudgedRow (values_of_row set text rows) vs file past s turn after

abbrev pub Found : CharacterSet → List ℕ → List ℕ → List ℕ → Standing → Turn → List ℕ → Type 0
Found set text rows sheet s turn after =
    (file : List ℕ) (past : List Entry) (n : ℕ) → length rows / 10 ≡ n + 1 → OnSheet file past sheet s
    → JudgedRow (values_of_row set text rows) (values_of_rows set text n (drop 10 rows)) file past s turn after

pub found-row : (set : CharacterSet) (text rows sheet : List ℕ) (s : Standing) (turn : Turn) (after : List ℕ) (addenda : ℕ)
    → addenda ≡ addenda_behind (get_or rows 0 0) (values_of_rows set text (length rows / 10 - 1) (drop 10 rows))
    → FoundWith set text rows addenda sheet s turn after → Found set text rows sheet s turn after
found-row set text rows sheet s turn after addenda behind found file past n count o =
    let fuel : length rows / 10 - 1 ≡ n = omega arith in
    found file past (values_of_rows set text n (drop 10 rows))
    (behind ∙ ap (λ (m : ℕ). addenda_behind (get_or rows 0 0) (values_of_rows set text m (drop 10 rows))) fuel) o

pub row-place : (set : CharacterSet) (text rows : List ℕ) (addenda : ℕ) (sheet : List ℕ) (s : Standing) → follows s (get_or rows 0 0) ≡ false
    → (after : List ℕ) → FoundWith set text rows addenda sheet s (Faulty Place) after
unfolding values_of_row values_at
row-place set text rows addenda sheet s e after file past vs behind o = place-judged o (values_of_row set text rows) vs (shaped_row set text rows) e after

pub row_carried : (s : Standing) (t : ℕ) → follows s t ≡ true → is_carried t ≡ true
row_carried s t may = follows-carried s.inside s.last s.present t may

pub row_room : (s : Standing) (t at : ℕ) → follows s t ≡ true → at ≡ slot_of t → at + 4 + (layout_of t).fixed_length ≤ 800
row_room s t at may slot = omega (arith, low-slot t (row_carried s t may), carried-wide t (row_carried s t may), slot)

-- its fixed part of a size is completed in its slot
pub record Filled (set : CharacterSet) (text rows sheet : List ℕ) (s : Standing) (addenda at size : ℕ) (after : List ℕ) : Type 0 where
  pub may : follows s (get_or rows 0 0) ≡ true
  pub slot : at ≡ slot_of (get_or rows 0 0)
  pub room : length sheet ≡ 800
  pub stored : after ≡ sets sheet (at + 4) (fixed_part (values_of_row set text rows) addenda s (layout_of (get_or rows 0 0)).lines (values_of_row set text rows).fields)
  pub long : size ≡ (layout_of (get_or rows 0 0)).fixed_length

module _ {set : CharacterSet} {text rows sheet : List ℕ} {s : Standing} {addenda at size : ℕ} {after : List ℕ} (f : Filled set text rows sheet s addenda at size after) where
  long_as : length (fixed_on (values_of_row set text rows) addenda s) ≡ size
  unfolding values_of_row values_at
  long_as = fixed-long (values_of_row set text rows) addenda s (shaped_row set text rows) ∙ sym f.long

  pub row_fits : at + 4 + size ≤ 800
  row_fits = omega (arith, row_room s (get_or rows 0 0) at f.may f.slot, f.long)

  stored-as : after ≡ sets sheet (at + 4) (fixed_on (values_of_row set text rows) addenda s)
  unfolding values_of_row values_at
  stored-as = f.stored

  pub row_within : at + 4 + size ≤ length after
  row_within =
      let long : length after ≡ length sheet = ap length stored-as ∙ length-sets sheet (at + 4) (fixed_on (values_of_row set text rows) addenda s) in
      omega (arith, row_fits, f.room)

  pub row-front : take (at + 4 + size - (at + 4)) (drop (at + 4) after) ≡ fixed_on (values_of_row set text rows) addenda s
  row-front =
      let fixed : List ℕ = fixed_on (values_of_row set text rows) addenda s in
      let width : at + 4 + size - (at + 4) ≡ length fixed = omega (arith, long_as) in
      ap (λ (n : ℕ). take n (drop (at + 4) after)) width
      ∙ ap (λ (xs : List ℕ). take (length fixed) (drop (at + 4) xs)) stored-as
      ∙ part-stored sheet (at + 4) fixed (omega (arith, row_fits, f.room, long_as))

  pub row-long : length (take (at + 4 + size - (at + 4)) (drop (at + 4) after)) ≡ (layout_of (get_or rows 0 0)).fixed_length
  row-long = ap length row-front ∙ long_as ∙ f.long

  behind-as : (vs : List Values) → addenda ≡ addenda_behind (get_or rows 0 0) vs → addenda ≡ addenda_behind (values_of_row set text rows).type vs
  unfolding values_of_row values_at
  behind-as vs behind = behind

  -- the lowest field at fault, of the fixed part as it stands on the sheet
  module _ (field : ℕ) (fault : field ≡ lower (first_unfit (values_of_row set text rows) addenda (layout_of (get_or rows 0 0)).lines (values_of_row set text rows).fields) (first_wrong Ascii (layout_of (get_or rows 0 0)).lines (take (at + 4 + size - (at + 4)) (drop (at + 4) after)))) where
    fault-as : (vs : List Values) → addenda ≡ addenda_behind (get_or rows 0 0) vs
        → field ≡ fault_on (values_of_row set text rows) (addenda_behind (values_of_row set text rows).type vs) s
    unfolding values_of_row values_at
    fault-as vs behind =
        fault
        ∙ ap (λ (xs : List ℕ). lower (first_unfit (values_of_row set text rows) addenda (layout_of (get_or rows 0 0)).lines (values_of_row set text rows).fields) (first_wrong Ascii (layout_of (get_or rows 0 0)).lines xs)) row-front
        ∙ ap (λ (k : ℕ). fault_on (values_of_row set text rows) k s) (behind-as vs behind)

    pub row_field : (field ≡ 0 → ⊥) → FoundWith set text rows addenda sheet s (Faulty (Field field)) after
    unfolding values_of_row values_at
    row_field some file past vs behind o =
        field-judged o (values_of_row set text rows) vs (shaped_row set text rows) f.may field (fault-as vs behind)
        some after

    module _ (fits : field ≡ 0) (other : ℕ) (unfit : other ≡ first_unfit_part (sized_parts (layout_of (get_or rows 0 0))) (values_of_row set text rows).parts) where
      pub row-part : (other ≡ 0 → ⊥) → FoundWith set text rows addenda sheet s (Faulty (Field other)) after
      unfolding values_of_row values_at
      row-part some file past vs behind o =
          part-judged o (values_of_row set text rows) vs (shaped_row set text rows) f.may
          (sym (fault-as vs behind) ∙ fits) other unfit some after

      pub row-agrees : other ≡ 0 → (turn : Turn) → turn ≡ agreement Ascii after s at (get_or rows 0 0) → FoundWith set text rows addenda sheet s turn after
      unfolding values_of_row values_at
      row-agrees whole turn e file past vs behind o =
          agreement-judged o (values_of_row set text rows) vs (shaped_row set text rows) f.may
          (sym (fault-as vs behind) ∙ fits) (sym unfit ∙ whole) after
          (stored-as
          ∙ ap (λ (m : ℕ). sets sheet (m + 4) (fixed_on (values_of_row set text rows) addenda s)) f.slot
          ∙ ap (λ (k : ℕ). sets sheet (slot_of (get_or rows 0 0) + 4) (fixed_on (values_of_row set text rows) k s)) (behind-as vs behind)) turn
          (e ∙ ap (λ (m : ℕ). agreement Ascii after s m (get_or rows 0 0)) f.slot)
