-- The next record of the new file, by what is marked next. Assumes nothing.
use Prim.Native.Nat.{ℕ, ◌≤◌, ◌<◌}
use native.Mathlib.Omega.{arith}
use mathlib.Core.Bool.{Bool, true, false, false≢true, ◌&&◌, ◌||◌, cond}
use mathlib.Core.List.{List, [], ◌∷◌}
use mathlib.Core.Option.{none, some}
use mathlib.Core.Path.{◌≡◌, refl, sym, ap, ap₂, ◌∙◌, subst}
use lib.Dec.{eqb}
use borrow.Author.Tests.{ne_eqb}
use Rattle.text.specs.declared.character_set.CharacterSet.{CharacterSet}
use Rattle.layout.specs.Layout.{Layout}
use Rattle.layout.specs.Layouts.{cash_letter_control, file_control}
use Rattle.judge.specs.Alone.{type_of}
use Rattle.file_as_records.specs.Framed.{Body}
use Rattle.file_as_records.proofs.Tests.{both}
use Rattle.draft.specs.Values.{Values, layout_of, values_at, values_of_body}
use Rattle.draft.specs.Completed.{addenda_behind}
use Rattle.salvage_model.specs.Kept.{Marked, control_values}
use Rattle.salvage_walk.specs.Spans.{Spans}
use Rattle.salvage_walk.proofs.Sorts.{spans-within}
use Rattle.salvage_marks.specs.declared.Marking.{Marking}
use Rattle.salvage_marks.specs.Left.{is_kept}
use Rattle.salvage_marks.proofs.Marks.{never_both}
use Rattle.salvage_made.specs.ByMarks.{by_marks, bodies_in, addenda_among}
use Rattle.salvage_made.proofs.Addenda.{behind-none}
use Rattle.salvage_next.specs.declared.Cue.{Cue}
use Rattle.salvage_next.specs.declared.Entry.{Entry}
use Rattle.salvage_next.specs.Cued.{Going, Underway, by_status, NextLeft, closes_first, new_control, kept_entry, Cued, Cueing, turns, NextEntry}
use Rattle.salvage_next.proofs.Skipping.{blank-letter-control}

-- the types of values
kept-type : (set : CharacterSet) (b : Body) → (values_of_body set b).type ≡ type_of set b
unfolding values_of_body values_at
kept-type set b = refl

-- the layouts of the controls
letter-layout : layout_of 90 ≡ cash_letter_control
unfolding layout_of
letter-layout = refl

file-layout : layout_of 99 ≡ file_control
unfolding layout_of
file-layout = refl

-- no addenda stand behind a control
letter-addenda : (set : CharacterSet) (b : Body) (vs : List Values) → 0 ≡ addenda_behind (control_values set cash_letter_control (some b)).type vs
unfolding control_values
letter-addenda set b vs = sym (behind-none 90 refl vs)

file-addenda : (set : CharacterSet) (b : Body) (vs : List Values) → 0 ≡ addenda_behind (control_values set file_control (some b)).type vs
unfolding control_values
file-addenda set b vs = sym (behind-none 99 refl vs)

pub underway : (set : CharacterSet) (file : List ℕ) (end : ℕ) (c : Cue) → Cueing set file end c → Underway set file end c.plan
underway set file end c q =
    record { marks = q.cued.marks; going = record { left = q.cued.left; spans = q.cued.spans; alike = q.cued.alike } }

module _ (set : CharacterSet) (keeps : Bool) (kind : ℕ) (b : Body) (others : Bool → List Values) where
  -- what is made where an open letter is closed first
  closing-first : closes_first keeps kind ≡ true
      → by_status set true keeps kind b others ≡ control_values set cash_letter_control none ∷ by_status set false keeps kind b others
  closing-first = by keeps (eqb kind 10) (eqb kind 99)
    where
      by : (s t e : Bool) → cond s t e ≡ true
          → cond s (cond t (control_values set cash_letter_control none ∷ (values_of_body set b ∷ others true)) (values_of_body set b ∷ others true))
          (cond e (control_values set cash_letter_control none ∷ (control_values set file_control (some b) ∷ [])) (control_values set cash_letter_control (some b) ∷ others false))
          ≡ control_values set cash_letter_control none
          ∷ cond s (cond t (values_of_body set b ∷ others true) (values_of_body set b ∷ others false))
          (cond e (control_values set file_control (some b) ∷ []) (control_values set cash_letter_control (some b) ∷ others false))
      by true true e h = refl
      by true false e h = cc
      by false t true h = refl
      by false t false h = cc

  -- and where it is not
  kept_next : (is_open : Bool) → keeps ≡ true → is_open && closes_first keeps kind ≡ false
      → by_status set is_open keeps kind b others ≡ values_of_body set b ∷ others (is_open || eqb kind 10)
  kept_next is_open e = rw e (by is_open (eqb kind 10))
    where
      by : (o t : Bool) → o && t ≡ false
          → cond t (cond o (control_values set cash_letter_control none ∷ (values_of_body set b ∷ others true)) (values_of_body set b ∷ others true)) (values_of_body set b ∷ others o)
          ≡ values_of_body set b ∷ others (o || t)
      by true true h = cc
      by true false h = refl
      by false true h = refl
      by false false h = refl

  ending-closes : keeps ≡ false → kind ≡ 99 → closes_first keeps kind ≡ true
  ending-closes n e = rw (n, e)

  file-ends : (is_open : Bool) → keeps ≡ false → kind ≡ 99 → is_open && closes_first keeps kind ≡ false
      → by_status set is_open keeps kind b others ≡ control_values set file_control (some b) ∷ []
  file-ends true n e h = absurd (never_both (closes_first keeps kind) h (ending-closes n e))
  file-ends false n e h = rw (n, e)

  letter-ends : (is_open : Bool) → keeps ≡ false → (kind ≡ 99 → ⊥)
      → by_status set is_open keeps kind b others ≡ control_values set cash_letter_control (some b) ∷ others false
  letter-ends is_open n e = rw (n, ne_eqb kind 99 e)

at_most_one : (b : Bool) → cond b 1 0 ≤ 1
at_most_one true = omega arith
at_most_one false = omega arith

module _ (set : CharacterSet) (file : List ℕ) (end : ℕ) (c : Cue) (d : c.done ≡ false) (m : Marking)
    (left : (ms : List Marked) → Going set file end c.plan ms → NextLeft set file end c.plan ms m) (closes : Bool)
    (told : closes ≡ closes_first (is_kept m.fate) m.kind) (vs : List Values) (q : Cued set file end c vs) where
  abbrev found : NextLeft set file end c.plan q.marks m
  found = left q.marks (record { left = q.left; spans = q.spans; alike = q.alike })

  abbrev others : Bool → List Values
  others o = by_marks set o found.others

  -- what is made, by what is marked next
  made : vs ≡ by_status set c.«open» (is_kept m.fate) m.kind found.body others
  made = q.values ∙ ap (λ (b : Bool). cond b [] (by_marks set c.«open» q.marks)) d ∙ found.values c.«open»

  -- what is left behind it
  behind : (o : Bool) → Cued set file end (record { plan = m.next; «open» = o; done = false }) (others o)
  behind o =
      record { marks = found.others; left = found.going.left; spans = found.going.spans; alike = found.going.alike; values = refl }

  fewer-left : (o : Bool) → c.plan.at < m.next.at → turns end (record { plan = m.next; «open» = o; done = false }) < turns end c
  fewer-left o h =
      rw d (omega (arith, at_most_one o, spans-within file (bodies_in found.others) m.next.at end found.going.spans))

  pub entry-closing : c.«open» && closes ≡ true → (r : Entry) → r ≡ new_control 90 0 0 c.plan → NextEntry set file end c vs r
  entry-closing h r e =
      let t = both c.«open» closes h in
      subst (NextEntry set file end c vs) (sym e)
      (record {
        body = [];
        value = control_values set cash_letter_control (some []);
        others = by_marks set false q.marks;
        is =
            made
            ∙ ap (λ (o : Bool). by_status set o (is_kept m.fate) m.kind found.body others) t.0
            ∙ closing-first set (is_kept m.fate) m.kind found.body others (sym told ∙ t.1)
            ∙ ap₂ (λ (v : Values) (ws : List Values). v ∷ ws) (blank-letter-control set) (sym (found.values false));
        stands = refl;
        kept = λ never. absurd (false≢true never);
        control = λ _. (refl, ap (λ (k : Layout). control_values set k (some [])) (sym letter-layout));
        addenda = letter-addenda set [] (by_marks set false q.marks);
        next = record { marks = q.marks; left = q.left; spans = q.spans; alike = q.alike; values = refl };
        fewer = rw (t.0, d) (omega arith);
      })

  module _ (h : c.«open» && closes ≡ false) where
    not-closed : c.«open» && closes_first (is_kept m.fate) m.kind ≡ false
    not-closed = ap (λ (t : Bool). c.«open» && t) (sym told) ∙ h

    pub entry_kept : is_kept m.fate ≡ true → (r : Entry)
        → ((bs : List Body) → Spans file m.next.at bs end → r ≡ kept_entry c.«open» m (addenda_among set m.kind bs))
        → NextEntry set file end c vs r
    entry_kept e r made_of =
        let o = c.«open» || eqb m.kind 10 in
        subst (NextEntry set file end c vs) (sym (made_of (bodies_in found.others) found.going.spans))
        (record {
          body = found.body;
          value = values_of_body set found.body;
          others = others o;
          is = made ∙ kept_next set (is_kept m.fate) m.kind found.body others c.«open» e not-closed;
          stands = found.stands;
          kept = λ _. refl;
          control = λ never. absurd (false≢true (sym never));
          addenda = sym (found.addenda e o) ∙ ap (λ (t : ℕ). addenda_behind t (others o)) (found.kind e ∙ sym (kept-type set found.body));
          next = behind o;
          fewer = fewer-left o (found.moved (λ made _. never_both (is_kept m.fate) (ap is_kept made) e));
        })

    module _ (n : is_kept m.fate ≡ false) (k : ℕ) (r : Entry) (e : r ≡ new_control k m.start m.size m.next) where
      pub entry-control : (m.kind ≡ 99 → ⊥) → k ≡ 90 → NextEntry set file end c vs r
      entry-control never is-90 =
          subst (NextEntry set file end c vs) (sym (e ∙ ap (λ (t : ℕ). new_control t m.start m.size m.next) is-90))
          (record {
            body = found.body;
            value = control_values set cash_letter_control (some found.body);
            others = others false;
            is = made ∙ letter-ends set (is_kept m.fate) m.kind found.body others c.«open» n never;
            stands = found.stands;
            kept = λ kept. absurd (false≢true kept);
            control = λ _. (refl, ap (λ (l : Layout). control_values set l (some found.body)) (sym letter-layout));
            addenda = letter-addenda set found.body (others false);
            next = behind false;
            fewer = fewer-left false (found.moved (λ _ last. never last));
          })

      pub entry_ending : m.kind ≡ 99 → k ≡ 99 → NextEntry set file end c vs r
      entry_ending last is-99 =
          subst (NextEntry set file end c vs) (sym (e ∙ ap (λ (t : ℕ). new_control t m.start m.size m.next) is-99))
          (record {
            body = found.body;
            value = control_values set file_control (some found.body);
            others = [];
            is = made ∙ file-ends set (is_kept m.fate) m.kind found.body others c.«open» n last not-closed;
            stands = found.stands;
            kept = λ kept. absurd (false≢true kept);
            control = λ _. (refl, ap (λ (l : Layout). control_values set l (some found.body)) (sym file-layout));
            addenda = file-addenda set found.body [];
            next = record { marks = found.others; left = found.going.left; spans = found.going.spans; alike = found.going.alike; values = refl };
            fewer = rw d (omega (arith, found.on));
          })
