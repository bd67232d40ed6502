-- What is left to be made of a torn file, where a cue stands. Nothing of this has to be believed.
use Rattle.std.specs.Prelude.{ℕ, ◌+◌, ◌-◌, ◌*◌, ◌≤◌, ◌<◌, Bool, true, false, ◌||◌, cond, List, [], ◌∷◌, ◌≡◌, eqb}
use Rattle.std.proofs.Math.Option.{some}
use Rattle.text.specs.declared.character_set.CharacterSet.{CharacterSet}
use Rattle.layout.specs.Layouts.{cash_letter_control, file_control}
use Rattle.frame.specs.Frames.{part}
use Rattle.judge.specs.Alone.{type_of}
use Rattle.file_as_records.specs.Framed.{Body}
use Rattle.draft.specs.Values.{Values, layout_of, values_of_body}
use Rattle.draft.specs.Completed.{addenda_behind}
use Rattle.salvage_model.specs.Kept.{Marked, control_values}
use Rattle.salvage_walk.specs.Spans.{Spans}
use Rattle.salvage_marks.specs.declared.Plan.{Plan}
use Rattle.salvage_marks.specs.declared.Marking.{Marking}
use Rattle.salvage_marks.specs.declared.Fate.TheVariants.{MadeNew}
use Rattle.salvage_marks.specs.Left.{is_kept, Left}
use Rattle.salvage_made.specs.ByMarks.{closing, by_marks, bodies_in, addenda_among, CountedAlike, is_control}
use Rattle.salvage_next.specs.declared.Cue.{Cue}
use Rattle.salvage_next.specs.declared.Entry.{Entry}

-- the marks that are still to come, where a plan stands
pub record Going (set : CharacterSet) (file : List ℕ) (end : ℕ) (p : Plan) (ms : List Marked) : Type 0 where
  pub left : Left set file end p ms
  pub spans : Spans file p.at (bodies_in ms) end
  pub alike : CountedAlike set ms

pub record Underway (set : CharacterSet) (file : List ℕ) (end : ℕ) (p : Plan) : Type 0 where
  pub marks : List Marked
  pub going : Going set file end p marks

-- what is made of a record that is not dropped, by whether it is kept and its type, and behind it
abbrev pub by_status : CharacterSet → Bool → Bool → ℕ → Body → (Bool → List Values) → List Values
by_status set is_open keeps kind b others =
    cond keeps
    (cond (eqb kind 10) (closing set is_open (values_of_body set b ∷ others true)) (values_of_body set b ∷ others is_open))
    (cond (eqb kind 99) (closing set is_open (control_values set file_control (some b) ∷ [])) (control_values set cash_letter_control (some b) ∷ others false))

-- the next record that is not dropped, or the file's control where there is none, and what is left behind it
pub record NextLeft (set : CharacterSet) (file : List ℕ) (end : ℕ) (p : Plan) (ms : List Marked) (r : Marking) : Type 0 where
  pub body : Body
  pub others : List Marked
  pub values : (is_open : Bool) → by_marks set is_open ms ≡ by_status set is_open (is_kept r.fate) r.kind body (λ o. by_marks set o others)
  pub stands : part r.start r.size file ≡ body
  pub going : Going set file end r.next others
  pub kind : is_kept r.fate ≡ true → r.kind ≡ type_of set body
  pub addenda : is_kept r.fate ≡ true → (is_open : Bool) → addenda_behind r.kind (by_marks set is_open others) ≡ addenda_among set r.kind (bodies_in others)
  pub on : p.at ≤ r.next.at
  pub moved : (r.fate ≡ MadeNew → r.kind ≡ 99 → ⊥) → p.at < r.next.at

abbrev pub closes_first : Bool → ℕ → Bool
closes_first keeps kind = cond keeps (eqb kind 10) (eqb kind 99)

abbrev pub new_control : ℕ → ℕ → ℕ → Plan → Entry
new_control kind start size p =
    record {
      kept = false;
      kind = kind;
      start = start;
      size = size;
      addenda = 0;
      next = record { plan = p; «open» = false; done = eqb kind 99 };
    }

abbrev pub kept_entry : Bool → Marking → ℕ → Entry
kept_entry is_open m addenda =
    record {
      kept = true;
      kind = m.kind;
      start = m.start;
      size = m.size;
      addenda = addenda;
      next = record { plan = m.next; «open» = is_open || eqb m.kind 10; done = false };
    }

-- the values that are still to be made out
pub record Cued (set : CharacterSet) (file : List ℕ) (end : ℕ) (c : Cue) (vs : List Values) : Type 0 where
  pub marks : List Marked
  pub left : Left set file end c.plan marks
  pub spans : Spans file c.plan.at (bodies_in marks) end
  pub alike : CountedAlike set marks
  pub values : vs ≡ cond c.done [] (by_marks set c.«open» marks)

pub record Cueing (set : CharacterSet) (file : List ℕ) (end : ℕ) (c : Cue) : Type 0 where
  pub values : List Values
  pub cued : Cued set file end c values

-- how many turns are left at most
abbrev pub turns : ℕ → Cue → ℕ
turns end c = 2 * (end - c.plan.at) + cond c.«open» 1 0 + cond c.done 0 1

-- The next record that is made out: one that is kept, or a new control, to which the fields of the walked one are lent (of none: no characters).
pub record NextEntry (set : CharacterSet) (file : List ℕ) (end : ℕ) (c : Cue) (vs : List Values) (r : Entry) : Type 0 where
  pub body : Body
  pub value : Values
  pub others : List Values
  pub is : vs ≡ value ∷ others
  pub stands : part r.start r.size file ≡ body
  pub kept : r.kept ≡ true → value ≡ values_of_body set body
  pub control : r.kept ≡ false → (is_control r.kind ≡ true) × (value ≡ control_values set (layout_of r.kind) (some body))
  pub addenda : r.addenda ≡ addenda_behind value.type others
  pub next : Cued set file end r.next others
  pub fewer : turns end r.next < turns end c
