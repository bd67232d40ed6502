-- Records that are dropped are passed over. Assumes nothing.
use Prim.Native.Nat.{ℕ, ◌≤◌, ◌<◌}
use native.Mathlib.Omega.{arith}
use mathlib.Core.Bool.{Bool, true, false, false≢true}
use mathlib.Core.List.{List, [], ◌∷◌}
use mathlib.Core.Option.{none, some}
use mathlib.Core.Path.{◌≡◌, refl, sym, ap, ◌∙◌, subst}
use Rattle.text.specs.declared.character_set.CharacterSet.{CharacterSet}
use Rattle.layout.specs.Layouts.{cash_letter_control, file_control}
use Rattle.judge.specs.Alone.{type_of}
use Rattle.file_as_records.specs.Framed.{Body}
use Rattle.draft.specs.Values.{Values}
use Rattle.salvage_model.specs.Kept.{Fate, kept, Marked, marked, control_values}
use Rattle.salvage_walk.specs.Spans.{Spans}
use Rattle.salvage_marks.specs.declared.Fate as code
use Rattle.salvage_marks.specs.declared.Fate.TheVariants.{Kept, MadeNew, Dropped}
use Rattle.salvage_marks.specs.declared.Plan.{Plan}
use Rattle.salvage_marks.specs.declared.Marking.{Marking}
use Rattle.salvage_marks.specs.Left.{meant, is_kept, is_dropped, Left, Planned, NextMark}
use Rattle.salvage_marks.proofs.Marks.{left-none}
use Rattle.salvage_made.specs.ByMarks.{closing, by_marks, bodies_in, CountedAlike}
use Rattle.salvage_next.specs.Cued.{Going, Underway, by_status, NextLeft}

-- a new control takes no field of no characters: each that is given has some
pub blank-letter-control : (set : CharacterSet) → control_values set cash_letter_control none ≡ control_values set cash_letter_control (some [])
unfolding control_values
blank-letter-control set = refl

pub blank-file-control : (set : CharacterSet) → control_values set file_control none ≡ control_values set file_control (some [])
unfolding control_values
blank-file-control set = refl

-- what is kept
kept_by : (f : code.Fate) → is_kept f ≡ true → meant f ≡ kept
kept_by Kept e = refl
kept_by MadeNew e = absurd (false≢true e)
kept_by (Dropped fault) e = absurd (false≢true e)

module _ (set : CharacterSet) where
  past-dropped : (f : code.Fate) (b : Body) (ms : List Marked) → is_dropped f ≡ true → (is_open : Bool)
      → by_marks set is_open (marked (meant f) b ∷ ms) ≡ by_marks set is_open ms
  unfolding by_marks
  past-dropped Kept b ms e is_open = absurd (false≢true e)
  past-dropped MadeNew b ms e is_open = absurd (false≢true e)
  past-dropped (Dropped fault) b ms e is_open = refl

  by-status : (f : code.Fate) (b : Body) (ms : List Marked) (kind : ℕ) → kind ≡ type_of set b → is_dropped f ≡ false → (is_open : Bool)
      → by_marks set is_open (marked (meant f) b ∷ ms) ≡ by_status set is_open (is_kept f) kind b (λ o. by_marks set o ms)
  unfolding by_marks
  by-status Kept b ms kind q h is_open = rw q
  by-status MadeNew b ms kind q h is_open = rw q
  by-status (Dropped fault) b ms kind q h is_open = absurd (false≢true (sym h))

  by-none : (is_open : Bool) → by_marks set is_open [] ≡ closing set is_open (control_values set file_control (some []) ∷ [])
  unfolding by_marks
  by-none is_open = ap (λ (w : Values). closing set is_open (w ∷ [])) (blank-file-control set)

module _ (set : CharacterSet) (file : List ℕ) (end : ℕ) (from : Plan) where
  -- at the head of the loop: what is left of the marks makes the same
  pub record Skipping (p : Plan) (ms : List Marked) : Type 0 where
    pub rest : List Marked
    pub going : Going set file end p rest
    pub same : (is_open : Bool) → by_marks set is_open ms ≡ by_marks set is_open rest
    pub on : from.at ≤ p.at

  abbrev pub Skips : Plan → Type 0
  Skips p = (ms : List Marked) → Going set file end from ms → Skipping p ms

  pub skips-first : Skips from
  skips-first ms g = record { rest = ms; going = g; same = λ o. refl; on = omega arith }

  module _ {p : Plan} (v : Skips p) where
    pub skips-planned : Underway set file end from → Planned set file end p
    skips-planned u = let k = v u.marks u.going in record { marks = k.rest; left = k.going.left }

    pub skips-end : end ≤ p.at → (ms : List Marked) → Going set file end from ms
        → NextLeft set file end from ms (record { start = 0; size = 0; kind = 99; fate = MadeNew; next = p })
    skips-end h ms g =
        let k = v ms g in
        record {
          body = [];
          others = k.rest;
          values = λ o. k.same o ∙ ap (by_marks set o) (left-none set file end p k.rest k.going.left h) ∙ by-none set o;
          stands = refl;
          going = k.going;
          kind = λ e. absurd (false≢true e);
          addenda = λ e. absurd (false≢true e);
          on = k.on;
          moved = λ never. absurd (never refl refl);
        }

    module _ (r : Marking) (next : (ms : List Marked) → Left set file end p ms → NextMark set file end p ms r) where
      -- what is left behind the next mark
      behind : (ms : List Marked) (g : Going set file end p ms) → Going set file end r.next (next ms g.left).others
      behind ms g =
          let n = next ms g.left in
          record {
            left = n.left;
            spans = subst (λ (at : ℕ). Spans file at (bodies_in n.others) end) (sym n.at) (subst (λ (l : List Marked). Spans file p.at (bodies_in l) end) n.is g.spans).1;
            alike = (subst (CountedAlike set) n.is g.alike).1;
          }

      -- the next mark as the code says it
      said : (ms : List Marked) (g : Going set file end p ms) → ms ≡ marked (meant r.fate) (next ms g.left).body ∷ (next ms g.left).others
      said ms g =
          let n = next ms g.left in
          n.is ∙ ap (λ (f : Fate). marked f n.body ∷ n.others) (sym n.told)

      pub skips-less : Underway set file end from → p.at < r.next.at
      skips-less u =
          let k = v u.marks u.going in
          omega (arith, (next k.rest k.going.left).at)

      pub skips-on : is_dropped r.fate ≡ true → Skips r.next
      skips-on e ms g =
          let k = v ms g in
          let n = next k.rest k.going.left in
          record {
            rest = n.others;
            going = behind k.rest k.going;
            same = λ o. k.same o ∙ ap (by_marks set o) (said k.rest k.going) ∙ past-dropped set r.fate n.body n.others e o;
            on = omega (arith, k.on, n.at);
          }

      pub skips-stop : is_dropped r.fate ≡ false → (ms : List Marked) → Going set file end from ms → NextLeft set file end from ms r
      skips-stop h ms g =
          let k = v ms g in
          let n = next k.rest k.going.left in
          let alike = subst (CountedAlike set) n.is k.going.alike in
          record {
            body = n.body;
            others = n.others;
            values = λ o.
                k.same o ∙ ap (by_marks set o) (said k.rest k.going) ∙ by-status set r.fate n.body n.others r.kind n.kind h o;
            stands = rw (n.start, n.size) n.stands.body;
            going = behind k.rest k.going;
            kind = λ _. n.kind;
            addenda = λ e o. rw n.kind (alike.0 (sym n.told ∙ kept_by r.fate e) o);
            on = omega (arith, k.on, n.at);
            moved = λ _. omega (arith, k.on, n.at);
          }
