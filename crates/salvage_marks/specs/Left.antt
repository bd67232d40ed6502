-- What is left to be marked, where a plan stands. Nothing of this has to be believed.
use Rattle.std.specs.Prelude.{ℕ, ◌+◌, ◌≤◌, Bool, true, false, ◌&&◌, cond, List, [], ◌∷◌, ◌++◌, map, ◌≡◌, eqb, length}
use Rattle.text.specs.declared.character_set.CharacterSet.{CharacterSet}
use Rattle.judge.specs.Alone.{type_of}
use Rattle.passes.specs.Answers.{number_of}
use Rattle.file_as_records.specs.Framed.{Body}
use Rattle.salvage_model.specs.Runs.{Group, run, loose, groups_of, sound_alone, run_fault}
use Rattle.salvage_model.specs.Kept.{Fate, kept, renewed, dropped, Marked, marked, out_of_place, run_fate, sections_of, sections_marks}
use Rattle.salvage_walk.specs.Spans.{Stands, Spans}
use Rattle.salvage_runs.specs.declared.Grouped.{Grouped}
use Rattle.salvage_runs.specs.RunAt.{is_run, RunAt}
use Rattle.salvage_marks.specs.declared.Fate as code
use Rattle.salvage_marks.specs.declared.Fate.TheVariants.{Kept, MadeNew, Dropped}
use Rattle.salvage_marks.specs.declared.Plan.{Plan}
use Rattle.salvage_marks.specs.declared.Marking.{Marking}

-- a fate as the model says it
abbrev pub meant : code.Fate → Fate
meant Kept = kept
meant MadeNew = renewed
meant (Dropped fault) = dropped (number_of fault)

abbrev pub is_kept : code.Fate → Bool
is_kept Kept = true
is_kept MadeNew = false
is_kept (Dropped fault) = false

abbrev pub is_dropped : code.Fate → Bool
is_dropped Kept = false
is_dropped MadeNew = false
is_dropped (Dropped fault) = true

-- groups under a header that is kept or not
abbrev pub group_fate : CharacterSet → Body → Bool → Group → Fate
group_fate set header letter_kept (loose bs) = out_of_place
group_fate set header letter_kept (run bs) = cond (sound_alone set 10 header) (run_fate letter_kept (run_fault set header bs)) out_of_place

abbrev pub bodies_of : Group → List Body
bodies_of (loose bs) = bs
bodies_of (run bs) = bs

abbrev pub groups_marked : CharacterSet → Body → Bool → List Group → List Marked
groups_marked set header letter_kept [] = []
groups_marked set header letter_kept (g ∷ gs) =
    map (marked (group_fate set header letter_kept g)) (bodies_of g) ++ groups_marked set header letter_kept gs

-- behind the records under a header
abbrev pub tail_marked : CharacterSet → Bool → List Body → List Marked
tail_marked set letter_kept [] = []
tail_marked set letter_kept (b ∷ bs) =
    cond (eqb (type_of set b) 90) (marked (cond letter_kept renewed out_of_place) b ∷ sections_marks set (sections_of set bs))
    (sections_marks set (sections_of set (b ∷ bs)))

-- what is left: of a group whose fate is known, of the groups under the header, and behind them
pub record Left (set : CharacterSet) (file : List ℕ) (end : ℕ) (p : Plan) (ms : List Marked) : Type 0 where
  pub fate : Fate
  pub header : Body
  pub own : List Body
  pub under : List Body
  pub rest : List Body
  pub own_spans : Spans file p.at own p.group
  pub under_spans : Spans file p.group under p.stop
  pub rest_spans : Spans file p.stop rest end
  pub told : meant p.fate ≡ fate
  pub sound : p.sound ≡ sound_alone set 10 header
  pub stands : p.sound ≡ true → Stands file p.heading header
  pub limit : end ≤ 268_435_456
  pub marks : ms ≡ map (marked fate) own ++ (groups_marked set header p.kept (groups_of set under) ++ tail_marked set p.kept rest)

pub record Planned (set : CharacterSet) (file : List ℕ) (end : ℕ) (p : Plan) : Type 0 where
  pub marks : List Marked
  pub left : Left set file end p marks

-- the next mark, and what is left behind it
pub record NextMark (set : CharacterSet) (file : List ℕ) (end : ℕ) (p : Plan) (ms : List Marked) (r : Marking) : Type 0 where
  pub body : Body
  pub fate : Fate
  pub others : List Marked
  pub is : ms ≡ marked fate body ∷ others
  pub left : Left set file end r.next others
  pub stands : Stands file p.at body
  pub start : r.start ≡ p.at + 4
  pub size : r.size ≡ length body
  pub kind : r.kind ≡ type_of set body
  pub told : meant r.fate ≡ fate
  pub at : r.next.at ≡ p.at + 4 + length body

-- the fate found for a group that begins where a plan stands
pub record GroupFate (set : CharacterSet) (file : List ℕ) (p : Plan) (g : Grouped) (r : code.Fate) : Type 0 where
  pub loosely : is_run g.group && p.sound ≡ false → meant r ≡ out_of_place
  pub runs : is_run g.group && p.sound ≡ true → (w : RunAt set file p.heading p.at g.end) → meant r ≡ run_fate p.kept (run_fault set w.header w.bodies)
