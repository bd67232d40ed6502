-- The draft of an accepted file, the file itself being the text (request 4, readings 41 and 45).
use Rattle.std.specs.Prelude.{ℕ, zero, suc, ◌+◌, ◌*◌, ◌/◌, ◌&&◌, cond, List, [], ◌∷◌, ◌++◌, map, ◌≡◌, leb, eqb, length, take, Some}
use Rattle.text.specs.CharacterSet.{set_of}
use Rattle.text.specs.declared.character_set.CharacterSet.{CharacterSet}
use Rattle.text.specs.Characters.{is_blank}
use Rattle.text.specs.DataTypes.{every}
use Rattle.frame.specs.Frames.{Frame}
use Rattle.frame.specs.Frames.{Cut}
use Rattle.frame.specs.Frames.{part, frame_at}
use Rattle.layout.specs.Layout.{Sized, sized_parts}
use Rattle.layout.specs.Layouts.{bundle_control}
use Rattle.judge.specs.Alone.{type_of, stated_size}
use Rattle.standing.specs.History.{one}
use Rattle.passes.specs.declared.Totals.{Totals}
use Rattle.passes.specs.Answers.{Answer}
use Rattle.passes.specs.Answers.{Accepted}
use Rattle.passes.specs.Reading.{surveyed, in_room, table_after}
use Rattle.file_as_records.specs.Framed.{field_of}
use Rattle.arrangement.specs.Tree.{File}
use Rattle.arrangement.specs.Arranged.{Arranges}
use Rattle.draft.specs.Values.{layout_of, values_of_draft, values_of}
use Rattle.copying.specs.Times.{times}

-- the sizes of a record's parts, "numbers that the writer does not look at are 0"
abbrev pub sizes_in : CharacterSet → List ℕ → List ℕ
sizes_in set body = take 7 (map (λ (s : Sized). stated_size set s body) (sized_parts (layout_of (type_of set body))) ++ times 7 0)

-- a record's row: its type, where its fixed part begins, 1 for a blank MICR total, the sizes of its parts
abbrev pub row_of : CharacterSet → List ℕ → ℕ → List ℕ
row_of set body start =
    type_of set body ∷ start ∷ one (eqb (type_of set body) 70 && every (is_blank set) (field_of bundle_control 4 body)) ∷ sizes_in set body

abbrev pub row_and : CharacterSet → List ℕ → Frame → (ℕ → List ℕ) → List ℕ
row_and set file Cut others = []
row_and set file (Some x) others = row_of set (part x.start x.size file) x.start ++ others (x.start + x.size)

-- the rows of the records that the lengths frame from an offset on, n at most
unfoldable pub rows_from : CharacterSet → ℕ → List ℕ → ℕ → List ℕ
rows_from set zero file at = []
rows_from set (suc n) file at = cond (leb (length file) at) [] (row_and set file (frame_at file at) (λ next. rows_from set n file next))

abbrev pub draft_rows_of : List ℕ → List ℕ
draft_rows_of file = rows_from (set_of file) (length file) file 0

-- the reader's own answer, or ROOM with the rows needed (reading 45): rows available are the whole tens
unfoldable pub draft_answer_of : List ℕ → ℕ → Answer
draft_answer_of file draft_length = in_room (draft_length / 10) (surveyed file)

-- rows of ten where the file is accepted; the draft untouched on every refusal (reading 45)
unfoldable pub draft_table_of : List ℕ → List ℕ → List ℕ
draft_table_of file draft = table_after (draft_answer_of file (length draft)) (draft_rows_of file) draft

-- the rows filled are a draft of the file's own values
abbrev pub DraftOfItself : List ℕ → Answer → List ℕ → Type 0
DraftOfItself file answer after =
    (t : Totals) (x : File) → answer ≡ Accepted t → Arranges file x → values_of_draft file (take (10 * t.records.0) after) ≡ values_of (set_of file) x
