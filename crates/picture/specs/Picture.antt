-- The picture call (document 01): "Given a file and the offset of a length field, it hands back the Image Data part of the 52 there".
use Rattle.std.specs.Prelude.{ℕ, ◌+◌, Bool, ◌&&◌, List, [], leb, eqb, length, Some, Result, Ok, Err}
use Rattle.text.specs.CharacterSet.{set_of}
use Rattle.text.specs.declared.character_set.CharacterSet.{CharacterSet}
use Rattle.frame.specs.Frames.{Frame, Cut, part, frame_at}
use Rattle.judge.specs.Alone.{Judged, Sound, type_of, alone}
use Rattle.layout.specs.Layouts.{image_view_data}
use Rattle.judge.specs.Image.{image_start, image_size}
use Rattle.frame.specs.declared.Extent.{Extent}
use Rattle.judge.specs.declared.Flaw.{Flaw}
use Rattle.judge.specs.declared.Flaw.TheVariants as flaws
use Rattle.picture.specs.declared.Unfound.{Unfound}
use Rattle.picture.specs.declared.Unfound.TheVariants as unfounds
use Rattle.frame.specs.Unless.{unless}

-- what is found: the part, or why there is none
abbrev pub Found : Type 0
Found = Result Extent Unfound

abbrev pub At : ℕ → ℕ → Found
At start size = Ok (record { start = start; size = size })

pattern abbrev pub SizeRefused : Found
SizeRefused = Err unfounds.Size

pattern abbrev pub CutRefused : Found
CutRefused = Err unfounds.Cut

pattern abbrev pub LengthRefused : Found
LengthRefused = Err unfounds.Length

pattern abbrev pub TypeRefused : Found
TypeRefused = Err unfounds.AnotherType

pattern abbrev pub FieldRefused : ℕ → Found
FieldRefused n = Err (unfounds.Field n)

-- document 01's number of each answer, and its field ("0 unless FIELD")
abbrev pub number_of : Found → ℕ
number_of (Ok part) = 0
number_of SizeRefused = 1
number_of CutRefused = 3
number_of LengthRefused = 4
number_of TypeRefused = 5
number_of (FieldRefused n) = 7

abbrev pub field_of : Found → ℕ
field_of (Ok part) = 0
field_of SizeRefused = 0
field_of CutRefused = 0
field_of LengthRefused = 0
field_of TypeRefused = 0
field_of (FieldRefused n) = n

-- where the part starts in the file and how long it is; refused: 0 and 0
abbrev pub start_of : Found → ℕ
start_of (Ok p) = p.start
start_of (Err u) = 0

abbrev pub size_of : Found → ℕ
size_of (Ok p) = p.size
size_of (Err u) = 0

-- "the caller's own bytes"; refused: an empty part
abbrev pub bytes_of : List ℕ → Found → List ℕ
bytes_of file (Ok p) = part p.start p.size file
bytes_of file (Err u) = []

-- "File: 1 to 268,435,456 bytes"
abbrev pub size_allowed : List ℕ → Bool
size_allowed file = leb 1 (length file) && leb (length file) 268_435_456

-- what is wrong with the record alone, as the picture call says it
abbrev pub unfound_of : Flaw → Unfound
unfound_of flaws.Length = unfounds.Length
unfound_of flaws.UnknownType = unfounds.AnotherType
unfound_of (flaws.Field n) = unfounds.Field n

-- the record judged alone, and the picture where it is sound
abbrev pub when_sound : Judged → Found → Found
when_sound Sound picture = picture
when_sound (Err flaw) picture = Err (unfound_of flaw)

-- a body that starts at a place of the file: LENGTH below 2, TYPE "any type but 52", then LENGTH, FIELD, LENGTH, FIELD
unfoldable pub in_body : CharacterSet → ℕ → List ℕ → Found
in_body set start body =
    unless (leb 2 (length body)) LengthRefused
    (unless (eqb (type_of set body) 52) TypeRefused
    (when_sound (alone set image_view_data body) (At (start + image_start set body) (image_size set body))))

abbrev pub in_frame : CharacterSet → List ℕ → Frame → Found
in_frame set file Cut = CutRefused
in_frame set file (Some x) = in_body set x.start (part x.start x.size file)

-- SIZE, CUT, and the record's own faults
unfoldable pub picture_at : List ℕ → ℕ → Found
picture_at file offset = unless (size_allowed file) SizeRefused (in_frame (set_of file) file (frame_at file offset))
