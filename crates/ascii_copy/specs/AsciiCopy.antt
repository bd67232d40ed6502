-- The ASCII copy of a file (request 5): "the copy changes character fields only". Lengths stay as they are.
use Rattle.std.specs.Prelude.{ℕ, zero, suc, ◌+◌, cond, List, [], ◌∷◌, ◌++◌, map, ◌≡◌, eqb, length, take, drop, Some}
use Rattle.text.specs.declared.character_set.CharacterSet.{CharacterSet}
use Rattle.text.specs.declared.character_set.CharacterSet.TheVariants.{Ascii, Ebcdic}
use Rattle.text.specs.declared.data_types.DataType.{DataType}
use Rattle.text.specs.declared.data_types.DataType.TheVariants.{AB, A, AN, ANS, Binary, N, NB, NBD, NBQ, NBMc, NBMcd, NBMcdo, NBMU}
use Rattle.text.specs.CharacterSet.{set_of}
use Rattle.frame.specs.Frames.{Frame}
use Rattle.frame.specs.Frames.{Cut, Whole}
use Rattle.frame.specs.Frames.{part, frame_at}
use Rattle.layout.specs.Layout.{Sized, sized_parts}
use Rattle.layout.specs.Layouts.{image_view_data}
use Rattle.judge.specs.Alone.{type_of, stated_size}
use Rattle.ascii_copy.specs.CodePage037.{counterpart}

-- each byte as the character that it stands for
abbrev pub translated : List ℕ → List ℕ
translated xs = map counterpart xs

-- a field of a data type: "Binary fields are never translated"
abbrev pub copied_as : DataType → List ℕ → List ℕ
copied_as AB xs = translated xs
copied_as A xs = translated xs
copied_as AN xs = translated xs
copied_as ANS xs = translated xs
copied_as Binary xs = xs
copied_as N xs = translated xs
copied_as NB xs = translated xs
copied_as NBD xs = translated xs
copied_as NBQ xs = translated xs
copied_as NBMc xs = translated xs
copied_as NBMcd xs = translated xs
copied_as NBMcdo xs = translated xs
copied_as NBMU xs = translated xs

-- The parts of a 52, where its stated lengths put them. Where the lengths do not add up, what lies past them is taken for characters.
unfoldable pub copied_parts : List Sized → List ℕ → List ℕ → List ℕ
copied_parts [] body rest = translated rest
copied_parts (s ∷ ss) body rest =
    copied_as s.data_type (take (stated_size Ebcdic s body) rest) ++ copied_parts ss body (drop (stated_size Ebcdic s body) rest)

-- a record: a 52 alone has Binary parts, behind its fixed part of 139 bytes (clause 22)
unfoldable pub copied_body : List ℕ → List ℕ
copied_body body =
    cond (eqb (type_of Ebcdic body) 52) (translated (take 139 body) ++ copied_parts (sized_parts image_view_data) body (drop 139 body)) (translated body)

-- record by record as the lengths frame them, n at most; bytes that no length frames are kept
abbrev pub copied_frame : List ℕ → Frame → (List ℕ → List ℕ) → List ℕ
copied_frame bytes Cut others = bytes
copied_frame bytes (Some x) others = take x.start bytes ++ (copied_body (part x.start x.size bytes) ++ others (drop (x.start + x.size) bytes))

unfoldable pub copied_frames : ℕ → List ℕ → List ℕ
copied_frames zero bytes = bytes
copied_frames (suc n) bytes = copied_frame bytes (frame_at bytes 0) (λ others. copied_frames n others)

-- an ASCII file is its own copy
abbrev pub copied_from : CharacterSet → List ℕ → List ℕ
copied_from Ascii file = file
copied_from Ebcdic file = copied_frames (length file) file

abbrev pub ascii_copy : List ℕ → List ℕ
ascii_copy file = copied_from (set_of file) file

-- an offset where a record begins as the lengths frame the file: at the start, and behind each record
pub data Begins (file : List ℕ) : ℕ → Type 0 where
  first : Begins file 0
  behind : (at start size : ℕ) → Begins file at → frame_at file at ≡ Whole start size → Begins file (start + size)
