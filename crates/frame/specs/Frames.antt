-- Annex D: before each record stands a four-byte length, high byte first, which does not count itself.
use Rattle.std.specs.Prelude.{ℕ, ◌+◌, ◌*◌, List, leb, length, get_or, take, drop, Some, None}
use Rattle.std.specs.declared.option.Option.{Option}
use Rattle.frame.specs.declared.Extent.{Extent}
use Rattle.frame.specs.Unless.{unless}

-- what stands at an offset: a record whose body starts at a place and is so long, or none that is whole
abbrev pub Frame : Type 0
Frame = Option Extent

pattern abbrev pub Cut : Frame
Cut = None

abbrev pub Whole : ℕ → ℕ → Frame
Whole start size = Some (record { start = start; size = size })

-- bytes of a list from a place on, as far as there are any
abbrev pub part : ℕ → ℕ → List ℕ → List ℕ
part start size xs = take size (drop start xs)

-- the number in four bytes, high byte first
abbrev pub length_in : List ℕ → ℕ
length_in xs = get_or xs 0 0 * 0x100_0000 + get_or xs 1 0 * 0x1_0000 + get_or xs 2 0 * 0x100 + get_or xs 3 0

-- the length that stands at an offset of the file
abbrev pub length_at : List ℕ → ℕ → ℕ
length_at file offset = length_in (drop offset file)

-- The record whose length stands at an offset. CUT (document 01): "fewer than 4 bytes left, or fewer left than the length says".
-- Else where its body starts, and how long it is.
unfoldable pub frame_at : List ℕ → ℕ → Frame
frame_at file offset =
    unless (leb (offset + 4) (length file)) Cut
    (unless (leb (offset + 4 + length_at file offset) (length file)) Cut (Whole (offset + 4) (length_at file offset)))
