-- Records that stand one after the other in a file, from an offset to an end. Nothing of this has to be believed.
use Rattle.std.specs.Prelude.{ℕ, ◌+◌, Bool, not, List, [], ◌∷◌, ◌≡◌, length}
use Rattle.text.specs.declared.character_set.CharacterSet.{CharacterSet}
use Rattle.frame.specs.Frames.{Whole}
use Rattle.frame.specs.Frames.{part, frame_at}
use Rattle.judge.specs.Alone.{type_of}
use Rattle.order.specs.MayFollow.{is_one_of}
use Rattle.file_as_records.specs.Framed.{Body}
use Rattle.salvage_model.specs.Runs.{leading, following}
use Rattle.salvage_walk.specs.declared.Seen.{Seen}
use Rattle.salvage_walk.specs.declared.Sort.{Sort}
use Rattle.salvage_walk.specs.declared.Sort.TheVariants.{UnderHeader, InStretch, Views}

-- a record whose length field stands at an offset
pub record Stands (file : List ℕ) (at : ℕ) (b : Body) : Type 0 where
  pub whole : frame_at file at ≡ Whole (at + 4) (length b)
  pub body : part (at + 4) (length b) file ≡ b

abbrev pub Spans : List ℕ → ℕ → List Body → ℕ → Type 0
Spans file at [] end = at ≡ end
Spans file at (b ∷ bs) end = Stands file at b × Spans file (at + 4 + length b) bs end

-- what is seen of it
pub record SeenAs (set : CharacterSet) (at : ℕ) (b : Body) (r : Seen) : Type 0 where
  pub start : r.start ≡ at + 4
  pub size : r.size ≡ length b
  pub next : r.next ≡ at + 4 + length b
  pub kind : r.kind ≡ type_of set b

-- a record tested by its type
abbrev pub test_of : CharacterSet → (ℕ → Bool) → Body → Bool
test_of set test b = test (type_of set b)

-- the sorts that are passed over, by their types
abbrev pub of_sort : Sort → ℕ → Bool
of_sort UnderHeader t = not (is_one_of t (10 ∷ 90 ∷ 99 ∷ []))
of_sort InStretch t = not (is_one_of t (20 ∷ 70 ∷ []))
of_sort Views t = is_one_of t (50 ∷ 52 ∷ 54 ∷ [])

-- records parted at the first that does not pass a test, which stands at an offset
pub record Parted (set : CharacterSet) (file : List ℕ) (test : ℕ → Bool) (from : ℕ) (bs : List Body) (end at : ℕ) : Type 0 where
  pub before : Spans file from (leading (test_of set test) bs) at
  pub behind : Spans file at (following (test_of set test) bs) end
