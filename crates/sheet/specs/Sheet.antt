-- The sheet: lent memory on which the writer completes a record's fixed part before anything of the file is written. It has a slot for the file
-- header, the newest cash letter header, the newest bundle header and the newest item, with which a 52 is compared, and one for any other
-- record. Nothing of this has to be believed.
use Rattle.std.specs.Prelude.{ℕ, ◌+◌, ◌≤◌, Bool, false, ◌||◌, cond, List, [], ◌∷◌, ◌≡◌, eqb, length}
use Rattle.text.specs.declared.character_set.CharacterSet.TheVariants.{Ascii}
use Rattle.frame.specs.Frames.{part}
use Rattle.order.specs.MayFollow.{is_item}
use Rattle.standing.specs.History.{Entry}
use Rattle.standing.specs.Standing.{standing, capped_figures}
use Rattle.standing.specs.declared.Standing.{Standing}
use Rattle.draft.specs.Values.{layout_of}

abbrev pub slot_of : ℕ → ℕ
slot_of t = cond (eqb t 1) 0 (cond (eqb t 10) 160 (cond (eqb t 20) 320 (cond (is_item t) 480 640)))

-- figures without the places of the records with which a 52 is compared
abbrev pub unplaced : Standing → Standing
unplaced s =
    record {
      last = s.last;
      inside = s.inside;
      present = s.present;
      holder = s.holder;
      records = s.records;
      letters = s.letters;
      bundles = s.bundles;
      opened = s.opened;
      items = s.items;
      ordinal = s.ordinal;
      whole = s.whole;
      letter = s.letter;
      bundle = s.bundle;
      micr = s.micr;
      addenda = s.addenda;
      bofd = s.bofd;
      endorser = s.endorser;
      shown = s.shown;
      stated = s.stated;
      item = 0;
      header = 0;
      heading = 0;
      indicator = s.indicator;
      signature = s.signature;
    }

-- the first 80 characters of a record on the sheet and of one in the file
abbrev pub SameFront : List ℕ → ℕ → List ℕ → ℕ → Type 0
SameFront sheet o file at = part (o + 4) 80 sheet ≡ part (at + 4) 80 file

-- whether a record of a sort has come
abbrev pub has_come : (ℕ → Bool) → List Entry → Bool
has_come sort [] = false
has_come sort (r ∷ rs) = sort r.type || has_come sort rs

-- records whose fixed parts all lie within so many bytes
abbrev pub Within : ℕ → List Entry → Type 0
Within n [] = Unit {0}
Within n (r ∷ rs) = (r.offset + 4 + (layout_of r.type).fixed_length ≤ n) × Within n rs

-- a sheet and figures that stand for a file and its records, newest first
pub record OnSheet (file : List ℕ) (past : List Entry) (sheet : List ℕ) (s : Standing) : Type 0 where
  pub long : length sheet ≡ 800
  pub figures : unplaced s ≡ unplaced (capped_figures (standing Ascii file past))
  pub item : 1 ≤ length past → SameFront sheet s.item file (standing Ascii file past).item
  pub header : 1 ≤ length past → SameFront sheet s.header file (standing Ascii file past).header
  pub heading : 1 ≤ length past → SameFront sheet s.heading file (standing Ascii file past).heading
  -- where none of them is there yet, what stands at the start is compared
  pub start : 1 ≤ length past → SameFront sheet 0 file 0
  -- each of them stands in its slot
  pub item_slot : s.item ≡ cond (has_come is_item past) 480 0
  pub header_slot : s.header ≡ cond (has_come (λ t. eqb t 20) past) 320 0
  pub heading_slot : s.heading ≡ cond (has_come (λ t. eqb t 10) past) 160 0
  pub within : Within (length file) past
  -- behind the start stands a record of some type
  pub begun : s.last ≡ 0 → (past ≡ []) × (length file ≡ 0)
