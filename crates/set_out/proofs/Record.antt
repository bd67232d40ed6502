-- A record set down in a buffer: its parts one after the other, and its length, its fixed part and its parts together. Assumes nothing.
use Prim.Native.Nat.{ℕ, ◌+◌, ◌≤◌, ◌<◌, min}
use native.Mathlib.Omega.{arith}
use mathlib.Core.List.{List, [], ◌∷◌, ◌++◌, append-nil}
use mathlib.Core.Path.{◌≡◌, refl, ap, sym, ◌∙◌}
use lib.ListN.{length, get_or, drop, length-append, drop_of_length-le}
use lib.Seq.{sets, length-sets, sets-eq, take-length}
use Rattle.text.specs.declared.character_set.CharacterSet.{CharacterSet}
use Rattle.text.specs.declared.data_types.DataType.{DataType}
use Rattle.frame.specs.Frames.{part}
use Rattle.layout.specs.Layout.{sized_parts}
use Rattle.layout.specs.Packing.{sized_of, sized_from}
use Rattle.file_as_records.specs.Framed.{length_field, framed}
use Rattle.draft.specs.Values.{Piece, piece, layout_of, values_of_row}
use Rattle.draft.specs.Completed.{characters_of, all_parts, all_sizes}
use Rattle.draft.proofs.Shapes.{piece-long, parts-long}
use Rattle.draft_rows.proofs.Parts.{piece-size}
use Rattle.completing.proofs.Laws.{sets_behind}
use Rattle.fitting.proofs.Laws.{pieces_at, size_at, PartsLeft, all-pieces, parts_first, next-piece, parts-on}

-- what is left of the parts, which begin so far into the record, behind what has been set down gives them all
module _ (set : CharacterSet) (text rows ps : List ℕ) (n : ℕ) where
  abbrev pub pieces_from : ℕ → ℕ → List Piece
  pieces_from far k = pieces_at rows ps n set text far k

  abbrev pub whole_of : List ℕ → List ℕ
  whole_of out = sets out (4 + (layout_of (get_or rows 0 0)).fixed_length) (all_parts (values_of_row set text rows).parts)

  pub record Down (out₀ out : List ℕ) (k far : ℕ) : Type 0 where
    pub long : length out ≡ length out₀
    pub room : 4 + far + all_sizes (pieces_from far k) ≤ length out₀
    pub onward : sets out (4 + far) (all_parts (pieces_from far k)) ≡ whole_of out₀

  abbrev pub DownTo : List ℕ → List ℕ → ℕ → ℕ → Type 0
  DownTo out₀ out place k = PartsLeft rows ps n (Down out₀ out k) place k

  pub down-first : sized_from n ps ≡ sized_parts (layout_of (get_or rows 0 0)) → {place : ℕ} → place ≡ (layout_of (get_or rows 0 0)).fixed_length → place ≤ 0xFFFF_FFFF_FFFF_FFFF
      → (out : List ℕ) → 4 + ((layout_of (get_or rows 0 0)).fixed_length + all_sizes (values_of_row set text rows).parts) ≤ length out → DownTo out out place 0
  down-first are e short out h =
      let all = all-pieces rows ps n are set text in
      parts_first rows ps n are
      (record { long = refl; room = omega (arith, ap all_sizes all); onward = ap (λ (ps : List Piece). sets out (4 + (layout_of (get_or rows 0 0)).fixed_length) (all_parts ps)) all })
      e short

  module _ {out₀ out : List ℕ} {place k : ℕ} (left : DownTo out₀ out place k) where
    pub down-all : length ps ≤ k → out ≡ whole_of out₀
    unfolding all_parts
    down-all h = rw (drop_of_length-le ps h) at left.tells.onward

    module _ (short : length out₀ ≤ 0xFFFF_FFFF_FFFF_FFFF) (inside : k < length ps) where
      here : left.far ≡ place
      here = omega (arith, left.stops, left.tells.room)

      -- the next of them
      abbrev pub this : Piece
      this = piece set text (sized_of (n + k) (get_or ps k 0)).data_type (get_or rows 1 0 + place) (size_at rows ps n k)

      both : pieces_from left.far k ≡ this ∷ pieces_from (place + size_at rows ps n k) (k + 1)
      both = next-piece rows ps n left inside set text left.far ∙ rw here

      sized : all_sizes (pieces_from left.far k) ≡ size_at rows ps n k + all_sizes (pieces_from (place + size_at rows ps n k) (k + 1))
      unfolding all_sizes
      sized =
          ap all_sizes both
          ∙ rw (piece-size set text (sized_of (n + k) (get_or ps k 0)).data_type (get_or rows 1 0 + place) (size_at rows ps n k))

      pub down-room : 4 + place + size_at rows ps n k ≤ length out
      down-room = omega (arith, here, sized, left.tells.room, left.tells.long)

      pub down-on : {t : DataType} → t ≡ (sized_of (n + k) (get_or ps k 0)).data_type → {out' : List ℕ}
          → out' ≡ sets out (4 + place) (characters_of (piece set text t (get_or rows 1 0 + place) (size_at rows ps n k)))
          → DownTo out₀ out' (place + size_at rows ps n k) (k + 1)
      unfolding all_parts
      down-on {t} same {out'} e =
          let m = size_at rows ps n k in
          let down : out' ≡ sets out (4 + place) (characters_of this) = e ∙ ap (λ (t : DataType). sets out (4 + place) (characters_of (piece set text t (get_or rows 1 0 + place) m))) same in
          let long : length (characters_of this) ≡ m = piece-long this ∙ piece-size set text (sized_of (n + k) (get_or ps k 0)).data_type (get_or rows 1 0 + place) m in
          let next : 4 + place + length (characters_of this) ≡ 4 + (place + m) = omega arith in
          let others : List ℕ = all_parts (pieces_from (place + m) (k + 1)) in
          let far : left.far + m ≡ place + m = ap (λ (j : ℕ). j + m) here in
          parts-on rows ps n left inside (omega (arith, here, sized, left.tells.room))
          (rw far
          (record {
            long = ap length down ∙ length-sets out (4 + place) (characters_of this) ∙ left.tells.long;
            room = omega (arith, here, sized, left.tells.room);
            onward =
                ap (λ (l : List ℕ). sets l (4 + (place + m)) others) down
                ∙ ap (λ (j : ℕ). sets (sets out (4 + place) (characters_of this)) j others) (sym next)
                ∙ sym (sets_behind out (4 + place) (characters_of this) others)
                ∙ ap (λ (ps : List Piece). sets out (4 + place) (all_parts ps)) (sym both)
                ∙ ap (λ (j : ℕ). sets out (4 + j) (all_parts (pieces_from left.far k))) (sym here)
                ∙ left.tells.onward;
          }))

-- how long it is
pub record-size : (out fixed : List ℕ) (ps : List Piece) → length out ≤ 0xFFFF_FFFF_FFFF_FFFF → {k : ℕ} → length fixed ≡ k → 4 + (length fixed + all_sizes ps) ≤ length out
    → {size : ℕ} → size ≡ min (k + all_sizes ps) 0xFFFF_FFFF_FFFF_FFFF → (size ≡ length fixed + all_sizes ps) × (4 + size ≤ length out)
record-size out fixed ps short sized room e = (omega arith, omega arith)

-- a whole record at the start of a buffer
pub record-set-down : (out fixed : List ℕ) (ps : List Piece) (size k : ℕ) → size ≡ length fixed + all_sizes ps → length fixed ≡ k → 4 + size ≤ length out
    → {out₁ out₂ out₃ : List ℕ} → out₁ ≡ sets out 0 (length_field size) → out₂ ≡ sets out₁ 4 (part 0 (length fixed) fixed) → out₃ ≡ sets out₂ (4 + k) (all_parts ps)
    → out₃ ≡ framed ((fixed ++ all_parts ps) ∷ []) ++ drop (4 + size) out
record-set-down out fixed ps size k e sized room {out₁} {out₂} first second third =
    let rest = all_parts ps in
    let both = length-append fixed rest in
    let all : List ℕ = length_field size ++ (fixed ++ rest) in
    let same : size ≡ length (fixed ++ rest) = omega (arith, parts-long ps) in
    let long : 0 + length all ≡ 4 + size = omega arith in
    third
    ∙ ap (λ (n : ℕ). sets out₂ (4 + n) rest) (sym sized)
    ∙ ap (λ (o : List ℕ). sets o (4 + length fixed) rest) (second ∙ ap (sets out₁ 4) (take-length fixed))
    ∙ sym (sets_behind out₁ 4 fixed rest)
    ∙ ap (λ (o : List ℕ). sets o 4 (fixed ++ rest)) first
    ∙ sym (sets_behind out 0 (length_field size) (fixed ++ rest))
    ∙ sets-eq all out 0 (omega arith)
    ∙ ap (λ (n : ℕ). all ++ drop n out) long
    ∙ ap (λ (n : ℕ). (length_field n ++ (fixed ++ rest)) ++ drop (4 + size) out) same
    ∙ ap (λ (b : List ℕ). (length_field (length (fixed ++ rest)) ++ b) ++ drop (4 + size) out) (sym (append-nil (fixed ++ rest)))
